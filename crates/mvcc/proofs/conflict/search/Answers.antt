-- `search`: where the versions of the key end, and the key of the row before.
use Rattle.bitcask.specs.engine.Views.{shown}
use Rattle.mvcc.proofs.conflict.SearchLaws.{end_within, search_none, search_stands, search_last}
use Rattle.mvcc.proofs.conflict.search.Goals as goal

pub row_before-requires : goal.row_before-requires
row_before-requires c = let a = c.args in (end_within (shown a.view.now) c.version_code-high.result (rw c.as_slice.ensures at c.past-end.ensures))

pub key_at-requires : goal.key_at-requires
key_at-requires c = let a = c.args in (search_stands (shown a.view.now) a.handle a.key.now c.version_code-high.ensures (rw c.as_slice.ensures at c.past-end.ensures) c.lowest.ensures c.version_code-low.ensures _ (rw c.as_slice-2.ensures at c.row_before.ensures) _ c.in-Some.is)

pub returns-in-None : goal.returns-in-None
returns-in-None c = let a = c.args in search_none (shown a.view.now) a.handle a.key.now c.version_code-high.ensures (rw c.as_slice.ensures at c.past-end.ensures) c.lowest.ensures c.version_code-low.ensures _ (rw c.as_slice-2.ensures at c.row_before.ensures) c.in-None.is

pub returns-in-Some : goal.returns-in-Some
returns-in-Some c = let a = c.args in search_last (shown a.view.now) a.handle a.key.now c.version_code-high.ensures (rw c.as_slice.ensures at c.past-end.ensures) c.lowest.ensures c.version_code-low.ensures _ (rw c.as_slice-2.ensures at c.row_before.ensures) _ c.in-Some.is c.key_at.ensures c.met.ensures
