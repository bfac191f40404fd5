-- `stored` looks the snapshot up.
use Rattle.bitcask.specs.engine.Views.{shown}
use Rattle.bitcask.proofs.engine.LookLaws.{found_stands}
use Rattle.mvcc.proofs.as_of.PastLaws.{stored_none, stored_some}
use Rattle.mvcc.proofs.as_of.stored.Goals as goal

pub value_at-requires : goal.value_at-requires
value_at-requires c = (found_stands _ _ c.find.ensures _ c.in-Ok.is)

pub returns-in_default : goal.returns-in_default
returns-in_default c = let a = c.args in stored_none (shown a.view.now) a.version c.snapshot_code-code.ensures _ (rw c.as_slice.ensures at c.find.ensures) c.fresh-handle.ensures _ c.in_default.is

pub returns : goal.returns
returns c = let a = c.args in stored_some (shown a.view.now) a.version c.snapshot_code-code.ensures _ (rw c.as_slice.ensures at c.find.ensures) c.fresh-handle.ensures _ c.in-Ok.is c.value_at.ensures c.read_set.ensures
