-- `highest`: the versions of the key by their codes.
use Rattle.bitcask.specs.engine.Views.{shown}
use Rattle.mvcc.proofs.conflict.SearchLaws.{end_within}
use Rattle.mvcc.proofs.version.SeenLaws.{highest_by}
use Rattle.mvcc.proofs.read.get.highest.Goals as goal

pub seek-requires : goal.seek-requires
seek-requires c = let a = c.args in (end_within (shown a.view.now) c.version_code-last.result (rw c.as_slice.ensures at c.past-end.ensures))

pub returns : goal.returns
returns c = let a = c.args in highest_by (shown a.view.now) a.handle a.key.now a.handle.version c.version_code-last.ensures (rw c.as_slice.ensures at c.past-end.ensures) c.version_code-first.ensures (rw c.as_slice-2.ensures at c.seek.ensures)
