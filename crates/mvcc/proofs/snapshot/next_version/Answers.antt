-- `next_version` looks its record up.
use Rattle.bitcask.specs.engine.Views.{shown}
use Rattle.bitcask.proofs.engine.LookLaws.{found_stands}
use Rattle.mvcc.proofs.snapshot.ActiveLaws.{next_missing, next_found}
use Rattle.mvcc.proofs.snapshot.next_version.Goals as goal

pub value_at-requires : goal.value_at-requires
value_at-requires c = (found_stands _ _ c.find.ensures _ c.in-Ok.is)

pub returns-in_default : goal.returns-in_default
returns-in_default c = let a = c.args in next_missing (shown a.view.now) _ c.next_version_code-code.ensures _ (rw c.as_slice.ensures at c.find.ensures) _ c.in_default.is

pub returns : goal.returns
returns c = let a = c.args in next_found (shown a.view.now) _ c.next_version_code-code.ensures _ (rw c.as_slice.ensures at c.find.ensures) _ c.in-Ok.is c.value_at.ensures c.read_version.ensures c.positive.ensures
