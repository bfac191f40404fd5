-- `step_between`: the codes of the two bounds, and the step past the last given key.
use Rattle.std.specs.Prelude.{is_some}
use Rattle.bitcask.specs.engine.Views.{shown}
use Rattle.mvcc.specs.scan.Bounds.{last_in}
use Rattle.mvcc.proofs.scan.BoundLaws.{keys_low, keys_high, keys_last, between_by}
use Rattle.mvcc.proofs.scan.bounds.step_between.Goals as goal

pub low_code-a-requires : goal.low_code-a-requires
low_code-a-requires c = let a = c.args in keys_low a.lower a.low.now a.upper a.high.now (is_some a.past) (last_in a.past) c.requires

pub high_code-b-requires : goal.high_code-b-requires
high_code-b-requires c = let a = c.args in keys_high a.lower a.low.now a.upper a.high.now (is_some a.past) (last_in a.past) c.requires

pub step_past-requires : goal.step_past-requires
step_past-requires c = let a = c.args in (keys_last a.lower a.low.now a.upper a.high.now (is_some a.past) (last_in a.past) c.requires)

pub returns : goal.returns
returns c = let a = c.args in between_by a.handle a.view.now.log.now (shown a.view.now) (is_some a.past) (last_in a.past) a.lower a.low.now a.upper a.high.now c.low_code-a.ensures c.high_code-b.ensures c.low_kind.ensures c.high_kind.ensures (rw (c.as_slice.ensures, c.as_slice-2.ensures) at c.step_past.ensures)
