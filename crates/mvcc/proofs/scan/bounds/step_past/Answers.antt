-- `step_past`: the walk from where the step starts.
use Rattle.std.specs.Prelude.{is_some}
use Rattle.bitcask.specs.engine.Views.{shown}
use Rattle.mvcc.specs.scan.Bounds.{last_in}
use Rattle.mvcc.proofs.scan.BoundLaws.{past_by}
use Rattle.mvcc.proofs.scan.bounds.step_past.Goals as goal

pub start-from-requires : goal.start-from-requires
start-from-requires c = (c.requires)

pub returns : goal.returns
returns c = let a = c.args in past_by a.handle a.view.now.log.now (shown a.view.now) (is_some a.past) (last_in a.past) a.lower a.low.now a.upper a.high.now c.start-from.ensures c.step_from.ensures
