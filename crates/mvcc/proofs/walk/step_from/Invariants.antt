-- `step_from` walks up the rows, and stops where the answer is known.
use Prim.Native.Nat.{◌-◌}
use lib.ListN.{length}
use Rattle.bitcask.specs.engine.Views.{shown}
use Rattle.bitcask.specs.engine.Spots.{rank}
use Rattle.mvcc.proofs.walk.WalkLaws.{Walking}
use Rattle.mvcc.proofs.walk.step_from.Given as goal

abbrev pub invariant-loop-p : goal.invariant-loop-p
invariant-loop-p l = Walking l.handle l.view.log.now l.upper l.high (shown l.view) (rank l.initial.at (shown l.view)) l.walk (rank l.at (shown l.view))

abbrev pub decreases-loop-p : goal.decreases-loop-p
decreases-loop-p l = length (shown l.view) - rank l.at (shown l.view)
