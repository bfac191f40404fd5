-- `seek` walks down the rows to the first that decides.
use Rattle.bitcask.specs.engine.Views.{shown}
use Rattle.bitcask.specs.engine.Spots.{rank}
use Rattle.mvcc.proofs.version.SeenLaws.{Seeking}
use Rattle.mvcc.proofs.version.seek.Given as goal

abbrev pub invariant-loop-p : goal.invariant-loop-p
invariant-loop-p l = Seeking l.handle l.low (shown l.view) (rank l.initial.at (shown l.view)) (rank l.at (shown l.view))

abbrev pub decreases-loop-p : goal.decreases-loop-p
decreases-loop-p l = rank l.at (shown l.view)
