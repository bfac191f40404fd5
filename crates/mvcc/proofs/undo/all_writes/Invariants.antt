-- `all_writes` tests row by row.
use Prim.Native.Nat.{◌-◌}
use Rattle.bitcask.specs.engine.Views.{shown}
use Rattle.bitcask.specs.engine.Spots.{rank}
use Rattle.mvcc.proofs.undo.UndoStepLaws.{Testing}
use Rattle.mvcc.proofs.undo.all_writes.Given as goal

abbrev pub invariant-loop-span : goal.invariant-loop-span
invariant-loop-span l = Testing (shown l.view) l.initial.at l.span.to l.at

abbrev pub decreases-loop-span : goal.decreases-loop-span
decreases-loop-span l = rank l.span.to (shown l.view) - rank l.at (shown l.view)
