-- `undo_many` undoes row by row, in the store that it was lent.
use Prim.Native.Nat.{◌-◌}
use Rattle.bitcask.specs.engine.Spots.{rank}
use Rattle.bitcask.specs.engine.Stores.{state_of, kept, SameLent}
use Rattle.mvcc.proofs.undo.UndoStepLaws.{Undoing}
use Rattle.mvcc.proofs.undo.undo_many.Given as goal

abbrev pub invariant-loop : goal.invariant-loop
invariant-loop l =
    let s = l.initial.store in
    (SameLent s l.store) × (Undoing l.n (state_of s) (rank l.spot (kept s)) l.version (l.n - l.counter) (state_of l.store))
