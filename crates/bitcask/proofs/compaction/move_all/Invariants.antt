-- `move_all` moves one slot's entry after the other.
use Prim.Native.Nat.{◌-◌}
use Rattle.bitcask.proofs.compaction.MoveLaws.{Moving}
use Rattle.bitcask.proofs.compaction.move_all.Given as goal

abbrev pub invariant-loop-i : goal.invariant-loop-i
invariant-loop-i l = Moving l.log l.initial.table l.initial.target l.count l.table l.target l.to l.i

abbrev pub decreases-loop-i : goal.decreases-loop-i
decreases-loop-i l = l.count - l.i
