-- `live_upto` sums what the slots' words say, and stops where that exceeds the cap.
use Prim.Native.Nat.{◌-◌}
use Rattle.bitcask.proofs.compaction.LiveLaws.{Summing}
use Rattle.bitcask.proofs.report.live_upto.Given as goal

abbrev pub invariant-loop-i : goal.invariant-loop-i
invariant-loop-i l = Summing l.slots.table.now l.slots.count l.cap l.total l.i

abbrev pub decreases-loop-i : goal.decreases-loop-i
decreases-loop-i l = l.slots.count - l.i
