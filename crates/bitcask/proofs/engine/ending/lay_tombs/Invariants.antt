-- `lay_tombs` lays the tombstones slot by slot.
use Prim.Native.Nat.{◌-◌}
use Rattle.bitcask.proofs.engine.EndLaws.{Laying}
use Rattle.bitcask.proofs.engine.ending.lay_tombs.Given as goal

abbrev pub invariant-loop-i : goal.invariant-loop-i
invariant-loop-i l = Laying l.initial.log l.table l.initial.at l.from l.to l.log l.at l.i

abbrev pub decreases-loop-i : goal.decreases-loop-i
decreases-loop-i l = l.to - l.i
