-- `walk` judges one entry after the other.
use Prim.Native.Nat.{◌-◌}
use Rattle.bitcask.specs.keydir.Slots.{slots_of}
use Rattle.bitcask.proofs.check.TellLaws.{Walking}
use Rattle.bitcask.proofs.check.walk.Given as goal

abbrev pub invariant-loop-e : goal.invariant-loop-e
invariant-loop-e l = Walking l.log l.used (slots_of l.slots.count l.slots.table.now) l.at l.met

abbrev pub decreases-loop-e : goal.decreases-loop-e
decreases-loop-e l = l.used - l.at
