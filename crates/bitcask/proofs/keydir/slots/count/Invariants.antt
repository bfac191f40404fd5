-- `count` halves towards the first free slot.
use Prim.Native.Nat.{◌-◌, ◌/◌}
use lib.ListN.{length}
use Rattle.bitcask.specs.keydir.Slots.{slot_words}
use Rattle.bitcask.specs.keydir.Place.{used_at}
use Rattle.bitcask.proofs.keydir.HalveLaws.{Halving}
use Rattle.bitcask.proofs.keydir.slots.count.Given as goal

abbrev pub invariant-loop-low : goal.invariant-loop-low
invariant-loop-low l = Halving (used_at l.table) (length l.table / slot_words) l.low l.high

abbrev pub decreases-loop-low : goal.decreases-loop-low
decreases-loop-low l = l.high - l.low
