-- `find` halves towards the place of the key.
use Prim.Native.Nat.{◌-◌}
use Rattle.bitcask.specs.keydir.Slots.{slots_of}
use Rattle.bitcask.specs.keydir.Place.{order_at}
use Rattle.bitcask.proofs.keydir.HalveLaws.{Halving}
use Rattle.host.proofs.place.find.Given as goal

abbrev pub invariant-loop-low : goal.invariant-loop-low
invariant-loop-low g l = Halving (order_at l.log l.key (slots_of l.count (g.E.Element.words l.table))) l.count l.low l.high

abbrev pub decreases-loop-low : goal.decreases-loop-low
decreases-loop-low g l = l.high - l.low
