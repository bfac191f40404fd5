-- `rising` looks at each slot with the one before it.
use Prim.Native.Nat.{◌-◌}
use mathlib.Core.Path.{◌≡◌}
use lib.ListN.{drop}
use Rattle.bitcask.specs.keydir.Slots.{slots_of}
use Rattle.bitcask.specs.check.Told.{risen}
use Rattle.bitcask.proofs.check.rising.Given as goal

abbrev pub invariant-loop-i : goal.invariant-loop-i
invariant-loop-i l = risen l.log (slots_of l.slots.count l.slots.table.now) ≡ risen l.log (drop (l.i - 1) (slots_of l.slots.count l.slots.table.now))
