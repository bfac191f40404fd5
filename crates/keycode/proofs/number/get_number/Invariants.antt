-- `get_number` reads a number, the first byte first.
use Prim.Native.Nat.{◌≤◌}
use mathlib.Core.Path.{◌≡◌}
use lib.ListN.{length, take}
use Rattle.keycode.specs.Number.{num}
use Rattle.keycode.proofs.number.get_number.Given as goal

abbrev pub invariant-loop-b : goal.invariant-loop-b
invariant-loop-b l = (l.b-index ≤ length l.s) × (l.n ≡ num (take l.b-index l.s))
