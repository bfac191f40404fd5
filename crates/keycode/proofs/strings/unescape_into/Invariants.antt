-- `unescape_into` lays a string byte by byte; well escaped bytes never stop it.
use Prim.Native.Nat.{◌-◌, ◌≤◌}
use mathlib.Core.Path.{◌≡◌}
use mathlib.Core.Bool.{true}
use lib.ListN.{length, drop}
use Rattle.keycode.specs.Strings.{unescaped, well_escaped}
use Rattle.keycode.proofs.BufferLaws.{Laying}
use Rattle.keycode.proofs.strings.unescape_into.Given as goal

abbrev pub invariant-loop-b : goal.invariant-loop-b
invariant-loop-b l = (l.i ≤ length l.s) × (well_escaped (drop l.i l.s) ≡ true) × Laying l.initial.out 0 (unescaped l.s) l.out l.o (unescaped (drop l.i l.s))

abbrev pub decreases-loop-b : goal.decreases-loop-b
decreases-loop-b l = length l.s - l.i
