-- `escape_body_into` lays a string byte by byte.
use Prim.Native.Nat.{◌≤◌}
use lib.ListN.{length, drop}
use Rattle.keycode.specs.Strings.{escape_body}
use Rattle.keycode.proofs.BufferLaws.{Laying}
use Rattle.keycode.proofs.strings.escape_body_into.Given as goal

abbrev pub invariant-loop-b : goal.invariant-loop-b
invariant-loop-b l = (l.b-index ≤ length l.key) × Laying l.initial.out l.at (escape_body l.key) l.out l.o (escape_body (drop l.b-index l.key))
