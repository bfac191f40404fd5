-- `string_room` takes one byte after the other; the room for the whole string is that for the rest.
use Prim.Native.Nat.{◌+◌}
use mathlib.Core.Path.{◌≡◌}
use lib.ListN.{length, drop}
use Rattle.keycode.specs.Strings.{escape, escape_body}
use Rattle.rows.specs.Inner.{room_of}
use Rattle.rows.proofs.encoding.string_room.Given as goal

abbrev pub invariant-loop-b : goal.invariant-loop-b
invariant-loop-b l = room_of (length (escape l.s)) l.room ≡ room_of (length (escape_body (drop l.b-index l.s)) + 2) l.left
