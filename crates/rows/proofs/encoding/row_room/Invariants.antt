-- `row_room` takes one field after the other; the room for the whole is that for the rest.
use mathlib.Core.Path.{◌≡◌}
use lib.ListN.{length, drop}
use Rattle.rows.specs.Promises.{row_bytes}
use Rattle.rows.specs.Inner.{room_of}
use Rattle.rows.proofs.encoding.row_room.Given as goal

abbrev pub invariant-loop-field : goal.invariant-loop-field
invariant-loop-field l = room_of (length (row_bytes l.texts l.fields)) l.room ≡ room_of (length (row_bytes l.texts (drop l.field-index l.fields))) l.left
