-- Rows ended with tombstones: what the code does to any table. Where the rows' keys rise and lie in the entries it is `appended` of the
-- tombstones, one after the other (EndLaws). Assumes nothing.
use Rattle.std.specs.Prelude.{ℕ, ◌+◌, List, [], ◌∷◌, leb, ltb, length, take, drop, Option}
use Rattle.keycode.specs.Tests.{pick}
use Rattle.keycode.specs.Buffer.{put}
use Rattle.bitcask.specs.entry.Entry.{Entry, del, bytes_of}
use Rattle.bitcask.specs.declared.keydir.slots.Slot.{Slot}
use Rattle.bitcask.specs.keydir.Slots.{slots_of, key_of, remove_span}
use Rattle.bitcask.specs.keydir.Place.{laid}
use Rattle.bitcask.specs.change.Append.{State, appended, room_after}
use Rattle.bitcask.specs.engine.Rows.{Row}

-- ---- in the words of rows

-- the tombstones of rows
unfoldable pub tombstones : List Row → List Entry
tombstones [] = []
tombstones (r ∷ rs) = del r.key ∷ tombstones rs

-- the room that they leave
unfoldable pub room_tombs : Option ℕ → List Row → Option ℕ
room_tombs room [] = room
room_tombs room (r ∷ rs) = room_tombs (room_after room (length r.key) 0) rs

-- entries appended one after the other
unfoldable pub appended_all : State → List Entry → State
appended_all s [] = s
appended_all s (e ∷ es) = appended_all (appended s e) es

-- ---- what the code does

-- a log and how much of it counts
pub record Tail : Type 0 where
  pub log : List ℕ
  pub used : ℕ

abbrev pub tail_of : State → Tail
tail_of s = record { log = s.log; used = s.used }

-- the tombstone of a slot's key laid, where the key lies in the entries and there is room
unfoldable pub tombed : Tail → Slot → Tail
tombed e x =
    pick (leb (x.place + 7 + x.klen) e.used)
    (pick (leb (e.used + 8 + x.klen) (length e.log)) (record { log = put e.log e.used (bytes_of (del (key_of e.log x))); used = e.used + 8 + x.klen }) e)
    e

unfoldable pub tombed_all : Tail → List Slot → Tail
tombed_all e [] = e
tombed_all e (x ∷ xs) = tombed_all (tombed e x) xs

-- the slots from number i on, to j
unfoldable pub span_slots : ℕ → ℕ → List Slot → List Slot
span_slots i j ss = drop i (take j ss)

-- a log that has become another, and a table of other slots
abbrev pub left_with : State → Tail → List Slot → State
left_with s e ss = record { log = e.log; used = e.used; table = laid s.count ss s.table; count = length ss }

-- the slots from number i on, to j, ended
unfoldable pub ended_span : State → ℕ → ℕ → State
ended_span s i j =
    pick (ltb i j) (left_with s (tombed_all (tail_of s) (span_slots i j (slots_of s.count s.table))) (remove_span i j (slots_of s.count s.table))) s
