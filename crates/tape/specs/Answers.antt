-- The answer records of a tape, as bytes, of what the calls answered. Assumes nothing.
use Rattle.bitcask.specs.declared.request.Used.{Used}
use Rattle.bitcask.specs.declared.answers.KeyValue.{KeyValue}
use Rattle.bitcask.specs.declared.report.Counts.{Counts}
use Rattle.keycode.specs.declared.refusal.Refusal.{Refusal}
use Rattle.std.specs.Prelude.{ℕ, ◌+◌, Bool, List, [], length, take, drop, eqb, leb, ltb, Result, Ok, Err}
use Rattle.keycode.specs.Tests.{pick}
use Rattle.keycode.specs.Refusals.{number_of}
use Rattle.keycode.specs.Strings.{unescaped, plain_length}
use Rattle.keycode.specs.declared.parts.Part.{Part}
use Rattle.mvcc.specs.declared.handle.Handle.{Handle}
use Rattle.tape.specs.format.Layout.{value_room, laid, plainly}
use Rattle.tape.specs.format.Slots.{fill, empty}

-- the bytes at a place of the log
abbrev pub bytes_at : List ℕ → Part → List ℕ
bytes_at log p = take p.len (drop p.at log)

-- ---- 1 to 3: the handle's version; the slot is filled

abbrev pub given_bytes : ℕ → Result Used Refusal → ℕ → List ℕ
given_bytes c (Ok u) v = laid 0 c v [] []
given_bytes c (Err r) v = plainly (number_of r) c

abbrev pub filled_with : List ℕ → ℕ → Result Used Refusal → Handle → List ℕ
filled_with s i (Ok u) h = fill s i h
filled_with s i (Err r) h = s

-- ---- 4: the value; 13 where an answer has no room for it

unfoldable pub value_bytes : List ℕ → List ℕ
value_bytes value = pick (leb (length value) value_room) (laid 0 4 0 [] value) (plainly 13 4)

abbrev pub got_bytes : List ℕ → Result Part Refusal → List ℕ
got_bytes log (Ok p) = value_bytes (bytes_at log p)
got_bytes log (Err r) = plainly (number_of r) 4

-- ---- 7: a record a pair, its key unescaped, then the count, or a refusal in its place

-- what a step's answer shows: a pair, or how the scan ends
pub data Shown : Type 0 where
  pair : List ℕ → List ℕ → Shown
  last : List ℕ → Shown

-- a pair is shown where an answer has room for its value and the lent buffer for its record and one more; else 13
unfoldable pub pair_if : Bool → Bool → List ℕ → List ℕ → Shown
pair_if short room key value = pick short (pick room (pair key value) (last (plainly 13 7))) (last (plainly 13 7))

abbrev pub pair_by : Result ℕ Refusal → Bool → List ℕ → List ℕ → Shown
pair_by (Ok m) room key value = pair_if (leb (length value) value_room) room key value
pair_by (Err r) room key value = last (plainly (number_of r) 7)

-- how a scan of n pairs ends: with 1 it is over
unfoldable pub end_bytes : ℕ → ℕ → List ℕ
end_bytes n number = pick (eqb number 1) (laid 0 7 n [] []) (plainly number 7)

-- n pairs were shown, and the lent buffer has room for so many records
abbrev pub shown : List ℕ → ℕ → ℕ → Result KeyValue Refusal → Shown
shown log room n (Ok p) = pair_by (plain_length (bytes_at log p.key)) (ltb (n + 1) room) (unescaped (bytes_at log p.key)) (bytes_at log p.value)
shown log room n (Err r) = last (end_bytes n (number_of r))

-- ---- 8 and 9: with 0 the slot is emptied

abbrev pub emptied_by : List ℕ → ℕ → Result Used Refusal → List ℕ
emptied_by s i (Ok u) = empty s i
emptied_by s i (Err r) = s

-- ---- 10 and 11: the used length, and the live keys

abbrev pub used_bytes : Result Used Refusal → List ℕ
used_bytes (Ok u) = laid 0 10 u.len [] []
used_bytes (Err r) = plainly (number_of r) 10

abbrev pub count_bytes : Result Counts Refusal → List ℕ
count_bytes (Ok s) = laid 0 11 s.keys [] []
count_bytes (Err r) = plainly (number_of r) 11
