-- Recovery: the entries from offset 0 on, up to the first that runs past the used length; a
-- later entry of a key replaces an earlier one, a tombstone removes it. `recovered` is what everything else cites: it has no room to
-- run out of. `run` is the same with room for so many slots, which only the opening knows. Assumes nothing.
use Rattle.std.specs.Prelude.{ℕ, zero, suc, ◌+◌, ◌-◌, Bool, true, false, List, [], ◌∷◌, leb, ltb, length, Result, Ok, Err, Option, None, Some}
use Rattle.keycode.specs.Tests.{pick}
use Rattle.bitcask.specs.declared.entry.read.Lengths.{Lengths}
use Rattle.bitcask.specs.declared.entry.read.Lengths.TheVariants.{Set, Del}
use Rattle.bitcask.specs.entry.Entry.{Entry, set, del}
use Rattle.bitcask.specs.entry.Reading.{entry_at}
use Rattle.bitcask.specs.declared.keydir.slots.Slot.{Slot}
use Rattle.bitcask.specs.keydir.Slots.{key_of, value_of}
use Rattle.bitcask.specs.keydir.Place.{place_in, put_at, cut_at}
use Rattle.bitcask.specs.recovery.Map.{Pair}

-- ---- the entries of a log, in turn

-- an entry as the table knows it, and whether it is a tombstone (whose value length is 0)
pub record Item : Type 0 where
  pub slot : Slot
  pub gone : Bool

abbrev pub item_of : Option Lengths → ℕ → Option Item
item_of (Some (Set k v)) at = Some (record { slot = record { place = at + 1; klen = k; vlen = v }; gone = false })
item_of (Some (Del k)) at = Some (record { slot = record { place = at + 1; klen = k; vlen = 0 }; gone = true })
item_of None at = None

-- the offset past an entry
abbrev pub next : Item → ℕ
next i = i.slot.place + 7 + i.slot.klen + i.slot.vlen

abbrev pub and_on : Option Item → (ℕ → List Item) → List Item
and_on None f = []
and_on (Some i) f = i ∷ f (next i)

-- at most so many, from an offset on
unfoldable pub items_of : ℕ → List ℕ → ℕ → ℕ → List Item
items_of zero log used at = []
items_of (suc n) log used at = and_on (item_of (entry_at log used at) at) (λ k. items_of n log used k)

-- all of them: each has 8 bytes at least
unfoldable pub items : List ℕ → ℕ → ℕ → List Item
items log used at = items_of (used - at) log used at

-- the offset past the last; recovery cuts the used length to it
unfoldable pub ends : ℕ → List Item → ℕ
ends at [] = at
ends at (i ∷ is) = ends (next i) is

-- those that end by an offset
unfoldable pub ending_by : ℕ → List Item → List Item
ending_by n [] = []
ending_by n (i ∷ is) = pick (leb (next i) n) (i ∷ ending_by n is) (ending_by n is)

-- an entry that is appended at an offset
abbrev pub item_for : ℕ → Entry → Item
item_for at (set k v) = record { slot = record { place = at + 1; klen = length k; vlen = length v }; gone = false }
item_for at (del k) = record { slot = record { place = at + 1; klen = length k; vlen = 0 }; gone = true }

-- ---- what they leave

abbrev pub step_at : Bool → Slot → Result ℕ ℕ → List Slot → List Slot
step_at false s f ss = put_at s f ss
step_at true s f ss = cut_at f ss

-- what an entry does to the slots
unfoldable pub step : List ℕ → Item → List Slot → List Slot
step log i ss = step_at i.gone i.slot (place_in log (key_of log i.slot) ss) ss

unfoldable pub fold : List ℕ → List Item → List Slot → List Slot
fold log [] ss = ss
fold log (i ∷ is) ss = fold log is (step log i ss)

-- the slots of a log
unfoldable pub recovered : List ℕ → ℕ → List Slot
recovered log used = fold log (items log used 0) []

-- how many bytes the entries of slots have
unfoldable pub live : List Slot → ℕ
live [] = 0
live (s ∷ ss) = 8 + s.klen + s.vlen + live ss

-- the key and the value of each slot
unfoldable pub view : List ℕ → List Slot → List Pair
view log [] = []
view log (s ∷ ss) = record { key = key_of log s; value = value_of log s } ∷ view log ss

-- the map of a log
unfoldable pub map_of : List ℕ → ℕ → List Pair
map_of log used = view log (recovered log used)

-- ---- with room for so many slots

-- of n slots in use: a new key wants a free one
abbrev pub room_for : ℕ → Bool → Result ℕ ℕ → ℕ → Bool
room_for cap true f n = true
room_for cap false (Ok i) n = true
room_for cap false (Err i) n = ltb n cap

-- what an entry does to the slots at the place of its key
unfoldable pub step_in : ℕ → Item → Result ℕ ℕ → List Slot → Option (List Slot)
step_in cap i f ss = pick (room_for cap i.gone f (length ss)) (Some (step_at i.gone i.slot f ss)) None

abbrev pub then_run : Option (List Slot) → (List Slot → Option (List Slot)) → Option (List Slot)
then_run None f = None
then_run (Some ss) f = f ss

unfoldable pub run : List ℕ → ℕ → List Item → List Slot → Option (List Slot)
run log cap [] ss = Some ss
run log cap (i ∷ is) ss = then_run (step_in cap i (place_in log (key_of log i.slot) ss) ss) (λ r. run log cap is r)
