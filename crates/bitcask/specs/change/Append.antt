-- Entries appended to a log, and the table kept with it. `appended` is what the code does, for any words; `append_answer` judges a whole
-- list of entries at once and is the only place of 7 and 8, for the engine's calls and for the transactions'. Assumes nothing.
use Rattle.bitcask.specs.declared.request.Used.{Used}
use Rattle.keycode.specs.declared.refusal.Refusal.{Refusal}
use Rattle.std.specs.Prelude.{ℕ, ◌+◌, ◌-◌, ◌/◌, List, [], ◌∷◌, ◌++◌, leb, length, Result, Ok, Err, Option, Some, None, ⊤}
use Rattle.keycode.specs.Tests.{pick}
use Rattle.keycode.specs.Buffer.{put}
use Rattle.keycode.specs.declared.refusal.Refusal.TheVariants.{LogFull, TableFull}
use Rattle.bitcask.specs.entry.Entry.{Entry, set, del, entry_key, entry_value, bytes_of, size_of}
use Rattle.bitcask.specs.declared.keydir.slots.Slot.{Slot}
use Rattle.bitcask.specs.keydir.Slots.{slot_words, slots_of}
use Rattle.bitcask.specs.keydir.Place.{place_of, entered, cut_at, laid}
use Rattle.bitcask.specs.recovery.Map.{Pair, after}
use Rattle.bitcask.specs.recovery.Recover.{map_of}

-- ---- one entry, as the code appends it

-- a store as the code holds it: the log and how much of it counts, the table and how many of its slots are in use
pub record State : Type 0 where
  pub log : List ℕ
  pub used : ℕ
  pub table : List ℕ
  pub count : ℕ

-- the slot of an entry at an offset
abbrev pub slot_of : ℕ → Entry → Slot
slot_of at e = record { place = at + 1; klen = length (entry_key e); vlen = length (entry_value e) }

-- the slots with an entry's own put in, or its key's taken out
abbrev pub slots_after : List ℕ → ℕ → List ℕ → Entry → List Slot → List Slot
slots_after log used t (set k v) ss = entered t (slot_of used (set k v)) (place_of log k ss) ss
slots_after log used t (del k) ss = cut_at (place_of log k ss) ss

-- the store with an entry behind its last
unfoldable pub appended : State → Entry → State
appended s e =
    record {
      log = put s.log s.used (bytes_of e);
      used = s.used + size_of e;
      table = laid s.count (slots_after s.log s.used s.table e (slots_of s.count s.table)) s.table;
      count = length (slots_after s.log s.used s.table e (slots_of s.count s.table));
    }

-- ---- the room test, as the code makes it

-- the room that an entry leaves
abbrev pub room_after : Option ℕ → ℕ → ℕ → Option ℕ
room_after None k v = None
room_after (Some n) k v = pick (leb (8 + k + v) n) (Some (n - (8 + k + v))) None

-- 7 where there is no room, then 8 where the new keys exceed the free slots
abbrev pub judge : Option ℕ → ℕ → ℕ → Result ⊤ Refusal
judge None fresh free = Err LogFull
judge (Some n) fresh free = pick (leb fresh free) (Ok tt) (Err TableFull)

-- how many slots a key wants
abbrev pub wants : Result ℕ ℕ → ℕ
wants (Ok i) = 0
wants (Err i) = 1

unfoldable pub fresh_in : List ℕ → List ℕ → List Slot → ℕ
fresh_in log key ss = wants (place_of log key ss)

-- ---- a list of entries, judged at once

unfoldable pub size_all : List Entry → ℕ
size_all [] = 0
size_all (e ∷ es) = size_of e + size_all es

unfoldable pub bytes_all : List Entry → List ℕ
bytes_all [] = []
bytes_all (e ∷ es) = bytes_of e ++ bytes_all es

unfoldable pub after_all : List Entry → List Pair → List Pair
after_all [] m = m
after_all (e ∷ es) m = after_all es (after e m)

-- 7 where their bytes exceed the room left, then 8 where their keys exceed the table's slots; else the new used length. A list holds
-- sets alone or tombstones alone, so that the keys are most at its end.
unfoldable pub append_answer : List ℕ → ℕ → ℕ → List Entry → Result Used Refusal
append_answer log used words es =
    pick (leb (used + size_all es) (length log))
    (pick (leb (length (after_all es (map_of log used))) (words / slot_words)) (Ok (record { len = used + size_all es })) (Err TableFull))
    (Err LogFull)
