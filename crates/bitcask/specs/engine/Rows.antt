-- The rows of a store: of each key the entry that counts, in key order. Everything above the engine speaks of rows and of the map, which
-- is the rows without their places; `rows_of` alone knows that rows are a table's slots. Total on any words: parts of a log end where the
-- log does. Assumes nothing.
use Rattle.std.specs.Prelude.{ℕ, ◌+◌, ◌-◌, List, [], ◌∷◌, ◌≡◌, length, take, drop}
use Rattle.keycode.specs.declared.parts.Part.{Part}
use Rattle.bitcask.specs.declared.keydir.slots.Slot.{Slot}
use Rattle.bitcask.specs.keydir.Slots.{slots_of, key_of, value_of}
use Rattle.bitcask.specs.recovery.Map.{Pair}
use Rattle.bitcask.specs.recovery.Recover.{recovered}
use Rattle.bitcask.specs.declared.engine.mark.Mark.{Mark}

-- an entry that counts: the index at which its key stands in the log, 8 behind the entry's offset; the key, and behind it the value
pub record Row : Type 0 where
  pub at : ℕ
  pub key : List ℕ
  pub value : List ℕ

-- the row of no entry
abbrev pub blank : Row
blank = record { at = 7; key = []; value = [] }

abbrev pub offset_of : Row → ℕ
offset_of r = r.at - 8

abbrev pub key_place : Row → Part
key_place r = record { at = r.at; len = length r.key }

abbrev pub value_place : Row → Part
value_place r = record { at = r.at + length r.key; len = length r.value }

-- the map that rows are
unfoldable pub pairs : List Row → List Pair
pairs [] = []
pairs (r ∷ rs) = record { key = r.key; value = r.value } ∷ pairs rs

-- ---- of a table

abbrev pub row_of : List ℕ → Slot → Row
row_of log s = record { at = s.place + 7; key = key_of log s; value = value_of log s }

unfoldable pub rows_of : List ℕ → List Slot → List Row
rows_of log [] = []
rows_of log (s ∷ ss) = row_of log s ∷ rows_of log ss

-- the rows of a store that was entered
unfoldable pub rows : List ℕ → List ℕ → Mark → List Row
rows log t m = rows_of log (slots_of m.count t)

-- ---- of a log

-- the rows that recovery finds: what every promise above the door speaks of, where places are wanted beside keys and values
unfoldable pub rows_in : List ℕ → ℕ → List Row
rows_in log used = rows_of log (recovered log used)

-- a row whose key and value are the bytes of a log at its places
pub record Stands (log : List ℕ) (r : Row) : Type 0 where
  pub key : take (length r.key) (drop r.at log) ≡ r.key
  pub value : take (length r.value) (drop (r.at + length r.key) log) ≡ r.value
