-- What a compaction writes and what the status counts: both of the map. Assumes nothing.
use Rattle.std.specs.Prelude.{ℕ, ◌+◌, ◌*◌, ◌≡◌, List, [], ◌∷◌, leb, length, Option, Some, None}
use Rattle.keycode.specs.Tests.{pick}
use Rattle.keycode.specs.Buffer.{put}
use Rattle.bitcask.specs.entry.Entry.{Entry, set, bytes_of, size_of}
use Rattle.bitcask.specs.declared.keydir.slots.Slot.{Slot}
use Rattle.bitcask.specs.keydir.Slots.{slot_words, words_of, key_of, value_of}
use Rattle.bitcask.specs.recovery.Map.{Pair}
use Rattle.bitcask.specs.change.Append.{slot_of, size_all, bytes_all}

-- the entries of a map, in key order
unfoldable pub entries_of : List Pair → List Entry
entries_of [] = []
entries_of (q ∷ m) = set q.key q.value ∷ entries_of m

-- key and value bytes
unfoldable pub contents : List Pair → ℕ
contents [] = 0
contents (q ∷ m) = length q.key + length q.value + contents m

-- a sum, as far as it is no more than a cap
unfoldable pub capped : ℕ → ℕ → Option ℕ
capped cap n = pick (leb n cap) (Some n) None

-- ---- entries moved into another log, one behind the other from its front on

-- the entry that a slot names
unfoldable pub entry_in : List ℕ → Slot → Entry
entry_in log s = set (key_of log s) (value_of log s)

-- the slots of entries that stand one behind the other from an offset on
unfoldable pub placed : ℕ → List Entry → List Slot
placed at [] = []
placed at (e ∷ es) = slot_of at e ∷ placed (at + size_of e) es

-- a table t and a target g that have become t' and g': the entry stands in the target from `to` on and ends at r, and the i-th slot names it
pub record MovedOne (t g : List ℕ) (i to : ℕ) (e : Entry) (t' g' : List ℕ) (r : ℕ) : Type 0 where
  pub words : t' ≡ put t (slot_words * i) (words_of (slot_of to e ∷ []))
  pub bytes : g' ≡ put g to (bytes_of e)
  pub last : r ≡ to + size_of e

-- the same of entries from the front on: they stand in the target and end at r, and the table's first slots name them
pub record Moved (t g : List ℕ) (es : List Entry) (t' g' : List ℕ) (r : ℕ) : Type 0 where
  pub words : t' ≡ put t 0 (words_of (placed 0 es))
  pub bytes : g' ≡ put g 0 (bytes_all es)
  pub last : r ≡ size_all es
