-- Changes that wait beside a table. A waiting slot is a new one, or, with a value length that no entry has, the mark that its key is to
-- go. What table and changes stand for together is said key by key. Assumes nothing.
use Rattle.std.specs.Prelude.{ℕ, ◌+◌, ◌≡◌, Bool, List, [], ◌∷◌, eqb, Option, None, Some}
use Rattle.keycode.specs.Tests.{pick}
use Rattle.keycode.specs.Order.{compare_bytes, by_order}
use Rattle.bitcask.specs.declared.keydir.slots.Slot.{Slot}
use Rattle.bitcask.specs.keydir.Slots.{insert_at, key_of}
use Rattle.bitcask.specs.keydir.Place.{place_in, index_of, cut_at, Sorted}

-- the slot of a key
unfoldable pub look : List ℕ → List ℕ → List Slot → Option Slot
look log k [] = None
look log k (s ∷ ss) = by_order (compare_bytes (key_of log s) k) (look log k ss) (Some s) None

abbrev pub gone_mark : ℕ
gone_mark = 4294967295

-- whether a waiting slot's key is to go
unfoldable pub is_gone : Slot → Bool
is_gone s = eqb s.vlen gone_mark

-- what a waiting slot makes of a key's slot
abbrev pub overlay : Option Slot → Option Slot → Option Slot
overlay None o = o
overlay (Some s) o = pick (is_gone s) None (Some s)

-- the slots r are those of the table, ss, with those that wait, ps
pub record Merges (log : List ℕ) (ps ss r : List Slot) : Type 0 where
  pub waiting : Sorted log ps
  pub table : Sorted log ss
  pub sorted : Sorted log r
  pub looks : (k : List ℕ) → look log k r ≡ overlay (look log k ps) (look log k ss)

-- ---- the two passes

-- without the keys that wait, the first of them first
unfoldable pub cuts : List ℕ → List Slot → List Slot → List Slot
cuts log [] ss = ss
cuts log (p ∷ ps) ss = cuts log ps (cut_at (place_in log (key_of log p) ss) ss)

-- with a waiting slot that is new
unfoldable pub lay : List ℕ → Slot → List Slot → List Slot
lay log p ss = pick (is_gone p) ss (insert_at (index_of (place_in log (key_of log p) ss)) p ss)

-- with all that are, the last of them first
unfoldable pub lays : List ℕ → List Slot → List Slot → List Slot
lays log [] ss = ss
lays log (p ∷ ps) ss = lay log p (lays log ps ss)

unfoldable pub merged : List ℕ → List Slot → List Slot → List Slot
merged log ps ss = lays log ps (cuts log ps ss)

-- how many are new
unfoldable pub new_of : Slot → ℕ
new_of p = pick (is_gone p) 0 1

unfoldable pub news : List Slot → ℕ
news [] = 0
news (p ∷ ps) = new_of p + news ps
