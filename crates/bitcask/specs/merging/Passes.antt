-- What the passes over a table leave: for any words, and, where the keys of table and changes rise, what the changes make of the slots.
-- Assumes nothing.
use Rattle.std.specs.Prelude.{ℕ, suc, ◌+◌, ◌-◌, ◌*◌, ◌/◌, ◌≤◌, ◌≡◌, List, [], ◌∷◌, ◌++◌, length, take, drop, Result, Ok, Err}
use Rattle.keycode.specs.Tests.{pick}
use Rattle.bitcask.specs.declared.keydir.slots.Slot.{Slot}
use Rattle.bitcask.specs.keydir.Slots.{slot_words, slots_of, words_of, key_of}
use Rattle.bitcask.specs.keydir.Place.{place_of, index_of, Sorted, Becomes}
use Rattle.bitcask.specs.merging.Merge.{is_gone, cuts, lays, merged, new_of, news}

-- the slots of a table from the i-th up to the n-th
unfoldable pub behind : List ℕ → ℕ → ℕ → List Slot
behind t i n = slots_of (n - i) (drop (slot_words * i) t)

-- how many slots stay before a key's slot that goes, and how many are passed by then
abbrev pub kept_by : Result ℕ ℕ → ℕ
kept_by (Ok j) = j
kept_by (Err j) = 0

abbrev pub passed_by : Result ℕ ℕ → ℕ
passed_by (Ok j) = suc j
passed_by (Err j) = 0

-- a key's slot behind a gap has been taken out
pub record TakesOne (log t : List ℕ) (n to from : ℕ) (key : List ℕ) (to' from' : ℕ) (t' : List ℕ) : Type 0 where
  pub long : length t' ≡ length t
  pub order : to' ≤ from'
  pub within : from' ≤ n
  pub passed : from' ≡ from + passed_by (place_of log key (behind t from n))
  pub kept : to' ≡ to + kept_by (place_of log key (behind t from n))
  pub front : slots_of to' t' ≡ slots_of to t ++ take (kept_by (place_of log key (behind t from n))) (behind t from n)
  pub after : drop (slot_words * from') t' ≡ drop (slot_words * from') t

-- the slots of the keys that wait have been
pub record TakesAll (log t : List ℕ) (n : ℕ) (ps : List Slot) (r : ℕ) (t' : List ℕ) : Type 0 where
  pub within : r ≤ n
  pub exact : Sorted log (slots_of n t) → Sorted log ps → Becomes t n (cuts log ps (slots_of n t)) t' r

-- what a waiting slot brings behind the free slots, of the slots es before them, r of which stay there
unfoldable pub placed : Slot → ℕ → List Slot → List Slot
placed s r es = pick (is_gone s) [] (s ∷ drop r es)

-- a waiting slot has been passed: of the slots before `end` those before r stay, and left' free slots follow
pub record PutsNext (log t : List ℕ) (end left : ℕ) (s : Slot) (r left' : ℕ) (t' : List ℕ) : Type 0 where
  pub long : length t' ≡ length t
  pub within : r ≤ end
  pub fewer : left ≡ new_of s + left'
  pub place : r ≡ pick (is_gone s) end (index_of (place_of log (key_of log s) (slots_of end t)))
  pub front : slots_of r t' ≡ take r (slots_of end t)
  pub back : drop (slot_words * (r + left')) t' ≡ words_of (placed s r (slots_of end t)) ++ drop (slot_words * (end + left)) t

-- all new ones have been
pub record PutsAll (log t : List ℕ) (n : ℕ) (ps : List Slot) (t' : List ℕ) : Type 0 where
  pub exact : Sorted log (slots_of n t) → Sorted log ps → t' ≡ words_of (lays log ps (slots_of n t)) ++ drop (slot_words * (n + news ps)) t

-- all that waits has been brought into the table
pub record Flushes (log t : List ℕ) (n : ℕ) (ps : List Slot) (r : ℕ) (t' : List ℕ) : Type 0 where
  pub within : slot_words * r ≤ length t
  pub exact : Sorted log (slots_of n t) → Sorted log ps → length (merged log ps (slots_of n t)) ≤ length t / slot_words → Becomes t n (merged log ps (slots_of n t)) t' r
