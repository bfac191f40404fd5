-- At most so many entries of a log passed, from an offset on: an equation over the run of the entries passed, for a table of slots whose
-- keys rise and zeros. Assumes nothing.
use Rattle.std.specs.Prelude.{ℕ, ◌-◌, ◌*◌, ◌/◌, ◌≤◌, ◌≡◌, List, length, Result, Ok, Err, Option, None, Some}
use Rattle.bitcask.specs.entry.Reading.{entry_at}
use Rattle.bitcask.specs.declared.keydir.slots.Slot.{Slot}
use Rattle.bitcask.specs.keydir.Slots.{slot_words, table_of}
use Rattle.bitcask.specs.keydir.Place.{Sorted}
use Rattle.bitcask.specs.declared.recovery.waiting.Held.{Held}
use Rattle.bitcask.specs.declared.recovery.waiting.Next.{Next}
use Rattle.bitcask.specs.declared.recovery.passing.Passed.{Passed}
use Rattle.keycode.specs.declared.refusal.Refusal.{Refusal}
use Rattle.keycode.specs.declared.refusal.Refusal.TheVariants.{TableFull}
use Rattle.bitcask.specs.recovery.Recover.{Item, item_of, next, items_of, ends, run}
use Rattle.bitcask.specs.recovery.Waiting.{Enters}
use Rattle.bitcask.specs.recovery.Promises.{opened_words}

-- the answer of an entry that stands
abbrev pub standing : Result Next Refusal → Result (Option Next) Refusal
standing (Ok x) = Ok (Some x)
standing (Err r) = Err r

-- what stands at an offset has been taken
pub record TakesEntry (log : List ℕ) (used : ℕ) (t pd : List ℕ) (h : Held) (at : ℕ) (o : Result (Option Next) Refusal) (t' pd' : List ℕ) : Type 0 where
  pub entry : (i : Item) → item_of (entry_at log used at) at ≡ Some i → (a : Result Next Refusal) × (o ≡ standing a) × Enters log t pd h i (next i) a t' pd'
  pub stop : item_of (entry_at log used at) at ≡ None → (o ≡ Ok None) × (t' ≡ t) × (pd' ≡ pd)

-- a table of slots whose keys rise, and zeros
pub record Tidy (log t : List ℕ) (n : ℕ) (ss : List Slot) : Type 0 where
  pub words : t ≡ table_of (length t) ss
  pub count : n ≡ length ss
  pub room : length ss ≤ length t / slot_words
  pub sorted : Sorted log ss

-- the answer, by the slots that the entries leave, the offset past the last and how many more might have been passed
abbrev pub passed_by : Option (List Slot) → ℕ → ℕ → Result Passed Refusal
passed_by None at left = Err TableFull
passed_by (Some ss) at left = Ok (record { at = at; count = length ss; left = left })

-- entries have been passed, and a table that has no room for one is as it stood then
pub record GoesOver (log : List ℕ) (used : ℕ) (t : List ℕ) (n at most : ℕ) (r : Result Passed Refusal) (t' : List ℕ) : Type 0 where
  pub within : (p : Passed) → r ≡ Ok p → (p.at ≤ used) × (slot_words * p.count ≤ length t)
  pub answer : (ss : List Slot) → Tidy log t n ss
      → r ≡ passed_by (run log (length t / slot_words) (items_of most log used at) ss) (ends at (items_of most log used at)) (most - length (items_of most log used at))
  pub table : (ss : List Slot) → Tidy log t n ss → (rs : List Slot) → run log (length t / slot_words) (items_of most log used at) ss ≡ Some rs → t' ≡ table_of (length t) rs

-- the same where such a table is cleared
pub record Passes (log : List ℕ) (used : ℕ) (t : List ℕ) (n at most : ℕ) (r : Result Passed Refusal) (t' : List ℕ) : Type 0 where
  pub within : (p : Passed) → r ≡ Ok p → (p.at ≤ used) × (slot_words * p.count ≤ length t)
  pub answer : (ss : List Slot) → Tidy log t n ss
      → r ≡ passed_by (run log (length t / slot_words) (items_of most log used at) ss) (ends at (items_of most log used at)) (most - length (items_of most log used at))
  pub table : (ss : List Slot) → Tidy log t n ss → t' ≡ opened_words (length t) (run log (length t / slot_words) (items_of most log used at) ss)
