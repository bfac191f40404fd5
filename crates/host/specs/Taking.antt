-- Opening entry by entry, for any words and any number of slots in use: what one entry gives back and leaves of the table. The place
-- of a key is where the search finds it. Assumes nothing.
use Rattle.keycode.specs.declared.refusal.Refusal.{Refusal}
use Rattle.keycode.specs.declared.refusal.Refusal.TheVariants.{TableFull}
use Rattle.std.specs.Prelude.{ℕ, ◌/◌, ◌≡◌, List, length, Option, None, Some, Result, Ok, Err}
use Rattle.bitcask.specs.entry.Reading.{entry_at}
use Rattle.bitcask.specs.declared.keydir.slots.Slot.{Slot}
use Rattle.bitcask.specs.keydir.Slots.{slot_words, slots_of, key_of}
use Rattle.bitcask.specs.keydir.Place.{place_of, laid}
use Rattle.host.specs.declared.opening.Next.{Next}
use Rattle.bitcask.specs.recovery.Recover.{Item, item_of, next, step_in}

-- what an entry makes of the n slots of a table; none where its new key finds no room
unfoldable pub tried : List ℕ → List ℕ → ℕ → Item → Option (List Slot)
tried log t n i = step_in (length t / slot_words) i (place_of log (key_of log i.slot) (slots_of n t)) (slots_of n t)

-- the answer, of an entry that ends at an offset: TableFull where its new key finds no room
abbrev pub took_by : ℕ → Option (List Slot) → Result Next Refusal
took_by end None = Err TableFull
took_by end (Some ss) = Ok (record { at = end; count = length ss })

-- the words of a table of n slots
abbrev pub words_by : List ℕ → ℕ → Option (List Slot) → List ℕ
words_by t n None = t
words_by t n (Some ss) = laid n ss t

-- the same of what stands at an offset; no entry stands where the log ends
abbrev pub went_on : Result Next Refusal → Result (Option Next) Refusal
went_on (Ok n) = Ok (Some n)
went_on (Err r) = Err r

abbrev pub took_of : Option Item → (Item → Option (List Slot)) → Result (Option Next) Refusal
took_of None f = Ok None
took_of (Some i) f = went_on (took_by (next i) (f i))

abbrev pub took_words : List ℕ → ℕ → Option Item → (Item → Option (List Slot)) → List ℕ
took_words t n None f = t
took_words t n (Some i) f = words_by t n (f i)

-- an entry that ends at an offset has been taken
pub record Takes (log t : List ℕ) (n : ℕ) (i : Item) (end : ℕ) (r : Result Next Refusal) (t' : List ℕ) : Type 0 where
  pub answer : r ≡ took_by end (tried log t n i)
  pub words : t' ≡ words_by t n (tried log t n i)

-- what stands at an offset has been
pub record TakesEntry (log : List ℕ) (used : ℕ) (t : List ℕ) (n at : ℕ) (r : Result (Option Next) Refusal) (t' : List ℕ) : Type 0 where
  pub answer : r ≡ took_of (item_of (entry_at log used at) at) (tried log t n)
  pub words : t' ≡ took_words t n (item_of (entry_at log used at) at) (tried log t n)
