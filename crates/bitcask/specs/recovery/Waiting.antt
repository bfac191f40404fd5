-- A table beside which changes wait: what both stand for together, and what an entry and the pass that brings the changes in make of
-- it. Assumes nothing.
use Rattle.std.specs.Prelude.{ℕ, ◌+◌, ◌*◌, ◌/◌, ◌≤◌, ◌≡◌, Bool, false, List, length, get_or, Result, Ok, Err, Option, None, Some}
use Rattle.bitcask.specs.declared.keydir.slots.Slot.{Slot}
use Rattle.bitcask.specs.keydir.Slots.{slot_words, free_slot, slots_of, table_of, key_of}
use Rattle.bitcask.specs.keydir.Place.{place_in, cut_at}
use Rattle.bitcask.specs.merging.Merge.{is_gone, Merges}
use Rattle.bitcask.specs.declared.recovery.waiting.Held.{Held}
use Rattle.bitcask.specs.declared.recovery.waiting.Next.{Next}
use Rattle.keycode.specs.declared.refusal.Refusal.{Refusal}
use Rattle.keycode.specs.declared.refusal.Refusal.TheVariants.{TableFull}
use Rattle.bitcask.specs.recovery.Recover.{Item, step_in}

-- how many changes wait at most
abbrev pub max_waiting : ℕ
max_waiting = 256

-- whether what waits at a place takes its key out
abbrev pub waits_gone : List Slot → Result ℕ ℕ → Bool
waits_gone ps (Ok i) = is_gone (get_or ps i free_slot)
waits_gone ps (Err i) = false

-- table and changes stand for the slots r, which the table has room for
pub record Holds (log t pd : List ℕ) (h : Held) (r : List Slot) : Type 0 where
  pub words : t ≡ table_of (length t) (slots_of h.count t)
  pub merges : Merges log (slots_of h.waiting pd) (slots_of h.count t) r
  pub counted : h.live ≡ length r
  pub fits : length r ≤ length t / slot_words

-- what came of an entry, by what it makes of the slots
pub data Answers (log t pd : List ℕ) (end : ℕ) : Result Next Refusal → Option (List Slot) → Type 0 where
  answers-full : Answers log t pd end (Err TableFull) None
  answers_next : {h : Held} {r : List Slot} → Holds log t pd h r → Answers log t pd end (Ok (record { at = end; held = h })) (Some r)

-- an entry that ends at an offset has been taken
pub record Enters (log t pd : List ℕ) (h : Held) (i : Item) (end : ℕ) (o : Result Next Refusal) (t' pd' : List ℕ) : Type 0 where
  pub within : (x : Next) → o ≡ Ok x → (slot_words * x.held.count ≤ length t) × (x.held.waiting ≤ h.waiting + 1) × (x.at ≡ end)
  pub exact : (r : List Slot) → Holds log t pd h r → Answers log t' pd' end o (step_in (length t / slot_words) i (place_in log (key_of log i.slot) r) r)

-- a tombstone has been
pub record Leaves (log t pd : List ℕ) (h : Held) (s : Slot) (h' : Held) (pd' : List ℕ) : Type 0 where
  pub count : h'.count ≡ h.count
  pub within : h'.waiting ≤ h.waiting + 1
  pub exact : (r : List Slot) → Holds log t pd h r → Holds log t pd' h' (cut_at (place_in log (key_of log s) r) r)

-- changes have been brought into the table
pub record Settles (log t pd : List ℕ) (h h' : Held) (t' : List ℕ) : Type 0 where
  pub within : slot_words * h'.count ≤ length t
  pub exact : (r : List Slot) → Holds log t pd h r → Holds log t' pd h' r
