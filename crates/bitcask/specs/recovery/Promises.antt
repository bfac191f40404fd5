-- What opening promises: an equation for every log, used length and table. 13 first, then 8 at the first entry whose new
-- key finds no free slot; a refused opening sets every word to 0 and cuts nothing; one that is done cuts the used length to the end of
-- the last whole entry. Assumes nothing.
use Rattle.bitcask.specs.declared.request.Used.{Used}
use Rattle.keycode.specs.declared.refusal.Refusal.{Refusal}
use Rattle.std.specs.Prelude.{ℕ, ◌/◌, ◌≡◌, List, [], length, replicate, Result, Ok, Err, Option, None, Some}
use Rattle.keycode.specs.Tests.{pick}
use Rattle.keycode.specs.Refusals.{number_of}
use Rattle.keycode.specs.declared.refusal.Refusal.TheVariants.{TableFull, BadRequest}
use Rattle.bitcask.specs.declared.keydir.slots.Slot.{Slot}
use Rattle.bitcask.specs.keydir.Slots.{slot_words, table_of}
use Rattle.bitcask.specs.recovery.Recover.{items, ends, run}
use Rattle.bitcask.specs.recovery.Agree.{fit}

-- the number of an answer that is a used length
abbrev pub changed_number : Result Used Refusal → ℕ
changed_number (Ok u) = 0
changed_number (Err r) = number_of r

abbrev pub opened_by : Option (List Slot) → ℕ → Result Used Refusal
opened_by None used = Err TableFull
opened_by (Some ss) used = Ok (record { len = used })

abbrev pub opened_words : ℕ → Option (List Slot) → List ℕ
opened_words n None = replicate n 0
opened_words n (Some ss) = table_of n ss

-- a walk over the entries has opened a table of n words
pub record Walks (log : List ℕ) (used n : ℕ) (r : Result Used Refusal) (t' : List ℕ) : Type 0 where
  pub answer : r ≡ opened_by (run log (n / slot_words) (items log used 0) []) (ends 0 (items log used 0))
  pub table : t' ≡ opened_words n (run log (n / slot_words) (items log used 0) [])

-- of a log, its used length and a table of n words
unfoldable pub open_answer : List ℕ → ℕ → ℕ → Result Used Refusal
open_answer log used n = pick (fit (length log) used n) (opened_by (run log (n / slot_words) (items log used 0) []) (ends 0 (items log used 0))) (Err BadRequest)

unfoldable pub open_table : List ℕ → ℕ → ℕ → List ℕ
open_table log used n = pick (fit (length log) used n) (opened_words n (run log (n / slot_words) (items log used 0) [])) (replicate n 0)

pub record Opens (log : List ℕ) (used : ℕ) (t : List ℕ) (r : Result Used Refusal) (t' : List ℕ) : Type 0 where
  pub answer : r ≡ open_answer log used (length t)
  pub table : t' ≡ open_table log used (length t)
