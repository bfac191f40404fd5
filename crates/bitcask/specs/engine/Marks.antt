-- The way into a store: the test of its sizes, what every call below may rest on, and the agreement of a store that was entered.
-- Document 01, 'Numbers returned', row 13. Assumes nothing.
use Rattle.keycode.specs.declared.refusal.Refusal.{Refusal}
use Rattle.std.specs.Prelude.{ℕ, ◌*◌, ◌≤◌, ◌≡◌, List, length, Result, Ok, Err}
use Rattle.keycode.specs.Tests.{pick}
use Rattle.keycode.specs.Limits.{max_log}
use Rattle.keycode.specs.declared.refusal.Refusal.TheVariants.{BadRequest}
use Rattle.bitcask.specs.keydir.Slots.{slot_words}
use Rattle.bitcask.specs.keydir.Place.{count_of}
use Rattle.bitcask.specs.declared.request.Used.{Used}
use Rattle.bitcask.specs.recovery.Agree.{fit, Agrees}
use Rattle.bitcask.specs.declared.engine.mark.Mark.{Mark}

abbrev pub mark_of : Used → List ℕ → Mark
mark_of used t = record { used = used; count = count_of t }

unfoldable pub entered_by : List ℕ → Used → List ℕ → Result Mark Refusal
entered_by log used t = pick (fit (length log) used.len (length t)) (Ok (mark_of used t)) (Err BadRequest)

-- the sizes that a mark says lie within the log and the table: what every function of the door asks
pub record Held (log t : List ℕ) (m : Mark) : Type 0 where
  pub small : length log ≤ max_log
  pub within : m.used.len ≤ length log
  pub room : slot_words * m.count ≤ length t

-- the table agrees with the log, and the mark is what entering gives
pub record Agreeing (log t : List ℕ) (m : Mark) : Type 0 where
  pub agrees : Agrees log m.used.len t
  pub count : m.count ≡ count_of t
