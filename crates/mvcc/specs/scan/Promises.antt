-- What a scan step promises, in parts. Request: the numbers that need no table, exactly in their cases. Agreed: where the table agrees with
-- the log, the answer is the map's. Nothing that is lent can change, as there is no slice to write to. Assumes nothing.
use Rattle.keycode.specs.declared.refusal.Refusal.{Refusal}
use Rattle.bitcask.specs.declared.answers.KeyValue.{KeyValue}
use Rattle.std.specs.Prelude.{ℕ, ◌≡◌, Bool, true, false, not, List, eqb, length, Result, ⊤, Ok, Err}
use Rattle.keycode.specs.Tests.{pick}
use Rattle.keycode.specs.declared.refusal.Refusal.TheVariants.{KeyTooLong}
use Rattle.bitcask.specs.recovery.Agree.{fit, Agrees}
use Rattle.bitcask.specs.declared.answers.Bound.{Bound}
use Rattle.bitcask.specs.read.Promises.{stepped_number}
use Rattle.bitcask.specs.engine.Rows.{rows_in}
use Rattle.bitcask.specs.engine.Ranges.{keep_rows}
use Rattle.mvcc.specs.declared.handle.Handle.{Handle}
use Rattle.mvcc.specs.handle.Handles.{sound_handle}
use Rattle.mvcc.specs.request.Checks.{open_by, admit_by, asked, open_in}
use Rattle.mvcc.specs.walk.Walks.{step_rows}
use Rattle.mvcc.specs.scan.Bounds.{keys_fit, prefix_fits, scanned, prefixed}

abbrev pub checked_step : Result ⊤ Refusal → Result KeyValue Refusal → Result KeyValue Refusal
checked_step (Ok tt) l = l
checked_step (Err r) l = Err r

-- 4 behind the checks of every call
unfoldable pub keys_by : Result ⊤ Refusal → Bool → Result ⊤ Refusal
keys_by (Ok tt) fits = pick fits (Ok tt) (Err KeyTooLong)
keys_by (Err r) fits = Err r

-- 13, 3, 4, and then what the walk says: 12 or 1, or the places of a key and its value
unfoldable pub scan_answer : Bool → Bool → Bool → Bool → Result KeyValue Refusal → Result KeyValue Refusal
scan_answer fits sound active short step = checked_step (keys_by (admit_by fits sound active) short) step

-- of a step whose keys are short enough, or not, over the keys that a test admits
pub record Scanning (log : List ℕ) (used : ℕ) (t : List ℕ) (h : Handle) (short : Bool) (test : List ℕ → Bool) (r : Result KeyValue Refusal) : Type 0 where
  -- request: 13; 3 always of a handle that no store has open, and never of one that every store has; 4 of the latter
  pub bad : eqb (stepped_number r) 13 ≡ not (asked log used t h)
  pub never : open_by h true ≡ false → eqb (stepped_number r) 3 ≡ asked log used t h
  pub ever : open_by h false ≡ true → eqb (stepped_number r) 3 ≡ false
  pub long : open_by h false ≡ true → eqb (stepped_number r) 4 ≡ pick (asked log used t h) (not short) false
  -- agreed
  pub answer : Agrees log used t
      → r ≡ scan_answer (fit (length log) used (length t)) (sound_handle h) (open_in log used h) short (step_rows h log (keep_rows test (rows_in log used)))

abbrev pub Scans : List ℕ → ℕ → List ℕ → Handle → Bound → List ℕ → Bound → List ℕ → Bool → List ℕ → Result KeyValue Refusal → Type 0
Scans log used t h lower low upper high given last r = Scanning log used t h (keys_fit lower low upper high given last) (scanned lower low upper high given last) r

abbrev pub ScansPrefix : List ℕ → ℕ → List ℕ → Handle → List ℕ → Bool → List ℕ → Result KeyValue Refusal → Type 0
ScansPrefix log used t h prefix given last r = Scanning log used t h (prefix_fits prefix given last) (prefixed prefix given last) r
