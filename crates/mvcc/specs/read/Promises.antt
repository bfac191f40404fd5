-- What each call promises, in parts. Always: what comes with a refusal. Request: the numbers that need no table, exactly in their cases.
-- Agreed: where the table agrees with the log, the answer is the map's. Nothing that is lent can change: no call here has a slice to write
-- to. Assumes nothing.
use Rattle.keycode.specs.declared.refusal.Refusal.{Refusal}
use Rattle.keycode.specs.declared.parts.Part.{Part}
use Rattle.std.specs.Prelude.{ℕ, ◌≡◌, Bool, true, false, not, List, leb, eqb, length, Ok, Err, Result, ⊤}
use Rattle.keycode.specs.Tests.{pick, if_done}
use Rattle.keycode.specs.Limits.{max_key}
use Rattle.keycode.specs.declared.refusal.Refusal.TheVariants.{KeyTooLong}
use Rattle.bitcask.specs.recovery.Agree.{fit, Agrees}
use Rattle.bitcask.specs.recovery.Promises.{changed_number}
use Rattle.bitcask.specs.read.Promises.{located_number}
use Rattle.mvcc.specs.declared.handle.Handle.{Handle}
use Rattle.mvcc.specs.handle.Handles.{sound_handle, blank_handle}
use Rattle.bitcask.specs.engine.Rows.{Row, rows_in}
use Rattle.bitcask.specs.engine.Ranges.{keep_rows}
use Rattle.mvcc.specs.request.Checks.{open_by, admit_by, asked, open_in}
use Rattle.mvcc.specs.declared.begun.Begun.{Begun}
use Rattle.mvcc.specs.request.Given.{refused_by, begun_with}
use Rattle.mvcc.specs.version.Seen.{last_rows, located_seen, version_test}

-- ---- get

abbrev pub checked : Result ⊤ Refusal → Result Part Refusal → Result Part Refusal
checked (Ok tt) l = l
checked (Err r) l = Err r

-- 13, 3, 4, and then what the key's versions say: 12 or 1, or the value's place
unfoldable pub get_answer : Bool → Bool → Bool → Handle → List ℕ → List Row → Result Part Refusal
get_answer fits sound active h key range =
    checked (admit_by fits sound active) (pick (leb (length key) max_key) (located_seen (last_rows h range)) (Err KeyTooLong))

pub record Gets (log : List ℕ) (used : ℕ) (t : List ℕ) (h : Handle) (key : List ℕ) (r : Result Part Refusal) : Type 0 where
  -- request: 13; 3 always of a handle that no store has open, and never of one that every store has; 4 of the latter
  pub bad : eqb (located_number r) 13 ≡ not (asked log used t h)
  pub never : open_by h true ≡ false → eqb (located_number r) 3 ≡ asked log used t h
  pub ever : open_by h false ≡ true → eqb (located_number r) 3 ≡ false
  pub long : open_by h false ≡ true → eqb (located_number r) 4 ≡ pick (asked log used t h) (not (leb (length key) max_key)) false
  -- agreed
  pub answer : Agrees log used t
      → r ≡ get_answer (fit (length log) used (length t)) (sound_handle h) (open_in log used h) h key (keep_rows (version_test key h.version) (rows_in log used))

-- ---- resume

abbrev pub resumed_by : Result ⊤ Refusal → ℕ → Handle → Begun
resumed_by (Ok tt) used h = begun_with used h
resumed_by (Err r) used h = refused_by r

-- 13, 3, and then the used length and the handle as they were
unfoldable pub resume_answer : Bool → Bool → Bool → ℕ → Handle → Begun
resume_answer fits sound active used h = resumed_by (admit_by fits sound active) used h

pub record Resumes (log : List ℕ) (used : ℕ) (t : List ℕ) (h : Handle) (r : Begun) : Type 0 where
  -- always
  pub handle : r.handle ≡ if_done (changed_number r.answer) h blank_handle
  pub stays : changed_number r.answer ≡ 0 → r.answer ≡ Ok (record { len = used })
  -- request: 13; 3 of a handle that no store has open; a read-only handle is refused by nothing else
  pub bad : eqb (changed_number r.answer) 13 ≡ not (asked log used t h)
  pub never : open_by h true ≡ false → eqb (changed_number r.answer) 3 ≡ asked log used t h
  pub ever : open_by h false ≡ true → eqb (changed_number r.answer) 0 ≡ asked log used t h
  -- agreed
  pub answer : Agrees log used t → r ≡ resume_answer (fit (length log) used (length t)) (sound_handle h) (open_in log used h) used h
