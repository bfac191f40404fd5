-- What the ends of a transaction promise, in three parts. Always: what a refusal leaves, and that nothing outside changes. Request: the
-- numbers that need no table, exactly in their cases. Agreed: where the table agrees with the log, the answer and every byte are the
-- map's, and the table agrees again. docs/TABLES.md says why the last part has that condition. Assumes nothing.
use Rattle.keycode.specs.declared.refusal.Refusal.{Refusal}
use Rattle.std.specs.Prelude.{ℕ, ◌+◌, ◌≡◌, Bool, true, false, not, List, [], ◌∷◌, eqb, length, Result, Ok, Err}
use Rattle.keycode.specs.Tests.{pick, if_done}
use Rattle.keycode.specs.Buffer.{put}
use Rattle.keycode.specs.declared.refusal.Refusal.TheVariants.{BadStore}
use Rattle.bitcask.specs.entry.Entry.{Entry}
use Rattle.bitcask.specs.declared.request.Used.{Used}
use Rattle.bitcask.specs.recovery.Recover.{map_of}
use Rattle.bitcask.specs.recovery.Agree.{fit, Agrees}
use Rattle.bitcask.specs.recovery.Promises.{changed_number}
use Rattle.bitcask.specs.change.Append.{size_all, bytes_all, append_answer}
use Rattle.mvcc.specs.declared.handle.Handle.{Handle}
use Rattle.mvcc.specs.handle.Handles.{sound_handle}
use Rattle.mvcc.specs.request.Checks.{open_by, admit_by, or_else, asked, open_in}
use Rattle.mvcc.specs.delete_range.Cuts.{Extends}
use Rattle.mvcc.specs.undo.Plans.{all_users}
use Rattle.mvcc.specs.end.Plans.{writes_of, commit_plan, rollback_plan}

-- a test of a number against a few
unfoldable pub among : ℕ → List ℕ → Bool
among n [] = false
among n (x ∷ xs) = pick (eqb n x) true (among n xs)

-- what a call leaves that appends tombstones, all or none
pub record Leaves (log : List ℕ) (used : ℕ) (t : List ℕ) (es : List Entry) (r : Result Used Refusal) (log' t' : List ℕ) : Type 0 where
  -- always
  pub kept : log' ≡ if_done (changed_number r) log' log
  pub words : t' ≡ if_done (changed_number r) t' t
  pub long : length t' ≡ length t
  pub ends : (u : Used) → r ≡ Ok u → Extends log used log' u.len
  -- agreed
  pub bytes : Agrees log used t → log' ≡ if_done (changed_number r) (put log used (bytes_all es)) log
  pub again : Agrees log used t → changed_number r ≡ 0 → Agrees log' (used + size_all es) t'

-- the numbers of a request and a handle: 13; 3 of a handle that no store has open; a read-only handle ends at once and changes nothing
pub record Early (log : List ℕ) (used : ℕ) (t : List ℕ) (h : Handle) (r : Result Used Refusal) (log' t' : List ℕ) : Type 0 where
  pub bad : eqb (changed_number r) 13 ≡ not (asked log used t h)
  pub never : open_by h true ≡ false → eqb (changed_number r) 3 ≡ asked log used t h
  pub reads : h.read_only ≡ true → asked log used t h ≡ true → (r ≡ Ok (record { len = used })) × (log' ≡ log) × (t' ≡ t)

-- ---- commit: 13, 3, 7

unfoldable pub commit_answer : List ℕ → ℕ → ℕ → Handle → Result Used Refusal
commit_answer log used words h =
    or_else (admit_by (fit (length log) used words) (sound_handle h) (open_in log used h)) (append_answer log used words (commit_plan h (map_of log used)))

pub record Commits (log : List ℕ) (used : ℕ) (t : List ℕ) (h : Handle) (r : Result Used Refusal) (log' t' : List ℕ) : Type 0 where
  pub leaves : Leaves log used t (commit_plan h (map_of log used)) r log' t'
  pub early : Early log used t h r log' t'
  pub numbers : among (changed_number r) (0 ∷ 3 ∷ 7 ∷ 13 ∷ []) ≡ true
  pub answer : Agrees log used t → r ≡ commit_answer log used (length t) h

-- ---- rollback: 13, 3, 12, 7

-- 12 where a record of the version's writes does not decode; a read-only handle reads none
unfoldable pub undo_answer : List ℕ → ℕ → ℕ → Handle → Result Used Refusal
undo_answer log used words h =
    pick (pick h.read_only true (all_users (writes_of h.version (map_of log used)))) (append_answer log used words (rollback_plan h (map_of log used))) (Err BadStore)

unfoldable pub rollback_answer : List ℕ → ℕ → ℕ → Handle → Result Used Refusal
rollback_answer log used words h = or_else (admit_by (fit (length log) used words) (sound_handle h) (open_in log used h)) (undo_answer log used words h)

pub record RollsBack (log : List ℕ) (used : ℕ) (t : List ℕ) (h : Handle) (r : Result Used Refusal) (log' t' : List ℕ) : Type 0 where
  pub leaves : Leaves log used t (rollback_plan h (map_of log used)) r log' t'
  pub early : Early log used t h r log' t'
  pub numbers : among (changed_number r) (0 ∷ 3 ∷ 7 ∷ 12 ∷ 13 ∷ []) ≡ true
  pub answer : Agrees log used t → r ≡ rollback_answer log used (length t) h
