-- What the two ways share in which a transaction ends: the checks, a read-only handle that ends at once, and tombstones that are judged
-- and appended, all or none. Assumes nothing.
use Rattle.bitcask.specs.declared.request.Used.{Used}
use Rattle.keycode.specs.declared.refusal.Refusal.{Refusal}
use Rattle.std.specs.Prelude.{ℕ, ◌+◌, ◌≡◌, true, false, List, [], ◌∷◌, ◌++◌, leb, length, Result, Ok, Err, Option, None, Some}
use Rattle.keycode.specs.code.Codes.{Codes}
use Rattle.keycode.specs.Tests.{pick}
use Rattle.bitcask.specs.entry.Entry.{Entry, del}
use Rattle.bitcask.specs.recovery.Map.{Pair}
use Rattle.bitcask.specs.recovery.Recover.{map_of}
use Rattle.bitcask.specs.recovery.Agree.{fit, Agrees}
use Rattle.bitcask.specs.recovery.Promises.{changed_number}
use Rattle.bitcask.specs.change.Append.{State, appended, append_answer}
use Rattle.bitcask.specs.declared.engine.mark.Mark.{Mark}
use Rattle.bitcask.specs.engine.Rows.{Row, rows}
use Rattle.bitcask.specs.engine.Prefixes.{Prefixes}
use Rattle.bitcask.specs.engine.Endings.{tombstones}
use Rattle.mvcc.specs.declared.handle.Handle.{Handle}
use Rattle.mvcc.specs.handle.Handles.{sound_handle}
use Rattle.mvcc.specs.request.Ranges.{write_prefix}
use Rattle.mvcc.specs.request.Checks.{active_key, admit_by, or_else, open_in}
use Rattle.mvcc.specs.admission.Admits.{Admits}
use Rattle.mvcc.specs.declared.end.Closing.{Closing}
use Rattle.mvcc.specs.end.Plans.{commit_plan, rollback_plan}
use Rattle.mvcc.specs.end.Promises.{among, Leaves, Early, undo_answer}

-- ---- by the way

pub data Way : Type 0 where
  by_commit : Way
  by_rollback : Way

abbrev pub plan_of : Way → Handle → List Pair → List Entry
plan_of by_commit h m = commit_plan h m
plan_of by_rollback h m = rollback_plan h m

abbrev pub numbers_of : Way → List ℕ
numbers_of by_commit = 0 ∷ 3 ∷ 7 ∷ 13 ∷ []
numbers_of by_rollback = 0 ∷ 3 ∷ 7 ∷ 12 ∷ 13 ∷ []

-- the answer where the checks pass
abbrev pub judged_of : Way → List ℕ → ℕ → ℕ → Handle → Result Used Refusal
judged_of by_commit log used words h = append_answer log used words (commit_plan h (map_of log used))
judged_of by_rollback log used words h = undo_answer log used words h

pub record Ends (way : Way) (log : List ℕ) (used : ℕ) (t : List ℕ) (h : Handle) (r : Result Used Refusal) (log' t' : List ℕ) : Type 0 where
  pub leaves : Leaves log used t (plan_of way h (map_of log used)) r log' t'
  pub early : Early log used t h r log' t'
  pub numbers : among (changed_number r) (numbers_of way) ≡ true
  pub answer : Agrees log used t → r ≡ or_else (admit_by (fit (length log) used (length t)) (sound_handle h) (open_in log used h)) (judged_of way log used (length t) h)

-- ---- what an end starts from

-- the checks passed, of a read-write handle: the rows of its own records, and the code of its TxnActive
pub record Starts (log : List ℕ) (used : Used) (t : List ℕ) (h : Handle) (c : Closing) : Type 0 where
  pub admits : Admits log used t h (Ok c.mark)
  pub writes : h.read_only ≡ false
  pub records : Prefixes (rows log t c.mark) (write_prefix h.version) c.span
  pub own : Codes c.code (active_key h)

abbrev pub Closes_from : List ℕ → Used → List ℕ → Handle → Result (Option Closing) Refusal → Type 0
Closes_from log used t h (Err r) = Admits log used t h (Err r)
Closes_from log used t h (Ok None) = (m : Mark) × Admits log used t h (Ok m) × (h.read_only ≡ true)
Closes_from log used t h (Ok (Some c)) = Starts log used t h c

-- ---- behind the checks

-- a store that was entered
abbrev pub store_of : List ℕ → List ℕ → Mark → State
store_of log t m = record { log = log; used = m.used.len; table = t; count = m.count }

-- a key deleted where there is room
unfoldable pub del_where : State → List ℕ → State
del_where s key = pick (leb (s.used + 8 + length key) (length s.log)) (appended s (del key)) s

-- tombstones appended, all or none, to a store that was entered: the answer is one of some numbers, and under agreement `a`
pub record Closes (log t : List ℕ) (m : Mark) (es : List Entry) (ns : List ℕ) (a : Result Used Refusal) (r : Result Used Refusal) (log' t' : List ℕ) : Type 0 where
  pub leaves : Leaves log m.used.len t es r log' t'
  pub numbers : among (changed_number r) ns ≡ true
  pub answer : Agrees log m.used.len t → r ≡ a

-- the rows ended and one key more deleted: 7
unfoldable pub clearing : List Row → List ℕ → List Entry
clearing rs key = tombstones rs ++ (del key ∷ [])

abbrev pub Clears : List ℕ → List ℕ → Mark → List Row → List ℕ → Result Used Refusal → List ℕ → List ℕ → Type 0
Clears log t m rs key r log' t' = Closes log t m (clearing rs key) (0 ∷ 7 ∷ []) (append_answer log m.used.len (length t) (clearing rs key)) r log' t'
