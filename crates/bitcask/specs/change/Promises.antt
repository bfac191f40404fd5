-- What set and delete promise, in three parts. Always: what a refusal leaves, and that nothing outside changes. Request: the numbers
-- that need no table, exactly in their cases. Agreed: where the table agrees with the log, the answer and every byte are the map's, and
-- the table agrees again. docs/TABLES.md says why the last part has that condition. Assumes nothing.
use Rattle.bitcask.specs.declared.request.Used.{Used}
use Rattle.keycode.specs.declared.refusal.Refusal.{Refusal}
use Rattle.std.specs.Prelude.{ℕ, ◌+◌, ◌≡◌, false, not, List, [], ◌∷◌, leb, eqb, length, Result, Err}
use Rattle.keycode.specs.Tests.{pick, if_done}
use Rattle.keycode.specs.Buffer.{put}
use Rattle.keycode.specs.declared.refusal.Refusal.TheVariants.{BadRequest}
use Rattle.bitcask.specs.entry.Entry.{Entry, bytes_of, size_of}
use Rattle.bitcask.specs.recovery.Agree.{fit, Agrees}
use Rattle.bitcask.specs.recovery.Promises.{changed_number}
use Rattle.bitcask.specs.change.Append.{append_answer}

abbrev pub change_answer : List ℕ → ℕ → ℕ → List Entry → Result Used Refusal
change_answer log used words es = pick (fit (length log) used words) (append_answer log used words es) (Err BadRequest)

pub record Changes (log : List ℕ) (used : ℕ) (t : List ℕ) (e : Entry) (r : Result Used Refusal) (log' t' : List ℕ) : Type 0 where
  -- always
  pub bytes : log' ≡ if_done (changed_number r) (put log used (bytes_of e)) log
  pub words : t' ≡ if_done (changed_number r) t' t
  pub long : length t' ≡ length t
  -- request
  pub bad : eqb (changed_number r) 13 ≡ not (fit (length log) used (length t))
  pub full : eqb (changed_number r) 7 ≡ pick (fit (length log) used (length t)) (not (leb (used + size_of e) (length log))) false
  -- agreed
  pub answer : Agrees log used t → r ≡ change_answer log used (length t) (e ∷ [])
  pub again : Agrees log used t → changed_number r ≡ 0 → Agrees log' (used + size_of e) t'
