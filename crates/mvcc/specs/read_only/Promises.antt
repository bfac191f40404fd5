-- What each call promises, in three parts. Always: what a refusal leaves. Request: the number that needs no table, exactly in its case.
-- Agreed: where the table agrees with the log, the answer is the map's. Log and table are lent for reading alone. Assumes nothing.
use Rattle.mvcc.specs.declared.report.Versions.{Versions}
use Rattle.keycode.specs.declared.refusal.Refusal.{Refusal}
use Rattle.std.specs.Prelude.{ℕ, ◌-◌, ◌≡◌, not, List, eqb, length, Option, Some, None, Result, Ok, Err}
use Rattle.keycode.specs.Tests.{if_done}
use Rattle.keycode.specs.Refusals.{number_of}
use Rattle.keycode.specs.declared.refusal.Refusal.TheVariants.{BadStore}
use Rattle.bitcask.specs.recovery.Recover.{map_of}
use Rattle.bitcask.specs.recovery.Agree.{fit, Agrees}
use Rattle.mvcc.specs.handle.Handles.{blank_handle}
use Rattle.mvcc.specs.declared.begun.Begun.{Begun}
use Rattle.mvcc.specs.request.Given.{begun_number}
use Rattle.mvcc.specs.snapshot.Active.{next_at, active_keys, active_at}
use Rattle.mvcc.specs.read_only.Answers.{reading_by}

-- ---- begin, read-only

pub record BeginsReading (log : List ℕ) (used : ℕ) (t : List ℕ) (r : Begun) : Type 0 where
  pub blank : r.handle ≡ if_done (begun_number r) r.handle blank_handle
  pub bad : eqb (begun_number r) 13 ≡ not (fit (length log) used (length t))
  pub answer : Agrees log used t → r ≡ reading_by used (next_at (map_of log used)) (active_at (map_of log used))

-- ---- status

abbrev pub stated_number : Result Versions Refusal → ℕ
stated_number (Ok s) = 0
stated_number (Err r) = number_of r

-- 12 for NextVersion; else the version before it, and how many keys of open versions there are
abbrev pub stated_by : Option ℕ → ℕ → Result Versions Refusal
stated_by None k = Err BadStore
stated_by (Some v) k = Ok (record { last = v - 1; «open» = k })

pub record States (log : List ℕ) (used : ℕ) (t : List ℕ) (r : Result Versions Refusal) : Type 0 where
  pub bad : eqb (stated_number r) 13 ≡ not (fit (length log) used (length t))
  pub answer : Agrees log used t → r ≡ stated_by (next_at (map_of log used)) (length (active_keys (map_of log used)))
