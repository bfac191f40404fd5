-- What begin answers, over what it reads, in the order of refusals. Assumes nothing.
use Rattle.bitcask.specs.declared.request.Used.{Used}
use Rattle.keycode.specs.declared.refusal.Refusal.{Refusal}
use Rattle.std.specs.Prelude.{ℕ, ◌-◌, ◌^◌, false, List, leb, eqb, length, Result, Ok, Err, Some, None, Option}
use Rattle.keycode.specs.Tests.{pick}
use Rattle.keycode.specs.Limits.{max_open}
use Rattle.keycode.specs.declared.refusal.Refusal.TheVariants.{TooManyOpen, VersionsSpent, BadStore}
use Rattle.bitcask.specs.change.Append.{append_answer}
use Rattle.mvcc.specs.declared.handle.Handle.{Handle}
use Rattle.mvcc.specs.handle.Handles.{handle_of}
use Rattle.mvcc.specs.declared.begun.Begun.{Begun}
use Rattle.mvcc.specs.request.Given.{refused_by}
use Rattle.mvcc.specs.start.Plan.{begin_plan}

-- 12 for NextVersion or a key of the open versions, then 11 with no version left, 9 with 16 or more open, then 7 and 8 of what it appends

abbrev pub begun_by : Result Used Refusal → Handle → Begun
begun_by (Ok u) h = record { answer = Ok u; handle = h }
begun_by (Err r) h = refused_by r

abbrev pub begin_with : List ℕ → ℕ → ℕ → ℕ → Option (List ℕ) → Begun
begin_with log used words v None = refused_by BadStore
begin_with log used words v (Some vs) =
    pick (eqb v (2 ^ 64 - 1)) (refused_by VersionsSpent)
    (pick (leb max_open (length vs)) (refused_by TooManyOpen) (begun_by (append_answer log used words (begin_plan v vs)) (handle_of v false vs)))

abbrev pub begin_by : List ℕ → ℕ → ℕ → Option ℕ → Option (List ℕ) → Begun
begin_by log used words None o = refused_by BadStore
begin_by log used words (Some v) o = begin_with log used words v o
