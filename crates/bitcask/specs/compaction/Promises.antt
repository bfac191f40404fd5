-- What compaction and the status promise, in three parts. Always: what a refusal leaves, and that nothing outside changes. Request: the
-- numbers that need no table, exactly in their cases. Agreed: where the table agrees with the log, the answer and every byte are the
-- map's, and the table agrees again. docs/TABLES.md says why the last part has that condition. Assumes nothing.
use Rattle.keycode.specs.declared.refusal.Refusal.{Refusal}
use Rattle.std.specs.Prelude.{ℕ, ◌+◌, ◌*◌, ◌≡◌, false, not, List, leb, eqb, length, drop, Result, Ok, Err}
use Rattle.keycode.specs.Tests.{pick, if_done}
use Rattle.keycode.specs.Limits.{max_log}
use Rattle.keycode.specs.Refusals.{number_of}
use Rattle.keycode.specs.Buffer.{put}
use Rattle.keycode.specs.declared.refusal.Refusal.TheVariants.{LogFull, BadRequest}
use Rattle.bitcask.specs.declared.request.Used.{Used}
use Rattle.bitcask.specs.recovery.Map.{Pair}
use Rattle.bitcask.specs.recovery.Recover.{map_of}
use Rattle.bitcask.specs.recovery.Agree.{fit, Agrees}
use Rattle.bitcask.specs.recovery.Promises.{changed_number}
use Rattle.bitcask.specs.change.Append.{size_all, bytes_all}
use Rattle.bitcask.specs.declared.report.Counts.{Counts}
use Rattle.bitcask.specs.compaction.Compaction.{entries_of, contents}

-- ---- compaction into the target g

abbrev pub compact_answer : List ℕ → ℕ → ℕ → ℕ → Result Used Refusal
compact_answer log used words room =
    pick (pick (fit (length log) used words) (leb room max_log) false)
    (pick (leb (size_all (entries_of (map_of log used))) room) (Ok (record { len = size_all (entries_of (map_of log used)) })) (Err LogFull))
    (Err BadRequest)

pub record Compacts (log : List ℕ) (used : ℕ) (t g : List ℕ) (r : Result Used Refusal) (t' g' : List ℕ) : Type 0 where
  -- always
  pub words : t' ≡ if_done (changed_number r) t' t
  pub bytes : g' ≡ if_done (changed_number r) g' g
  pub past : (u : Used) → r ≡ Ok u → drop u.len g' ≡ drop u.len g
  pub long : (length t' ≡ length t) × (length g' ≡ length g)
  -- request
  pub bad : eqb (changed_number r) 13 ≡ not (pick (fit (length log) used (length t)) (leb (length g) max_log) false)
  -- agreed: the live entries in key order, and the map is the same
  pub answer : Agrees log used t → r ≡ compact_answer log used (length t) (length g)
  pub target : Agrees log used t → changed_number r ≡ 0 → g' ≡ put g 0 (bytes_all (entries_of (map_of log used)))
  pub again : Agrees log used t → changed_number r ≡ 0 → Agrees g' (size_all (entries_of (map_of log used))) t'
  pub same : Agrees log used t → changed_number r ≡ 0 → map_of g' (size_all (entries_of (map_of log used))) ≡ map_of log used

-- ---- status

abbrev pub counted_number : Result Counts Refusal → ℕ
counted_number (Ok s) = 0
counted_number (Err r) = number_of r

unfoldable pub counts_of : List Pair → ℕ → Counts
counts_of m used = record { keys = length m; size = contents m; used = used; live = contents m + 8 * length m }

pub record Counting (log : List ℕ) (used : ℕ) (t : List ℕ) (r : Result Counts Refusal) : Type 0 where
  pub bad : eqb (counted_number r) 13 ≡ not (fit (length log) used (length t))
  pub answer : Agrees log used t → r ≡ Ok (counts_of (map_of log used) used)
