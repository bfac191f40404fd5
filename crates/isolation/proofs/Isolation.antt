-- Snapshot isolation: the theorems, over every run of the store by what its public calls state. Each names the world that the run has
-- come to, and a call that the contract admits there; what it says is read off the calls and the numbers answered alone. The definitions
-- are in specs/World (runs), specs/Views (what a handle is to see) and history's specs/History (open, committed, laid down). S1 to S8
-- number the sentences of the third demand, as docs/PROMISES.md has them. Assumes nothing.
use Prim.Native.Nat.{ℕ, ◌+◌, ◌/◌, ◌%◌, ◌≤◌, ◌<◌}
use mathlib.Core.Path.{◌≡◌, refl, ◌∙◌}
use mathlib.Core.Bool.{Bool, true, false}
use mathlib.Core.Logic.{◌≢◌, ◌⊎◌}
use mathlib.Core.List.{List, [], ◌∷◌}
use native.Mathlib.Omega.{arith}
use lib.Dec.{leb}
use lib.ListN.{length}
use Rattle.std.specs.Prelude.{Result, Ok, Err, Option}
use Rattle.bitcask.specs.declared.request.Used.{Used}
use Rattle.keycode.specs.declared.refusal.Refusal.{Refusal}
use Rattle.keycode.specs.declared.parts.Part.{Part}
use Rattle.bitcask.specs.declared.answers.KeyValue.{KeyValue}
use Rattle.bitcask.specs.declared.report.Counts.{Counts}
use Rattle.keycode.specs.Tests.{pick}
use Rattle.keycode.specs.Limits.{max_key, max_value, max_log}
use Rattle.keycode.specs.declared.refusal.Refusal.TheVariants.{ReadOnly, NotOpen, KeyTooLong, ValueTooLong, LogFull, NoSuchVersion, BadRequest}
use Rattle.keycode.specs.key.Keys.{unversioned, encode}
use Rattle.bitcask.specs.keydir.Slots.{slot_words}
use Rattle.bitcask.specs.keydir.Place.{place_in}
use Rattle.bitcask.specs.recovery.Recover.{run, items, recovered, map_of}
use Rattle.bitcask.specs.recovery.Agree.{fit, Agrees}
use Rattle.bitcask.specs.recovery.Promises.{changed_number, opened_by, Opens}
use Rattle.bitcask.proofs.recovery.AgreeLaws.{agrees-sound}
use Rattle.bitcask.proofs.recovery.OpenLaws.{open_empty}
use Rattle.bitcask.specs.declared.answers.Bound.{Bound}
use Rattle.bitcask.specs.read.Ranks.{admitted, first_of}
use Rattle.bitcask.specs.read.Promises.{located_by, stepped_by}
use Rattle.bitcask.specs.read.Promises as Log
use Rattle.bitcask.specs.change.Append.{size_all, append_answer}
use Rattle.bitcask.specs.compaction.Promises.{Compacts, counts_of, Counting}
use Rattle.bitcask.specs.check.Promises as Agreeing
use Rattle.mvcc.specs.declared.handle.Handle.{Handle}
use Rattle.mvcc.specs.handle.Handles.{handle_of}
use Rattle.mvcc.specs.payload.Payloads.{value_bytes}
use Rattle.mvcc.specs.declared.begun.Begun.{Begun}
use Rattle.mvcc.specs.request.Given.{refused_by, begun_with}
use Rattle.mvcc.specs.declared.report.Versions.{Versions}
use Rattle.mvcc.specs.start.Plan.{begin_plan}
use Rattle.mvcc.specs.start.Promises.{Begins}
use Rattle.mvcc.specs.read_only.Promises.{BeginsReading, States}
use Rattle.mvcc.specs.as_of.Promises.{BeginsAsOf}
use Rattle.mvcc.specs.read.Promises.{Gets, Resumes}
use Rattle.mvcc.specs.request.Checks.{or_else}
use Rattle.bitcask.specs.engine.Rows.{rows_in}
use Rattle.bitcask.specs.engine.Spots.{look_row}
use Rattle.mvcc.specs.unversioned.Promises.{row_located, GetsUnversioned, plain_plan, SetsPlain}
use Rattle.mvcc.specs.append.Lays.{sizes_by}
use Rattle.mvcc.specs.write.Writes.{plan}
use Rattle.mvcc.specs.write.Promises.{Writes}
use Rattle.mvcc.specs.scan.Bounds.{keys_fit, prefix_fits}
use Rattle.mvcc.specs.scan.Promises.{Scanning, Scans, ScansPrefix}
use Rattle.mvcc.specs.end.Plans.{commit_plan, rollback_plan}
use Rattle.mvcc.specs.end.Promises.{Commits, RollsBack}
use Rattle.isolation.specs.history.History.{Key, Bytes, unborn, opened, status}
use Rattle.isolation.specs.records.Scans.{prefix_past}
use Rattle.mvcc.specs.world.World.{World, Calls, begins}
use Rattle.mvcc.specs.world.Runs.{After, Gave, Given, Run}
use Rattle.isolation.specs.Meaning.{meaning}
use Rattle.isolation.specs.Views.{Usable, Sees, Shows, Meets, size_in, Tells, Stands, Starts, ended_in, compacted_in, opened_in}
use Rattle.isolation.specs.Shown.{ShowsFirst}
use Rattle.isolation.proofs.HoldLaws.{run_holds}
use Rattle.isolation.proofs.ReopenLaws.{reopened}
use Rattle.isolation.proofs.ShownLaws.{sees-given, usable_in, sees-shown, got-shows}
use Rattle.isolation.proofs.ScanLaws.{scan_shown, prefix_shown, shows_same}
use Rattle.isolation.proofs.MeetLaws.{write_meets}
use Rattle.isolation.proofs.OverLaws.{ended-gets, ended-scans, ended-resumes, ended-writes, ended-commits, ended_rolls}
use Rattle.isolation.proofs.AnswerLaws.{begins_not, readings_not, as_of_began, as_of_else, begun_new, stated, resumed}
use Rattle.isolation.proofs.StartLaws.{stands, begin_starts, reading_starts}
use Rattle.isolation.proofs.NumberLaws.{no_room, plain_gets, plain_sets, open_any, open_exact, compact_exact}
use Rattle.isolation.proofs.NumberLaws.{get_long, scan_long, commit_ends, rollback_ends, write_reads, write_long, write_large}

-- S1. The first opening, of a buffer of any bytes of which nothing is used and with any table, is done, if the sizes are right.
pub first-opens : {log t t' : List ℕ} {r : Result Used Refusal} → Opens log 0 t r t' → length log ≤ max_log → length t % slot_words ≡ 0 → r ≡ Ok (record { len = 0 })
first-opens o h k = (open_empty o h k).0

-- S3. An opening with any table, after refused openings too, cuts nothing: 13 exactly where the sizes are not right, 8 exactly where at some
-- entry of the log the keys are more than the table's slots, else 0.
pub open_cuts_none : {b : Bool} {w : World} {T : Calls} → Run b w T → (t : List ℕ) {r : Result Used Refusal} {t' : List ℕ} → Opens w.log w.used t r t'
    → r ≡ pick (fit (length w.log) w.used (length t)) (opened_by (run w.log (length t / slot_words) (items w.log w.used 0) []) w.used) (Err BadRequest)
open_cuts_none R t o = open_any R t o

module _ {w : World} {T : Calls} (R : Run true w T) where
  -- S2, S4. Whatever calls were made, the table agrees with the log after each.
  pub run-agrees : Agrees w.log w.used w.table
  run-agrees = (run_holds R).ready refl

  -- An opening of the log with a table of at least as many words as the one in hand, whatever they are, is done and cuts nothing: whoever
  -- keeps log, used length and the table's size loses nothing by the loss of the table's words. Refused openings in between change neither
  -- log nor used length, so that the same holds after them.
  pub reopens_larger : (t : List ℕ) → length w.table ≤ length t → length t % slot_words ≡ 0 → {r : Result Used Refusal} {t' : List ℕ} → Opens w.log w.used t r t'
      → r ≡ Ok (record { len = w.used })
  reopens_larger t h k o = reopened R t h k o

  pub reopens : (t : List ℕ) → length t ≡ length w.table → {r : Result Used Refusal} {t' : List ℕ} → Opens w.log w.used t r t' → r ≡ Ok (record { len = w.used })
  reopens t e o = reopens_larger t (omega arith) (rw e (agrees-sound w.log w.used w.table run-agrees).whole) o

  -- With any table of the sizes in hand the words alone decide: 13 exactly where they are no whole slots, else 8 or 0 as above.
  pub open_answers : (t : List ℕ) {r : Result Used Refusal} {t' : List ℕ} → Opens w.log w.used t r t' → r ≡ opened_in w (length t)
  open_answers t o = open_exact R t o (agrees-sound w.log w.used w.table run-agrees)

  -- S5, S6. A get with a handle that may be used, of a key within the limit, shows exactly what the handle is to see: 0 with that value,
  -- or 1 where there is none, and no other number.
  pub get_shows : {h : Handle} {f : Key → Option Bytes} → Sees T h f → Usable T h → {k : Key} → length k ≤ max_key → {r : Result Part Refusal} → Gets w.log w.used w.table h k r
      → Shows w.log r (f k)
  get_shows s u l b = got-shows (run_holds R).kept run-agrees s u l b

  -- A scan step alike, with any bounds or prefix and any last key within the limit: the first key in bounds and past the last one that shows
  -- a value, with that value, or 1 where there is none, and no other number.
  pub scan_shows : {h : Handle} {f : Key → Option Bytes} → Sees T h f → Usable T h → (lower : Bound) (low : Key) (upper : Bound) (high : Key) (given : Bool) (last : Key)
      → keys_fit lower low upper high given last ≡ true → {r : Result KeyValue Refusal} → Scans w.log w.used w.table h lower low upper high given last r
      → ShowsFirst f (admitted lower low upper high given last) w.log r
  scan_shows {h} s u lower low upper high given last l b =
      let K = (run_holds R).kept in
      shows_same (sees-shown K s u) (scan_shown K run-agrees (K.handles h (sees-given s)) (usable_in K h u) lower low upper high given last b l)

  pub prefix_shows : {h : Handle} {f : Key → Option Bytes} → Sees T h f → Usable T h → (prefix : Key) (given : Bool) (last : Key) → prefix_fits prefix given last ≡ true → {r : Result KeyValue Refusal}
      → ScansPrefix w.log w.used w.table h prefix given last r → ShowsFirst f (prefix_past prefix given last) w.log r
  prefix_shows {h} s u prefix given last l b =
      let K = (run_holds R).kept in
      shows_same (sees-shown K s u) (prefix_shown K run-agrees (K.handles h (sees-given s)) (usable_in K h u) prefix given last b l)

  -- S6. An as-of answers 0 exactly for 0 and for a version that began, and else 10.
  pub as_of_answers : {v : ℕ} {r : Begun} → (v ≡ 0) ⊎ (status (meaning T) v ≢ unborn) → BeginsAsOf w.log w.used w.table v r → changed_number r.answer ≡ 0
  as_of_answers c b = as_of_began (run_holds R).kept run-agrees c b

  pub as_of_refused : {v : ℕ} {r : Begun} → v ≢ 0 → status (meaning T) v ≡ unborn → BeginsAsOf w.log w.used w.table v r → r ≡ refused_by NoSuchVersion
  as_of_refused n u b = as_of_else (run_holds R).kept run-agrees n u b

  -- 12 is no begin's answer; of the other calls whose contract has it the theorems here say all numbers.
  pub begin_sound : {r : Begun} {log t : List ℕ} → Begins w.log w.used w.table r log t → changed_number r.answer ≢ 12
  begin_sound b = begins_not (run_holds R).kept run-agrees b

  pub reading_sound : {r : Begun} → BeginsReading w.log w.used w.table r → changed_number r.answer ≢ 12
  reading_sound b = readings_not (run_holds R).kept run-agrees b

  -- A begin answers 11 exactly where no version is left, then 9 exactly where sixteen are open, else what the room says, 0, 7 or 8, with the
  -- handle of the next version and the versions open. Never are more than sixteen open.
  pub begin_answers : {r : Begun} {log t : List ℕ} → Begins w.log w.used w.table r log t
      → (n : ℕ) × ((vs : List ℕ) × (Stands T n vs × Starts n vs (append_answer w.log w.used (length w.table) (begin_plan n vs)) r))
  begin_answers b = (_, (_, (stands (run_holds R).kept, begin_starts (run_holds R).kept run-agrees b)))

  pub run-few : (n : ℕ) × ((vs : List ℕ) × Stands T n vs)
  run-few = (_, (_, stands (run_holds R).kept))

  -- A read-only begin answers 0, always, and leaves the used length.
  pub reading_answers : {r : Begun} → BeginsReading w.log w.used w.table r → (n : ℕ) × ((vs : List ℕ) × (Stands T n vs × (r ≡ begun_with w.used (handle_of n true vs))))
  reading_answers b = (_, (_, (stands (run_holds R).kept, reading_starts (run_holds R).kept run-agrees b)))

  -- No version is given twice: a begin gives none that an earlier begin gave.
  pub begin_fresh : {r : Begun} {log t : List ℕ} {h : Handle} → Begins w.log w.used w.table r log t → Gave r h → {T₁ : Calls} {x : Begun} {i : Handle} → After (begins x ∷ T₁) T
      → Gave x i → h.version ≢ i.version
  begin_fresh b g f i = begun_new (run_holds R).kept run-agrees b g f i

  -- The status answers 0, with the last version that began and the number of those that are open.
  pub status_tells : {r : Result Versions Refusal} → States w.log w.used w.table r → (s : Versions) × (r ≡ Ok s) × Tells T s
  status_tells b = stated (run_holds R).kept run-agrees b

  -- A compaction into a target of any size and bytes: 13 exactly where it is over the largest log, 7 exactly where the live entries do not
  -- fit it, else 0.
  pub compact_answers : {g t g' : List ℕ} {r : Result Used Refusal} → Compacts w.log w.used w.table g r t g' → r ≡ compacted_in w (length g)
  compact_answers b = compact_exact (run_holds R).kept run-agrees b

  -- The yes/no on agreement answers true.
  pub check-answers : {r : Bool} → Agreeing.Tells w.log w.used w.table r → r ≡ true
  check-answers b = b.so_yes run-agrees

  -- The unversioned calls: a get answers 4 exactly where the key is over the limit, else 0 or 1 as the map has it; a set answers 4, 5, and then
  -- what the room says, 0, 7 or 8.
  pub plain_get_answers : {k : List ℕ} {r : Result Part Refusal} → GetsUnversioned w.log w.used w.table k r
      → r ≡ pick (leb (length k) max_key) (row_located (look_row (encode (unversioned k)) (rows_in w.log w.used))) (Err KeyTooLong)
  plain_get_answers b = plain_gets (run_holds R).kept run-agrees b

  pub plain_set_answers : {k v : List ℕ} {r : Result Used Refusal} {log t : List ℕ} → SetsPlain w.log w.used w.table k v r log t
      → r ≡ or_else (sizes_by (leb (length k) max_key) (leb (length v) max_value)) (append_answer w.log w.used (length w.table) (plain_plan k v))
  plain_set_answers b = plain_sets (run_holds R).kept run-agrees b

  -- The log's own reads: a get and a scan step answer 0 or 1 as the map has it, the status 0.
  pub look-answers : {k : List ℕ} {r : Result Part Refusal} → Log.Gets w.log w.used w.table k r → r ≡ located_by (place_in w.log k (recovered w.log w.used)) (recovered w.log w.used)
  look-answers b = b.answer run-agrees

  pub step-answers : {lower : Bound} {low : List ℕ} {upper : Bound} {high : List ℕ} {given : Bool} {last : List ℕ} {r : Result KeyValue Refusal}
      → Log.Steps w.log w.used w.table lower low upper high given last r
      → r ≡ stepped_by (first_of (admitted lower low upper high given last) 0 (map_of w.log w.used)) (recovered w.log w.used)
  step-answers b = b.answer run-agrees

  pub count-answers : {r : Result Counts Refusal} → Counting w.log w.used w.table r → r ≡ Ok (counts_of (map_of w.log w.used) w.used)
  count-answers b = b.answer run-agrees

  -- With a handle that may be used a resume answers 0 and gives the handle as it is; a get and a scan step answer 4 where a key is over the
  -- limit; a commit and a rollback answer 7 exactly where their tombstones do not fit the log, else 0.
  module _ {h : Handle} (g : Given h T) (u : Usable T h) where
    pub resume_answers : {r : Begun} → Resumes w.log w.used w.table h r → r ≡ begun_with w.used h
    resume_answers b = resumed (run_holds R).kept run-agrees g u b

    pub get_refused : {k : List ℕ} → max_key < length k → {r : Result Part Refusal} → Gets w.log w.used w.table h k r → r ≡ Err KeyTooLong
    get_refused l b = get_long (run_holds R).kept run-agrees g u l b

    pub scan_refused : (lower : Bound) (low : Key) (upper : Bound) (high : Key) (given : Bool) (last : Key) → keys_fit lower low upper high given last ≡ false → {r : Result KeyValue Refusal}
        → Scans w.log w.used w.table h lower low upper high given last r → r ≡ Err KeyTooLong
    scan_refused lower low upper high given last e b = scan_long (run_holds R).kept run-agrees g u e b

    pub prefix_refused : (prefix : Key) (given : Bool) (last : Key) → prefix_fits prefix given last ≡ false → {r : Result KeyValue Refusal} → ScansPrefix w.log w.used w.table h prefix given last r
        → r ≡ Err KeyTooLong
    prefix_refused prefix given last e b = scan_long (run_holds R).kept run-agrees g u e b

    pub commit_exact : {r : Result Used Refusal} {log t : List ℕ} → Commits w.log w.used w.table h r log t → r ≡ ended_in w (commit_plan h (map_of w.log w.used))
    commit_exact b = commit_ends (run_holds R).kept run-agrees g u b

    pub rollback_exact : {r : Result Used Refusal} {log t : List ℕ} → RollsBack w.log w.used w.table h r log t → r ≡ ended_in w (rollback_plan h (map_of w.log w.used))
    rollback_exact b = rollback_ends (run_holds R).kept run-agrees g u b

    pub commit_full : {r : Result Used Refusal} {log t : List ℕ} → length w.log < w.used + size_all (commit_plan h (map_of w.log w.used)) → Commits w.log w.used w.table h r log t
        → r ≡ Err LogFull
    commit_full l b = commit_exact b ∙ no_room w (commit_plan h (map_of w.log w.used)) l

    pub rollback_full : {r : Result Used Refusal} {log t : List ℕ} → length w.log < w.used + size_all (rollback_plan h (map_of w.log w.used)) → RollsBack w.log w.used w.table h r log t
        → r ≡ Err LogFull
    rollback_full l b = rollback_exact b ∙ no_room w (rollback_plan h (map_of w.log w.used)) l

  -- A write with a read-only handle answers 2.
  pub write_refused : {h : Handle} → Given h T → h.read_only ≡ true → {k payload : List ℕ} {size : ℕ} {r : Result Used Refusal} {log t : List ℕ}
      → Writes w.log w.used w.table h k payload size r log t → r ≡ Err ReadOnly
  write_refused g e b = write_reads (run_holds R).kept run-agrees g e b

  -- of a transaction that a begin gave the handle of
  module _ {T₁ : Calls} {x : Begun} {h : Handle} (f : After (begins x ∷ T₁) T) (g : Gave x h) where
    -- S7. A write while it is open, key and value within the limits: 6 exactly where another transaction has an accepted write of the key
    -- and is open, or committed after this one began; else 0, 7 or 8 as the room says.
    pub write_conflicts : status (meaning T) h.version ≡ opened → {k : Key} → length k ≤ max_key → (o : Option Bytes) → size_in o ≤ max_value → {r : Result Used Refusal} {log t : List ℕ}
        → Writes w.log w.used w.table h k (value_bytes o) (size_in o) r log t
        → Meets T h k (append_answer w.log w.used (length w.table) (plan h.version k (value_bytes o))) r
    write_conflicts is l o v b = write_meets (run_holds R).kept run-agrees f g is l o v b

    -- A key over the limit is 4, and with a key within it a value over the limit is 5.
    module _ (is : status (meaning T) h.version ≡ opened) {k payload : List ℕ} {size : ℕ} {r : Result Used Refusal} {log t : List ℕ} (b : Writes w.log w.used w.table h k payload size r log t) where
      pub write_long_key : max_key < length k → r ≡ Err KeyTooLong
      write_long_key l = write_long (run_holds R).kept run-agrees f g is b l

      pub write_long_value : length k ≤ max_key → max_value < size → r ≡ Err ValueTooLong
      write_long_value l v = write_large (run_holds R).kept run-agrees f g is b l v

    -- S3, S8. Once it has ended, by a commit or a rollback answered 0, every call with its handle answers 3.
    module _ (over : status (meaning T) h.version ≢ opened) where
      pub over-gets : {k : List ℕ} {r : Result Part Refusal} → Gets w.log w.used w.table h k r → r ≡ Err NotOpen
      over-gets b = ended-gets (run_holds R).kept run-agrees f g over b

      pub over-scans : {short : Bool} {test : List ℕ → Bool} {r : Result KeyValue Refusal} → Scanning w.log w.used w.table h short test r → r ≡ Err NotOpen
      over-scans b = ended-scans (run_holds R).kept run-agrees f g over b

      pub over-resumes : {r : Begun} → Resumes w.log w.used w.table h r → r ≡ refused_by NotOpen
      over-resumes b = ended-resumes (run_holds R).kept run-agrees f g over b

      pub over-writes : {k payload : List ℕ} {size : ℕ} {r : Result Used Refusal} {log t : List ℕ} → Writes w.log w.used w.table h k payload size r log t → r ≡ Err NotOpen
      over-writes b = ended-writes (run_holds R).kept run-agrees f g over b

      pub over-commits : {r : Result Used Refusal} {log t : List ℕ} → Commits w.log w.used w.table h r log t → r ≡ Err NotOpen
      over-commits b = ended-commits (run_holds R).kept run-agrees f g over b

      pub over_rolls : {r : Result Used Refusal} {log t : List ℕ} → RollsBack w.log w.used w.table h r log t → r ≡ Err NotOpen
      over_rolls b = ended_rolls (run_holds R).kept run-agrees f g over b
