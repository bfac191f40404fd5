-- One call: a step holds exactly where the definition that the call's `ensures` cites relates the world before, the call, its answer and
-- the world after. The opening, which may bring a table of its own, stands with the runs. Assumes nothing.
use Rattle.bitcask.specs.declared.request.Used.{Used}
use Rattle.keycode.specs.declared.refusal.Refusal.{Refusal}
use Rattle.keycode.specs.declared.parts.Part.{Part}
use Rattle.bitcask.specs.declared.answers.KeyValue.{KeyValue}
use Rattle.bitcask.specs.declared.report.Counts.{Counts}
use Rattle.mvcc.specs.declared.report.Versions.{Versions}
use Rattle.std.specs.Prelude.{ℕ, Bool, true, false, List, length, Result, Ok, Err, None, Some}
use Rattle.bitcask.specs.declared.answers.Bound.{Bound}
use Rattle.bitcask.specs.read.Promises.{Gets as Looks, Steps}
use Rattle.bitcask.specs.compaction.Promises.{Compacts, Counting}
use Rattle.bitcask.specs.check.Promises.{Tells}
use Rattle.mvcc.specs.declared.handle.Handle.{Handle}
use Rattle.mvcc.specs.payload.Payloads.{value_bytes}
use Rattle.mvcc.specs.declared.begun.Begun.{Begun}
use Rattle.mvcc.specs.start.Promises.{Begins}
use Rattle.mvcc.specs.read_only.Promises.{BeginsReading, States}
use Rattle.mvcc.specs.as_of.Promises.{BeginsAsOf}
use Rattle.mvcc.specs.read.Promises.{Gets, Resumes}
use Rattle.mvcc.specs.unversioned.Promises.{GetsUnversioned, SetsPlain}
use Rattle.mvcc.specs.write.Promises.{Writes}
use Rattle.mvcc.specs.scan.Promises.{Scans, ScansPrefix}
use Rattle.mvcc.specs.end.Promises.{Commits, RollsBack}
use Rattle.mvcc.specs.world.World.{World, Call, compacts, begins, begins_reading, begins_as_of, resumes, gets, sets, deletes, scans, scans_prefix, commits, rolls_back, gets_plain, sets_plain, states, counts, looks, steps, checks}

-- the used length that an answer leaves
abbrev pub used_by : Result Used Refusal → ℕ → ℕ
used_by (Ok u) used = u.len
used_by (Err r) used = used

abbrev pub is_done : Result Used Refusal → Bool
is_done (Ok u) = true
is_done (Err r) = false

-- after a call that changes log and table
abbrev pub changed_to : World → Result Used Refusal → List ℕ → List ℕ → World
changed_to w r log t = record { log = log; used = used_by r w.used; table = t }

-- after a compaction into g: done, the target is the log
abbrev pub compacted_to : World → Result Used Refusal → List ℕ → List ℕ → World
compacted_to w (Ok u) t g = record { log = g; used = u.len; table = t }
compacted_to w (Err r) t g = record { log = w.log; used = w.used; table = t }

pub data Step (w : World) : Call → World → Type 0 where
  compacting : (g : List ℕ) {r : Result Used Refusal} {t g' : List ℕ} → Compacts w.log w.used w.table g r t g' → Step w (compacts r) (compacted_to w r t g')
  beginning : {r : Begun} {log t : List ℕ} → Begins w.log w.used w.table r log t → Step w (begins r) (changed_to w r.answer log t)
  beginning_reading : {r : Begun} → BeginsReading w.log w.used w.table r → Step w (begins_reading r) w
  beginning_as_of : {v : ℕ} {r : Begun} → BeginsAsOf w.log w.used w.table v r → Step w (begins_as_of v r) w
  resuming : {h : Handle} {r : Begun} → Resumes w.log w.used w.table h r → Step w (resumes h r) w
  getting : {h : Handle} {k : List ℕ} {r : Result Part Refusal} → Gets w.log w.used w.table h k r → Step w (gets h k r) w
  setting : {h : Handle} {k v : List ℕ} {r : Result Used Refusal} {log t : List ℕ} → Writes w.log w.used w.table h k (value_bytes (Some v)) (length v) r log t
      → Step w (sets h k v r) (changed_to w r log t)
  deleting : {h : Handle} {k : List ℕ} {r : Result Used Refusal} {log t : List ℕ} → Writes w.log w.used w.table h k (value_bytes None) 0 r log t
      → Step w (deletes h k r) (changed_to w r log t)
  scanning : {h : Handle} {lower : Bound} {low : List ℕ} {upper : Bound} {high : List ℕ} {given : Bool} {last : List ℕ} {r : Result KeyValue Refusal}
      → Scans w.log w.used w.table h lower low upper high given last r → Step w (scans h lower low upper high given last r) w
  scanning_prefix : {h : Handle} {prefix : List ℕ} {given : Bool} {last : List ℕ} {r : Result KeyValue Refusal} → ScansPrefix w.log w.used w.table h prefix given last r
      → Step w (scans_prefix h prefix given last r) w
  committing : {h : Handle} {r : Result Used Refusal} {log t : List ℕ} → Commits w.log w.used w.table h r log t → Step w (commits h r) (changed_to w r log t)
  rolling_back : {h : Handle} {r : Result Used Refusal} {log t : List ℕ} → RollsBack w.log w.used w.table h r log t → Step w (rolls_back h r) (changed_to w r log t)
  getting_plain : {k : List ℕ} {r : Result Part Refusal} → GetsUnversioned w.log w.used w.table k r → Step w (gets_plain k r) w
  setting_plain : {k v : List ℕ} {r : Result Used Refusal} {log t : List ℕ} → SetsPlain w.log w.used w.table k v r log t → Step w (sets_plain k v r) (changed_to w r log t)
  stating : {r : Result Versions Refusal} → States w.log w.used w.table r → Step w (states r) w
  counting : {r : Result Counts Refusal} → Counting w.log w.used w.table r → Step w (counts r) w
  looking : {k : List ℕ} {r : Result Part Refusal} → Looks w.log w.used w.table k r → Step w (looks k r) w
  stepping : {lower : Bound} {low : List ℕ} {upper : Bound} {high : List ℕ} {given : Bool} {last : List ℕ} {r : Result KeyValue Refusal}
      → Steps w.log w.used w.table lower low upper high given last r → Step w (steps lower low upper high given last r) w
  checking : {r : Bool} → Tells w.log w.used w.table r → Step w (checks r) w
