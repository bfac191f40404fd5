-- What the calls of a run mean: how the history counts each, by the call made and the number answered alone. Assumes nothing.
use Rattle.bitcask.specs.declared.request.Used.{Used}
use Rattle.keycode.specs.declared.refusal.Refusal.{Refusal}
use Rattle.std.specs.Prelude.{[], ◌∷◌, Result, Ok, Err, None, Some}
use Rattle.bitcask.specs.recovery.Promises.{changed_number}
use Rattle.mvcc.specs.world.World.{Call, opens, compacts, begins, begins_reading, begins_as_of, resumes, gets, sets, deletes, scans}
use Rattle.mvcc.specs.world.World.{scans_prefix, commits, rolls_back, gets_plain, sets_plain, states, counts, looks, steps, checks, Calls}
use Rattle.isolation.specs.history.History.{History}
use Rattle.isolation.specs.history.Run.{Entry, begin_e, read_e, as_of_e, write_e, commit_e, rollback_e, other_e, Trace, events}
use Rattle.isolation.specs.records.Stored.{sight_of}

abbrev pub on_done : {A : Type 0} → Result Used Refusal → A → A → A
on_done (Ok u) a b = a
on_done (Err r) a b = b

-- a call as the history counts it
abbrev pub entry_of : Call → Entry
entry_of (opens r) = other_e
entry_of (compacts r) = other_e
entry_of (begins r) = on_done r.answer (begin_e (sight_of r.handle)) other_e
entry_of (begins_reading r) = on_done r.answer (read_e (sight_of r.handle)) other_e
entry_of (begins_as_of v r) = on_done r.answer (as_of_e v (sight_of r.handle)) other_e
entry_of (resumes h r) = other_e
entry_of (gets h k r) = other_e
entry_of (sets h k v r) = write_e (sight_of h) k (Some v) (changed_number r)
entry_of (deletes h k r) = write_e (sight_of h) k None (changed_number r)
entry_of (scans h lower low upper high given last r) = other_e
entry_of (scans_prefix h prefix given last r) = other_e
entry_of (commits h r) = on_done r (commit_e (sight_of h)) other_e
entry_of (rolls_back h r) = on_done r (rollback_e (sight_of h)) other_e
entry_of (gets_plain k r) = other_e
entry_of (sets_plain k v r) = other_e
entry_of (states r) = other_e
entry_of (counts r) = other_e
entry_of (looks k r) = other_e
entry_of (steps lower low upper high given last r) = other_e
entry_of (checks r) = other_e

unfoldable pub trace_of : Calls → Trace
trace_of [] = []
trace_of (c ∷ T) = entry_of c ∷ trace_of T

abbrev pub meaning : Calls → History
meaning T = events (trace_of T)
