-- Runs: any mix of calls, each on the world that the last one left and with handles that the store gave.
-- Assumes nothing.
use Rattle.bitcask.specs.declared.request.Used.{Used}
use Rattle.keycode.specs.declared.refusal.Refusal.{Refusal}
use Rattle.std.specs.Prelude.{ℕ, ◌≡◌, Bool, true, List, [], ◌∷◌, Result, Option, None, Some}
use Rattle.bitcask.specs.recovery.Promises.{changed_number, Opens}
use Rattle.mvcc.specs.declared.handle.Handle.{Handle}
use Rattle.mvcc.specs.declared.begun.Begun.{Begun}
use Rattle.mvcc.specs.world.World.{World, Call, opens, compacts, begins, begins_reading, begins_as_of, resumes, gets, sets, deletes, scans, scans_prefix, commits, rolls_back, gets_plain, sets_plain, states, counts, looks, steps, checks, Calls}
use Rattle.mvcc.specs.world.Steps.{used_by, is_done, Step}

-- H1 is where the list H stood at some time
pub data After {A : Type 0} (H1 : List A) : List A → Type 0 where
  now : After H1 H1
  later : {H : List A} {e : A} → After H1 H → After H1 (e ∷ H)

-- ---- handles

-- an answer gave the handle with 0
abbrev pub Gave : Begun → Handle → Type 0
Gave r h = (changed_number r.answer ≡ 0) × (r.handle ≡ h)

-- one of the calls gave the handle
pub data Given (h : Handle) (T : Calls) : Type 0 where
  by_begin : {r : Begun} {T₁ : Calls} → After (begins r ∷ T₁) T → Gave r h → Given h T
  by_reading : {r : Begun} {T₁ : Calls} → After (begins_reading r ∷ T₁) T → Gave r h → Given h T
  by_as_of : {v : ℕ} {r : Begun} {T₁ : Calls} → After (begins_as_of v r ∷ T₁) T → Gave r h → Given h T

-- the handle that a call is made with
abbrev pub handle_in : Call → Option Handle
handle_in (opens r) = None
handle_in (compacts r) = None
handle_in (begins r) = None
handle_in (begins_reading r) = None
handle_in (begins_as_of v r) = None
handle_in (resumes h r) = Some h
handle_in (gets h k r) = Some h
handle_in (sets h k v r) = Some h
handle_in (deletes h k r) = Some h
handle_in (scans h lower low upper high given last r) = Some h
handle_in (scans_prefix h prefix given last r) = Some h
handle_in (commits h r) = Some h
handle_in (rolls_back h r) = Some h
handle_in (gets_plain k r) = None
handle_in (sets_plain k v r) = None
handle_in (states r) = None
handle_in (counts r) = None
handle_in (looks k r) = None
handle_in (steps lower low upper high given last r) = None
handle_in (checks r) = None

-- it was given before: by this store, with 0, and is unaltered
abbrev pub Fair : Call → Calls → Type 0
Fair c T = (h : Handle) → handle_in c ≡ Some h → Given h T

-- ---- runs: any mix of calls, from the opening of a log of which nothing is used, of any size and any bytes, with any table; after a
-- refused opening the next call is an opening

pub data Run : Bool → World → Calls → Type 0 where
  first : (log t : List ℕ) {r : Result Used Refusal} {t' : List ℕ} → Opens log 0 t r t' → Run (is_done r) (record { log = log; used = used_by r 0; table = t' }) (opens r ∷ [])
  opened : {b : Bool} {w : World} {T : Calls} → Run b w T → (t : List ℕ) {r : Result Used Refusal} {t' : List ℕ} → Opens w.log w.used t r t'
      → Run (is_done r) (record { log = w.log; used = used_by r w.used; table = t' }) (opens r ∷ T)
  called : {w w' : World} {T : Calls} {c : Call} → Run true w T → Fair c T → Step w c w' → Run true w' (c ∷ T)
