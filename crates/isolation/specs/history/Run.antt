-- The calls as they are made and answered, how the history counts each, and every way to use a store of typed records. Assumes nothing.
use Prim.Native.Nat.{ℕ, zero, suc, ◌<◌, Ordering}
use Rattle.std.specs.Prelude.{◌≡◌, Bool, true, false, not, ◌||◌, cond, List, [], ◌∷◌, ltb, length, Option, None, Some}
use Rattle.keycode.specs.key.Keys.{Fields, next_version, txn_active, txn_active_snapshot}
use Rattle.isolation.specs.history.History.{Key, Bytes}
use Rattle.isolation.specs.history.Records.{Map, look, put, plain_rec}
use Rattle.mvcc.specs.world.Runs.{After}
use Rattle.isolation.specs.history.History.{Sight, Event, began, wrote, committed, undone, noted, History}
use Rattle.isolation.specs.history.Store.{is_some}
use Rattle.isolation.specs.history.Calls.{next_of, set_of, actives, begin_handle, begin_map, write_map, commit_map, rollback_map, conflict, last_version}

-- a call and what it answered; a refused call that is not named changes nothing and is `other`
pub data Entry : Type 0 where
  begin_e : Sight → Entry
  read_e : Sight → Entry
  as_of_e : ℕ → Sight → Entry
  write_e : Sight → Key → Option Bytes → ℕ → Entry
  commit_e : Sight → Entry
  rollback_e : Sight → Entry
  other_e : Entry

abbrev pub Trace : Type 0
Trace = List Entry

-- a write counts if it was answered 0; commit and rollback of a read-only handle do nothing
abbrev pub write_event : ℕ → Sight → Key → Option Bytes → Event
write_event zero h k o = wrote h.ver k o
write_event (suc n) h k o = noted

abbrev pub event : Entry → Event
event (begin_e h) = began h
event (read_e h) = noted
event (as_of_e v h) = noted
event (write_e h k o n) = write_event n h k o
event (commit_e h) = cond h.ro noted (committed h.ver)
event (rollback_e h) = cond h.ro noted (undone h.ver)
event other_e = noted

unfoldable pub events : Trace → History
events [] = []
events (e ∷ T) = event e ∷ events T

-- the handle was given, when the trace stood at T1
pub data Gave (h : Sight) (T1 T : Trace) : Type 0 where
  by_begin : After (begin_e h ∷ T1) T → Gave h T1 T
  by_read : After (read_e h ∷ T1) T → Gave h T1 T
  by_as_of : (v : ℕ) → After (as_of_e v h ∷ T1) T → Gave h T1 T

abbrev pub read_handle : Map → Sight
read_handle m = record { ver = next_of (look m next_version); ro = true; set = actives m }

abbrev pub as_of_handle : ℕ → Map → Sight
as_of_handle v m = record { ver = v; ro = true; set = set_of (look m (txn_active_snapshot v)) }

-- the handle may be used: read-only, or its transaction is open
abbrev pub usable : Map → Sight → Bool
usable m h = h.ro || is_some (look m (txn_active h.ver))

abbrev pub pick : Bool → ℕ → ℕ → ℕ
pick true a b = a
pick false a b = b

abbrev pub too_long : Option Bytes → Bool
too_long None = false
too_long (Some v) = ltb 4096 (length v)

-- the number of a write, up to room for it: 2, 3, 4, 5, 6, in this order
unfoldable pub write_number : Map → Sight → Key → Option Bytes → ℕ
write_number m h k o =
    pick h.ro 2
    (pick (not (is_some (look m (txn_active h.ver)))) 3
    (pick (ltb 64 (length k)) 4
    (pick (too_long o) 5
    (pick (conflict m h k) 6 0))))

module _ (cmp : Fields → Fields → Ordering) where
  abbrev pub wrote_map : ℕ → Map → Sight → Key → Option Bytes → Map
  wrote_map zero m h k o = write_map cmp h.ver k o m
  wrote_map (suc n) m h k o = m

  -- every way to use the store
  pub data Run : Map → Trace → Type 0 where
    run-empty : Run [] []
    do_begin : {m : Map} {T : Trace} → Run m T → next_of (look m next_version) < last_version → length (actives m) < 16 → Run (begin_map cmp m) (begin_e (begin_handle m) ∷ T)
    do_read : {m : Map} {T : Trace} → Run m T → Run m (read_e (read_handle m) ∷ T)
    do_as_of : {m : Map} {T : Trace} → Run m T → (v : ℕ) → v < next_of (look m next_version) → Run m (as_of_e v (as_of_handle v m) ∷ T)
    do_write : {m : Map} {T T1 : Trace} → Run m T → (h : Sight) → Gave h T1 T → (k : Key) (o : Option Bytes) → Run (wrote_map (write_number m h k o) m h k o) (write_e h k o (write_number m h k o) ∷ T)
    do_noroom : {m : Map} {T T1 : Trace} → Run m T → (h : Sight) → Gave h T1 T → (k : Key) (o : Option Bytes) (n : ℕ) → write_number m h k o ≡ 0 → Run m (write_e h k o (suc n) ∷ T)
    do_commit : {m : Map} {T T1 : Trace} → Run m T → (h : Sight) → Gave h T1 T → usable m h ≡ true → Run (cond h.ro m (commit_map h.ver m)) (commit_e h ∷ T)
    do_rollback : {m : Map} {T T1 : Trace} → Run m T → (h : Sight) → Gave h T1 T → usable m h ≡ true → Run (cond h.ro m (rollback_map h.ver m)) (rollback_e h ∷ T)
    -- the unversioned set
    do_plain : {m : Map} {T : Trace} → Run m T → (k : Key) (b : Bytes) → Run (put cmp (plain_rec k b) m) (other_e ∷ T)
    do_other : {m : Map} {T : Trace} → Run m T → Run m (other_e ∷ T)
