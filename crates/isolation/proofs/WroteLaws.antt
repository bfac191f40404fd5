-- A write keeps the store's records: its number is that of the write on records, as far as there is room, and where it answers 0 the
-- records are those that the write makes. Assumes nothing.
use Prim.Native.Nat.{ℕ, suc, ◌+◌, ◌<◌, ◌≤◌}
use mathlib.Core.Path.{◌≡◌, refl, sym, ap, ◌∙◌, subst}
use mathlib.Core.Bool.{Bool, true, false, not, ◌||◌}
use mathlib.Core.List.{List, ◌∷◌}
use native.Mathlib.Decide.{dec_le}
use native.Mathlib.Omega.{arith}
use lib.Dec.{leb, ltb}
use lib.ListN.{length}
use borrow.Author.Tests.{leb-true, le-leb, lt-leb, lt-ltb, le-ltb}
use Rattle.std.specs.Prelude.{Result, Ok, Err, ⊤, Option, None, Some}
use Rattle.keycode.specs.Tests.{pick, if_done}
use Rattle.keycode.specs.Buffer.{put}
use Rattle.keycode.specs.Limits.{max_key, max_value}
use Rattle.keycode.specs.Refusals.{number_of}
use Rattle.keycode.specs.declared.refusal.Refusal.{Refusal}
use Rattle.keycode.specs.declared.refusal.Refusal.TheVariants.{Absent, ReadOnly, NotOpen, KeyTooLong, ValueTooLong, Conflict, LogFull, TableFull, TooManyOpen, NoSuchVersion, VersionsSpent, BadStore, BadRequest}
use Rattle.keycode.proofs.Basics.{nope}
use Rattle.keycode.specs.key.Keys.{txn_active}
use Rattle.bitcask.specs.declared.request.Used.{Used}
use Rattle.bitcask.specs.recovery.Map.{Pair, pairs_of, live_in}
use Rattle.bitcask.specs.recovery.Recover.{map_of}
use Rattle.bitcask.specs.recovery.Agree.{fit, Agrees}
use Rattle.bitcask.specs.recovery.Promises.{changed_number}
use Rattle.bitcask.specs.change.Append.{size_all, bytes_all, after_all, append_answer}
use Rattle.mvcc.specs.declared.handle.Handle.{Handle}
use Rattle.mvcc.specs.handle.Handles.{sound_handle}
use Rattle.mvcc.specs.payload.Payloads.{value_bytes}
use Rattle.mvcc.specs.request.Checks.{active_key, open_by, or_else}
use Rattle.mvcc.specs.append.Lays.{sizes_by}
use Rattle.mvcc.specs.write.Writes.{allow_by, plan}
use Rattle.mvcc.specs.conflict.Conflicts.{search_by, searched}
use Rattle.mvcc.specs.write.Promises.{Writes, write_answer}
use Rattle.mvcc.proofs.write.MapLaws.{writes_grow}
use Rattle.isolation.specs.history.History.{Key, Bytes, Sight}
use Rattle.isolation.specs.history.Store.{is_some}
use Rattle.isolation.specs.history.Records.{Map, look, Sorted}
use Rattle.isolation.specs.history.Calls.{conflict, write_map}
use Rattle.isolation.specs.history.Run.{write_e, too_long, write_number, do_write, do_noroom}
use Rattle.isolation.specs.history.Run as H
use Rattle.isolation.proofs.history.RunLaws.{run-sorted}
use Rattle.isolation.specs.records.Stored.{key_order, sight_of}
use Rattle.isolation.proofs.records.OrderLaws.{order}
use Rattle.isolation.proofs.records.PlanLaws.{write_pairs}
use Rattle.isolation.proofs.records.FineLaws.{fine_write}
use Rattle.isolation.proofs.records.SearchLaws.{search_pairs}
use Rattle.mvcc.specs.world.World.{World, Call, Calls}
use Rattle.mvcc.specs.world.Steps.{changed_to}
use Rattle.mvcc.specs.world.Runs.{Given}
use Rattle.isolation.specs.Meaning.{entry_of, trace_of}
use Rattle.isolation.specs.Views.{size_in}
use Rattle.isolation.proofs.GivenLaws.{given_trace}
use Rattle.isolation.proofs.OpenLaws.{open_usable}
use Rattle.isolation.proofs.KeptLaws.{Sound, Kept, Ready, agrees_at, refused_same}

-- ---- the number

-- what the tests before the room say: all are passed, and the rest decides; or the number is the first test's that is not
pub data Judged (short : Bool) (n : ℕ) (x r : Result Used Refusal) : Type 0 where
  passed : n ≡ 0 → short ≡ true → r ≡ x → Judged short n x r
  stopped : (j : ℕ) → n ≡ suc j → changed_number r ≡ suc j → Judged short n x r

judged : (ro live short small clash : Bool) (x r : Result Used Refusal) → r ≡ or_else (pick ro (Err ReadOnly) (pick live (sizes_by short small) (Err NotOpen))) (or_else (pick clash (Err Conflict) (Ok tt)) x)
    → Judged short (H.pick ro 2 (H.pick (not live) 3 (H.pick (not short) 4 (H.pick (not small) 5 (H.pick clash 6 0))))) x r
unfolding sizes_by
judged true live short small clash x r e = stopped 1 refl (ap changed_number e)
judged false false short small clash x r e = stopped 2 refl (ap changed_number e)
judged false true false small clash x r e = stopped 3 refl (ap changed_number e)
judged false true true false clash x r e = stopped 4 refl (ap changed_number e)
judged false true true true true x r e = stopped 5 refl (ap changed_number e)
judged false true true true false x r e = passed refl refl e

not_short : (n : ℕ) → ltb 64 n ≡ not (leb n max_key)
not_short n = go (dec_le n 64)
  where
    go : Dec (n ≤ 64) → ltb 64 n ≡ not (leb n max_key)
    go (yes h) = rw (le-ltb 64 n h, le-leb n max_key h)
    go (no h) = let l : 64 < n = omega arith in rw (lt-ltb 64 n l, lt-leb n max_key l)

not_small : (o : Option Bytes) → too_long o ≡ not (leb (size_in o) max_value)
not_small None = refl
not_small (Some v) = go (dec_le (length v) 4096)
  where
    go : Dec (length v ≤ 4096) → ltb 4096 (length v) ≡ not (leb (length v) max_value)
    go (yes h) = rw (le-ltb 4096 (length v) h, le-leb (length v) max_value h)
    go (no h) = let l : 4096 < length v = omega arith in rw (lt-ltb 4096 (length v) l, lt-leb (length v) max_value l)

number-suc : (y : Refusal) → (n : ℕ) × (number_of y ≡ suc n)
number-suc Absent = (0, refl)
number-suc ReadOnly = (1, refl)
number-suc NotOpen = (2, refl)
number-suc KeyTooLong = (3, refl)
number-suc ValueTooLong = (4, refl)
number-suc Conflict = (5, refl)
number-suc LogFull = (6, refl)
number-suc TableFull = (7, refl)
number-suc TooManyOpen = (8, refl)
number-suc NoSuchVersion = (9, refl)
number-suc VersionsSpent = (10, refl)
number-suc BadStore = (11, refl)
number-suc BadRequest = (12, refl)

number_is : (m : Map) (h : Sight) (k : Key) (o : Option Bytes)
    → write_number m h k o
    ≡ H.pick h.ro 2 (H.pick (not (is_some (look m (txn_active h.ver)))) 3 (H.pick (not (leb (length k) max_key)) 4 (H.pick (not (leb (size_in o) max_value)) 5 (H.pick (conflict m h k) 6 0))))
unfolding write_number
number_is m h k o = rw (not_short (length k), not_small o)

by_answer : (f g ro o short small : Bool) (c : Result ⊤ Refusal) (x r : Result Used Refusal) → f ≡ true → g ≡ true → r ≡ or_else (allow_by f g ro o short small) (or_else c x)
    → r ≡ or_else (pick ro (Err ReadOnly) (pick o (sizes_by short small) (Err NotOpen))) (or_else c x)
unfolding allow_by
by_answer f g ro o short small c x r p q e = e ∙ rw (p, q)

-- the rest of the tests does not count for a read-only handle
read_only_stops : (ro o o' short small : Bool) (c c' : Result ⊤ Refusal) (x r : Result Used Refusal) → ro ≡ true → r ≡ or_else (pick ro (Err ReadOnly) (pick o (sizes_by short small) (Err NotOpen))) (or_else c x)
    → r ≡ or_else (pick ro (Err ReadOnly) (pick o' (sizes_by short small) (Err NotOpen))) (or_else c' x)
read_only_stops ro o o' short small c c' x r p e = e ∙ rw p

module _ {w : World} {T : Calls} {m : Map} (k : Kept w T m) (a : Ready w) {h : Handle} (s : Sound h) {key : List ℕ} (o : Option Bytes) {r : Result Used Refusal} {log t : List ℕ}
    (b : Writes w.log w.used w.table h key (value_bytes o) (size_in o) r log t) where
  sorted : Sorted key_order m
  sorted = run-sorted order k.run

  abbrev short : Bool
  short = leb (length key) max_key

  abbrev small : Bool
  small = leb (size_in o) max_value

  abbrev rest : Result Used Refusal
  rest = append_answer w.log w.used (length w.table) (plan h.version key (value_bytes o))

  abbrev search : Result ⊤ Refusal
  search = search_by h (pairs_of (searched h key) (map_of w.log w.used))

  abbrev opens : Bool
  opens = open_by h (live_in (active_key h) (map_of w.log w.used))

  abbrev live : Bool
  live = is_some (look m (txn_active h.version))

  answered : r ≡ or_else (pick h.read_only (Err ReadOnly) (pick opens (sizes_by short small) (Err NotOpen))) (or_else search rest)
  unfolding write_answer
  answered = by_answer (fit (length w.log) w.used (length w.table)) (sound_handle h) h.read_only opens short small search rest r a.sound s.sound (b.answer a)

  answered_so : r ≡ or_else (pick h.read_only (Err ReadOnly) (pick live (sizes_by short small) (Err NotOpen))) (or_else (pick (conflict m (sight_of h) key) (Err Conflict) (Ok tt)) rest)
  answered_so = go h.read_only refl
    where
      go : (i : Bool) → h.read_only ≡ i
          → r ≡ or_else (pick h.read_only (Err ReadOnly) (pick live (sizes_by short small) (Err NotOpen))) (or_else (pick (conflict m (sight_of h) key) (Err Conflict) (Ok tt)) rest)
      go true e = read_only_stops h.read_only opens live short small search (pick (conflict m (sight_of h) key) (Err Conflict) (Ok tt)) rest r e answered
      go false e =
          let v = s.own e in
          let p : opens ≡ live = open_usable k s ∙ ap (λ (b : Bool). b || live) e in
          let q : search ≡ pick (conflict m (sight_of h) key) (Err Conflict) (Ok tt) = ap (λ (x : List Pair). search_by h (pairs_of (searched h key) x)) k.map ∙ search_pairs h e v.1 s.set key k.fine in
          answered ∙ (λ j. or_else (pick h.read_only (Err ReadOnly) (pick (p j) (sizes_by short small) (Err NotOpen))) (or_else (q j) rest))

  pub write_judged : Judged short (write_number m (sight_of h) key o) rest r
  write_judged =
      subst (λ (n : ℕ). Judged short n rest r) (sym (number_is m (sight_of h) key o))
      (judged h.read_only live short small (conflict m (sight_of h) key) rest r answered_so)

  -- ---- the records then

  module _ {c : Call} (entry : entry_of c ≡ write_e (sight_of h) key o (changed_number r)) (past : (x : Handle) → Given x (c ∷ T) → Given x T) (given : Given h T) where
    write_run : (n : ℕ) → write_number m (sight_of h) key o ≡ n → H.Run key_order (H.wrote_map key_order n m (sight_of h) key o) (write_e (sight_of h) key o n ∷ trace_of T)
    write_run n e =
        subst (λ (x : ℕ). H.Run key_order (H.wrote_map key_order x m (sight_of h) key o) (write_e (sight_of h) key o x ∷ trace_of T)) e
        (do_write k.run (sight_of h) (given_trace given).1 key o)

    at-number : {x : Map} (n : ℕ) → changed_number r ≡ n → H.Run key_order x (write_e (sight_of h) key o n ∷ trace_of T) → H.Run key_order x (entry_of c ∷ trace_of T)
    at-number n e q = rw (entry, e) q

    made_done : (u : Used) → r ≡ Ok u → Kept (record { log = log; used = u.len; table = t }) (c ∷ T) (write_map key_order h.version key o m) × Agrees log u.len t
    unfolding trace_of
    made_done u e = go write_judged
      where
        z : changed_number r ≡ 0
        z = ap changed_number e

        q : u.len ≡ w.used + size_all (plan h.version key (value_bytes o))
        q = (b.leaves.ends u e).0

        go : Judged short (write_number m (sight_of h) key o) rest r → Kept (record { log = log; used = u.len; table = t }) (c ∷ T) (write_map key_order h.version key o m) × Agrees log u.len t
        go (passed n f x) = (
          record {
            map = ap (map_of log) q ∙ (writes_grow a b z).map ∙ ap (after_all (plan h.version key (value_bytes o))) k.map ∙ write_pairs h.version key o m;
            fine = fine_write h.version key o s.fits (leb-true (length key) max_key f) k.fine;
            run = at-number 0 z (write_run 0 n);
            handles = λ x g. k.handles x (past x g);
          },
          subst (λ (n : ℕ). Agrees log n t) (sym q) (b.leaves.again a z),
        )
        go (stopped j n x) = nope (cc (z, x))

    made_refused : (y : Refusal) → r ≡ Err y → Kept (record { log = log; used = w.used; table = t }) (c ∷ T) m × Agrees log w.used t
    unfolding trace_of
    made_refused y e = (
      record {
        map = ap (λ (l : List ℕ). map_of l w.used) same_log ∙ k.map;
        fine = k.fine;
        run = go write_judged;
        handles = λ x g. k.handles x (past x g);
      },
      agrees_at same_log same-table a,
    )
      where
        n : changed_number r ≡ number_of y
        n = ap changed_number e

        same_log : log ≡ w.log
        same_log = refused_same y _ _ (b.leaves.bytes ∙ ap (λ (i : ℕ). if_done i (put w.log w.used (bytes_all (plan h.version key (value_bytes o)))) w.log) n)

        same-table : t ≡ w.table
        same-table = refused_same y _ _ (b.leaves.words ∙ ap (λ (i : ℕ). if_done i t w.table) n)

        go : Judged short (write_number m (sight_of h) key o) rest r → H.Run key_order m (entry_of c ∷ trace_of T)
        go (passed p f x) = let i = number-suc y in at-number (suc i.0) (n ∙ i.1) (do_noroom k.run (sight_of h) (given_trace given).1 key o i.0 p)
        go (stopped j p x) = at-number (suc j) x (write_run (suc j) p)

    pub made_write : (m' : Map) × (Kept (changed_to w r log t) (c ∷ T) m' × Ready (changed_to w r log t))
    made_write = by r refl
      where
        by : (x : Result Used Refusal) → r ≡ x → (m' : Map) × (Kept (changed_to w x log t) (c ∷ T) m' × Ready (changed_to w x log t))
        by (Ok u) e = (write_map key_order h.version key o m, made_done u e)
        by (Err y) e = (m, made_refused y e)
