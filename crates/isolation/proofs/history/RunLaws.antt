-- The theorem on records: whatever is done with a store of records, its answers are what the history calls for. Assumes nothing.
use Prim.Native.Nat.{ℕ, zero, suc, ◌≤◌, ◌<◌}
use native.Mathlib.Omega.{arith}
use mathlib.Core.Path.{◌≡◌, refl, sym, ◌∙◌, ap}
use mathlib.Core.Bool.{Bool, true, false}
use mathlib.Core.Logic.{◌≢◌, inr}
use Rattle.std.specs.Prelude.{Option, None, Some}
use mathlib.Core.List.{List, [], ◌∷◌}
use Rattle.isolation.specs.history.History.{is_open, Key, Bytes}
use Rattle.mvcc.specs.world.Runs.{After, now, later}
use Rattle.isolation.specs.history.History.{Sight, began, noted, History, unborn, opened, status, last_write, past, laid, over, is_in, Clash, keep, below, up_to, lowest}
use mathlib.Core.Bool.{not, ◌&&◌}
use lib.Dec.{leb, ltb}
use borrow.Author.Tests.{not-false, le-ltb, le-leb}
use Rattle.isolation.proofs.history.FactLaws.{nope, outside, good-after, born, within, start}
use Rattle.isolation.proofs.history.ViewLaws.{Given, given, past_is, low_of, reach_of, top_congr, top_unique, reader_top, writer_top, keep-none}
use Rattle.isolation.specs.history.Store.{is_some}
use Prim.Native.Nat.{Ordering}
use mathlib.Core.Bool.{cond}
use lib.ListN.{length}
use Rattle.isolation.specs.history.Store.{is_some}
use Rattle.keycode.specs.key.Keys.{Fields, next_version, txn_active, txn_active_snapshot}
use Rattle.isolation.specs.history.Records.{Rec, plain_rec, Map, look, Sorted, sorted_nil, Order}
use Rattle.isolation.specs.history.Calls.{next_of, set_of, view, actives, begin_handle, write_map, commit_map, rollback_map, shown, conflict, visible, versions_of, last_of, last_version, searched}
use Rattle.isolation.specs.history.Run.{Entry, begin_e, read_e, as_of_e, write_e, commit_e, rollback_e, other_e, Trace, event, events, Gave, by_begin, by_read, by_as_of, usable, pick, too_long, write_number, wrote_map, Run, run-empty, do_begin, do_read, do_as_of, do_write, do_noroom, do_commit, do_rollback, do_plain, do_other}
use Rattle.isolation.proofs.history.Standing.{begins, Good, good_nil, good_cons, g_wrote, g_committed, g_undone, g_noted, stored, Top, nowhere, from, Peak, Rep}
use Rattle.isolation.proofs.history.ConflictLaws.{met, meant, peak_congr}
use Rattle.isolation.proofs.history.KeepLaws.{keeps-empty, open_of, begin_guard, keeps_begin, keeps_write, keeps_commit, keeps_undo, keeps-noted, keeps_unseen}
use Rattle.isolation.proofs.history.EffectLaws.{empty, plain_unseen, begins-map, writes, commits, undoes, sorted_begin, sorted_write}
use Rattle.isolation.proofs.history.MapLaws.{sorted-del_all, sorted-put}
use Rattle.isolation.proofs.history.ScanLaws.{last-is, last_top, last_peak, number_of, hides-hidden}

pub after-events : {T1 T : Trace} → After T1 T → After (events T1) (events T)
unfolding events
after-events now = now
after-events (later a) = later (after-events a)

-- what is known of a handle from the call that gave it
abbrev Ok : Trace → Entry → Type 0
Ok T (begin_e h) = h.ro ≡ false
Ok T (read_e h) = (h.ro ≡ true) × Given (events T) h.ver h.set
Ok T (as_of_e v h) = (h.ro ≡ true) × (h.ver ≡ v) × (v ≢ 0 → (status (events T) v ≢ unborn) × Given (past (events T) v) v h.set)
Ok T (write_e h k o n) = Unit {0}
Ok T (commit_e h) = Unit {0}
Ok T (rollback_e h) = Unit {0}
Ok T other_e = Unit {0}

data AllOk : Trace → Type 0 where
  ok_nil : AllOk []
  ok_cons : {e : Entry} {T : Trace} → Ok T e → AllOk T → AllOk (e ∷ T)

ok_of : {e : Entry} {T1 T : Trace} → AllOk T → After (e ∷ T1) T → Ok T1 e
ok_of {e = e} {T1 = T1} ok_nil x3 = elim x3 [ ]
ok_of (ok_cons q a) now = q
ok_of (ok_cons q a) (later b) = ok_of a b

record State (cmp : Fields → Fields → Ordering) (m : Map) (T : Trace) : Type 0 where
  good : Good (events T)
  rep : Rep (view m) (events T)
  sorted : Sorted cmp m
  ok : AllOk T
  bound : begins (events T) < last_version

-- a number 0 tells that every test passed
record Passed (m : Map) (h : Sight) (k : Key) : Type 0 where
  rw_handle : h.ro ≡ false
  is_active : is_some (look m (txn_active h.ver)) ≡ true
  free : conflict m h k ≡ false

pick-zero : (b : Bool) (a c : ℕ) → pick b (suc a) c ≡ 0 → (b ≡ false) × (c ≡ 0)
pick-zero true a c e = absurd (omega arith)
pick-zero false a c e = (refl, e)

passed : (m : Map) (h : Sight) (k : Key) (o : Option Bytes) → write_number m h k o ≡ 0 → Passed m h k
unfolding write_number
passed m h k o e =
    let a = pick-zero h.ro 1 _ e in
    let b = pick-zero (not (is_some (look m (txn_active h.ver)))) 2 _ a.1 in
    let c = pick-zero (ltb 64 (length k)) 3 _ b.1 in
    let d = pick-zero (too_long o) 4 _ c.1 in
    let f = pick-zero (conflict m h k) 5 0 d.1 in
    record { rw_handle = a.0; is_active = not-false _ b.0; free = f.0 }

module _ {cmp : Fields → Fields → Ordering} (L : Order cmp) where
  -- a given read-write handle that is open: the write's search says just what the history says
  search_right : {m : Map} {T T1 : Trace} → State cmp m T → (h : Sight) → After (begin_e h ∷ T1) T → (k : Key) → (conflict m h k ≡ true → Clash (events T) h.ver k) × (Clash (events T) h.ver k → conflict m h k ≡ true)
  unfolding conflict events
  search_right {m} {T} {T1} S h a k = ((λ c. meant g t Z k own w lo reach low (number_of r) peak ((hides-hidden h r).0 c)), (λ c. (hides-hidden h r).1 (met g t Z k own w lo reach low c (number_of r) peak)))
    where
      g : Good (events T)
      g = S.good

      t : ℕ
      t = h.ver

      Z : List ℕ
      Z = h.set

      at : After (began h ∷ events T1) (events T)
      at = after-events a

      own : status (events T) h.ver ≢ unborn
      own = (past_is at g).0

      w : Given (past (events T) h.ver) h.ver h.set
      w = given at g

      lo : ℕ
      lo = lowest h.set h.ver

      low : (x : ℕ) → is_in x h.set ≡ true → lowest h.set h.ver ≤ x
      low = low_of at g

      reach : lowest h.set h.ver ≤ suc h.ver
      reach = reach_of (good-after (start g h.ver own).after g) w

      r : Option Rec
      r = last_of (versions_of (searched h) k m)

      peak : Peak (from (lowest h.set h.ver) (stored (events T) k)) (number_of (last_of (versions_of (searched h) k m)))
      peak = peak_congr (λ x. same x (stored (events T) k x) refl) (last_peak (searched h) k m _ (last-is L (searched h) k S.sorted))
        where
          and_true : (b : Bool) → b && true ≡ b
          and_true true = refl
          and_true false = refl

          inside : (x : ℕ) → stored (events T) k x ≢ None → x ≤ last_version
          inside x n = omega (arith, within g x (λ u. n (rw u)), S.bound)

          same : (x : ℕ) (z : Option (Option Bytes)) → stored (events T) k x ≡ z → keep (leb (lowest h.set h.ver) x) (stored (events T) k x) ≡ keep (searched h x) ((view m).vers k x)
          same x None e = ap (keep (leb (lowest h.set h.ver) x)) e ∙ keep-none (leb (lowest h.set h.ver) x) ∙ sym (ap (keep (searched h x)) (S.rep.vers k x ∙ e) ∙ keep-none (searched h x))
          same x (Some o) e = sym (ap (keep (searched h x)) (S.rep.vers k x) ∙ ap (λ b. keep b (stored (events T) k x)) (ap (λ b. leb (lowest h.set h.ver) x && b) (le-leb x last_version (inside x (λ i. nope (cc)))) ∙ and_true (leb (lowest h.set h.ver) x)))

  state_noted : {m : Map} {T : Trace} {e : Entry} → State cmp m T → Ok T e → event e ≡ noted → State cmp m (e ∷ T)
  unfolding events begins
  state_noted {m} {T} {e} S q i = record {
    good = rw i (good_cons S.good g_noted);
    rep = rw i (keeps-noted S.rep);
    sorted = S.sorted;
    ok = ok_cons q S.ok;
    bound = rw i S.bound;
  }

  usable_open : (m : Map) (h : Sight) → h.ro ≡ false → usable m h ≡ true → is_some (look m (txn_active h.ver)) ≡ true
  usable_open m h e u = rw e at u

  state_write : {m : Map} {T T1 : Trace} → State cmp m T → (h : Sight) → Gave h T1 T → (k : Key) (o : Option Bytes) (n : ℕ) → write_number m h k o ≡ n → State cmp (wrote_map cmp n m h k o) (write_e h k o n ∷ T)
  unfolding events begins
  state_write {m} {T} {T1} S h G k o (suc n) e = state_noted S tt refl
  state_write {m} {T} {T1} S h G k o zero e = go G
    where
      p : Passed m h k
      p = passed m h k o e

      is : status (events T) h.ver ≡ opened
      is = open_of S.rep h.ver p.is_active

      go : Gave h T1 T → State cmp (write_map cmp h.ver k o m) (write_e h k o zero ∷ T)
      go (by_begin a) = record {
        good = good_cons S.good (g_wrote is (λ (c : Clash (events T) h.ver k). nope (cc (p.free, (search_right S h a k).1 c))));
        rep = keeps_write S.good S.rep is (writes L m h.ver k o);
        sorted = sorted_write L m h.ver k o S.sorted;
        ok = ok_cons tt S.ok;
        bound = S.bound;
      }
      go (by_read a) = nope (cc (p.rw_handle, (ok_of S.ok a).0))
      go (by_as_of v a) = nope (cc (p.rw_handle, (ok_of S.ok a).0))

  state_commit : {m : Map} {T : Trace} → State cmp m T → (h : Sight) (b : Bool) → h.ro ≡ b → usable m h ≡ true → State cmp (cond b m (commit_map h.ver m)) (commit_e h ∷ T)
  unfolding events begins commit_map
  state_commit {m} {T} S h true e u = state_noted S tt (rw e)
  state_commit {m} {T} S h false e u = record {
    good = rw e (good_cons S.good (g_committed is));
    rep = rw e (keeps_commit S.good S.rep is (commits m h.ver));
    sorted = sorted-del_all L _ S.sorted;
    ok = ok_cons tt S.ok;
    bound = rw e S.bound;
  }
    where
      is : status (events T) h.ver ≡ opened
      is = open_of S.rep h.ver (usable_open m h e u)

  state_rollback : {m : Map} {T : Trace} → State cmp m T → (h : Sight) (b : Bool) → h.ro ≡ b → usable m h ≡ true → State cmp (cond b m (rollback_map h.ver m)) (rollback_e h ∷ T)
  unfolding events begins rollback_map
  state_rollback {m} {T} S h true e u = state_noted S tt (rw e)
  state_rollback {m} {T} S h false e u = record {
    good = rw e (good_cons S.good (g_undone is));
    rep = rw e (keeps_undo S.good S.rep is (undoes m h.ver));
    sorted = sorted-del_all L _ S.sorted;
    ok = ok_cons tt S.ok;
    bound = rw e S.bound;
  }
    where
      is : status (events T) h.ver ≡ opened
      is = open_of S.rep h.ver (usable_open m h e u)

  reader-given : {m : Map} {T : Trace} → State cmp m T → Given (events T) (next_of (look m next_version)) (actives m)
  reader-given {m} {T} S = record { number = S.rep.next; set = λ x. (begins-map L m S.sorted).set x ∙ S.rep.act x }

  as_of-given : {m : Map} {T : Trace} → State cmp m T → (v : ℕ) → v < next_of (look m next_version) → v ≢ 0 → (status (events T) v ≢ unborn) × Given (past (events T) v) v (set_of (look m (txn_active_snapshot v)))
  as_of-given {m} {T} S v l n = (b, record { number = sym (start S.good v b).number; set = S.rep.snap v b })
    where
      b : status (events T) v ≢ unborn
      b = born S.good v (omega arith) (omega (arith, S.rep.next))

  run_state : {m : Map} {T : Trace} → Run cmp m T → State cmp m T
  unfolding events begins
  run_state run-empty = record { good = good_nil; rep = keeps-empty empty; sorted = sorted_nil; ok = ok_nil; bound = omega arith }
  run_state (do_begin {m = m} r lt few) = let S = run_state r in
      let b = begins-map L m S.sorted in
      record { good = good_cons S.good (begin_guard S.good S.rep b); rep = keeps_begin S.good S.rep b; sorted = sorted_begin L m S.sorted; ok = ok_cons refl S.ok; bound = omega (arith, S.rep.next) }
  run_state (do_read {m = m} r) = let S = run_state r in state_noted S (refl, reader-given S) refl
  run_state (do_as_of {m = m} r v l) = let S = run_state r in state_noted S (refl, refl, as_of-given S v l) refl
  run_state (do_write {m = m} r h G k o) = state_write (run_state r) h G k o (write_number m h k o) refl
  run_state (do_noroom r h G k o n e) = state_noted (run_state r) tt refl
  run_state (do_commit r h G u) = state_commit (run_state r) h h.ro refl u
  run_state (do_rollback r h G u) = state_rollback (run_state r) h h.ro refl u
  run_state (do_plain {m = m} r k b) = let S = run_state r in
      state_noted (record { good = S.good; rep = keeps_unseen (plain_unseen L m k b) S.rep; sorted = sorted-put L (plain_rec k b) m S.sorted; ok = S.ok; bound = S.bound }) tt refl
  run_state (do_other r) = state_noted (run_state r) tt refl

  -- what the scan of a key's versions shows
  shown_top : {m : Map} {T : Trace} → State cmp m T → (h : Sight) (k : Key) → Top (λ x. keep (visible h x) (stored (events T) k x)) (shown m h k)
  unfolding shown
  shown_top {m} {T} S h k = top_congr (λ x. ap (keep (visible h x)) (sym (S.rep.vers k x))) (last_top (visible h) k m _ (last-is L (visible h) k S.sorted))

  earlier : {A : Type 0} {e : A} {T1 T : List A} → After (e ∷ T1) T → After T1 T
  earlier now = later now
  earlier (later b) = later (earlier b)

  -- THEOREM. A get by a read-write transaction that is open: its own last accepted write, else what was laid down when it began
  pub get_writer : {m : Map} {T T1 : Trace} → Run cmp m T → (h : Sight) → After (begin_e h ∷ T1) T → usable m h ≡ true → (k : Key) → shown m h k ≡ over (last_write (events T) h.ver k) (laid (events T1) k)
  unfolding visible events
  get_writer {m} {T} {T1} r h a u k = top_unique top (writer_top (after-events a) S.good (open_of S.rep h.ver (usable_open m h e u)) k)
    where
      S : State cmp m T
      S = run_state r

      e : h.ro ≡ false
      e = ok_of S.ok a

      top : Top (λ x. keep (up_to h.ver h.set x) (stored (events T) k x)) (shown m h k)
      top = top_congr (λ x. rw e) (shown_top S h k)

  -- THEOREM. A get by a reader: what was laid down when it began
  pub get_reader : {m : Map} {T T1 : Trace} → Run cmp m T → (h : Sight) → After (read_e h ∷ T1) T → (k : Key) → shown m h k ≡ laid (events T1) k
  unfolding visible
  get_reader {m} {T} {T1} r h a k = top_unique top (reader_top w.1 (after-events (earlier a)) S.good k)
    where
      S : State cmp m T
      S = run_state r

      w : Ok T1 (read_e h)
      w = ok_of S.ok a

      top : Top (λ x. keep (below h.ver h.set x) (stored (events T) k x)) (shown m h k)
      top = top_congr (λ x. rw w.0) (shown_top S h k)

  -- THEOREM. As of a version: what was laid down when that version began; of 0 nothing
  pub get_as_of : {m : Map} {T T1 : Trace} → Run cmp m T → (h : Sight) (v : ℕ) → After (as_of_e v h ∷ T1) T → v ≢ 0 → (k : Key) → shown m h k ≡ laid (past (events T1) v) k
  unfolding visible
  get_as_of {m} {T} {T1} r h v a n k = top_unique top (reader_top g.1 (joined (start (good-after (after-events (earlier a)) S.good) v g.0).after (after-events (earlier a))) S.good k)
    where
      S : State cmp m T
      S = run_state r

      w : Ok T1 (as_of_e v h)
      w = ok_of S.ok a

      g : (status (events T1) v ≢ unborn) × Given (past (events T1) v) v h.set
      g = w.2 n

      joined : {A B C : History} → After A B → After B C → After A C
      joined p now = p
      joined p (later q) = later (joined p q)

      top : Top (λ x. keep (below v h.set x) (stored (events T) k x)) (shown m h k)
      top = top_congr (λ x. rw (w.0, w.1)) (shown_top S h k)

  pub get_as_of_0 : {m : Map} {T T1 : Trace} → Run cmp m T → (h : Sight) → After (as_of_e 0 h ∷ T1) T → (k : Key) → shown m h k ≡ None
  unfolding visible
  get_as_of_0 {m} {T} {T1} r h a k = top_unique (shown_top S h k) (nowhere (λ x. rw (w.0, w.1, le-ltb x 0 (omega arith)) (none_of (is_in x h.set) _)) refl)
    where
      S : State cmp m T
      S = run_state r

      w : Ok T1 (as_of_e 0 h)
      w = ok_of S.ok a

      none_of : (b : Bool) (z : Option (Option Bytes)) → keep (not b && false) z ≡ None
      none_of true z = refl
      none_of false z = refl

  -- a handle that a begin gave is a read-write one
  pub begin_own : {m : Map} {T T1 : Trace} → Run cmp m T → (h : Sight) → After (begin_e h ∷ T1) T → h.ro ≡ false
  begin_own r h a = ok_of (run_state r).ok a

  -- THEOREM. A write's search finds a conflict exactly where the history has a clash
  pub conflict_right : {m : Map} {T T1 : Trace} → Run cmp m T → (h : Sight) → After (begin_e h ∷ T1) T → (k : Key)
      → (conflict m h k ≡ true → Clash (events T) h.ver k) × (Clash (events T) h.ver k → conflict m h k ≡ true)
  conflict_right r h a k = search_right (run_state r) h a k

  -- and nothing else stops a write of a transaction that is open, its key and value within the limits
  pub write_open : {m : Map} {T T1 : Trace} → Run cmp m T → (h : Sight) → After (begin_e h ∷ T1) T → usable m h ≡ true → (k : Key) (o : Option Bytes) → length k ≤ 64 → too_long o ≡ false
      → write_number m h k o ≡ pick (conflict m h k) 6 0
  unfolding write_number
  write_open {m} r h a u k o l v = let e = begin_own r h a in rw (e, usable_open m h e u, le-ltb 64 (length k) l, v)

  -- the versions that an as-of may name: 0, and those that began
  pub run-born : {m : Map} {T : Trace} → Run cmp m T → (v : ℕ) → v < next_of (look m next_version) → v ≢ 0 → status (events T) v ≢ unborn
  run-born r v l n = let S = run_state r in born S.good v (positive v n) (omega (arith, S.rep.next))
    where
      positive : (v : ℕ) → v ≢ 0 → 0 < v
      positive zero n = absurd (n refl)
      positive (suc v) n = omega arith

  pub run_unborn : {m : Map} {T : Trace} → Run cmp m T → (v : ℕ) → next_of (look m next_version) ≤ v → status (events T) v ≡ unborn
  run_unborn r v l = let S = run_state r in outside S.good v (inr (omega (arith, S.rep.next)))

  -- THEOREM. No version is given twice
  pub begin_new : {m : Map} {T : Trace} → Run cmp m T → (h : Sight) (T1 : Trace) → After (begin_e h ∷ T1) T → (begin_handle m).ver ≢ h.ver
  unfolding events
  begin_new {m} {T} r h T1 a e = (past_is (after-events a) (run_state r).good).0 (outside (run_state r).good h.ver (inr (omega (arith, (run_state r).rep.next))))

  -- the store says that a version is open just where the history says so
  pub run_open : {m : Map} {T : Trace} → Run cmp m T → (v : ℕ) → is_some (look m (txn_active v)) ≡ is_open (status (events T) v)
  run_open r v = (run_state r).rep.act v

  pub run-sorted : {m : Map} {T : Trace} → Run cmp m T → Sorted cmp m
  run-sorted r = (run_state r).sorted
