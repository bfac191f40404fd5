-- A begin that finds room in log and table is admitted by its contract; what it lays down is so many bytes, and opens one version more.
-- Assumes nothing.
use Rattle.keycode.specs.declared.refusal.Refusal.{Refusal}
use Rattle.bitcask.specs.declared.request.Used.{Used}
use Prim.Native.Nat.{ℕ, suc, ◌+◌, ◌*◌, ◌-◌, ◌/◌, ◌^◌, ◌≤◌, ◌<◌, Ordering}
use mathlib.Core.Path.{◌≡◌, refl, sym, ap, ◌∙◌, subst}
use mathlib.Core.Bool.{false}
use mathlib.Core.Logic.{◌≢◌}
use mathlib.Core.List.{List, [], ◌∷◌}
use native.Mathlib.Omega.{arith}
use lib.ListN.{length}
use borrow.Author.Tests.{le-leb, lt-leb, ne_eqb}
use Rattle.std.specs.Prelude.{Ok, Option, None, Some, Result}
use Rattle.keycode.specs.Limits.{max_open}
use Rattle.keycode.specs.Buffer.{put}
use Rattle.keycode.proofs.NumberLaws.{length-be}
use Rattle.keycode.specs.key.Keys.{Fields, next_version, txn_active, txn_active_snapshot, txn_write, version, unversioned}
use Rattle.keycode.proofs.Basics.{nope}
use Rattle.bitcask.specs.entry.Entry.{Entry}
use Rattle.bitcask.specs.keydir.Slots.{slot_words}
use Rattle.bitcask.specs.keydir.Place.{count_of}
use Rattle.bitcask.specs.recovery.Recover.{map_of}
use Rattle.bitcask.specs.recovery.Agree.{Agrees}
use Rattle.bitcask.specs.change.Append.{State, size_all, bytes_all, after_all, append_answer}
use Rattle.mvcc.specs.handle.Handles.{handle_of}
use Rattle.mvcc.specs.payload.Payloads.{set_bytes}
use Rattle.mvcc.proofs.payload.PayloadLaws.{set_long}
use Rattle.mvcc.specs.request.Given.{begun_with}
use Rattle.mvcc.specs.request.Lists.{appended_all}
use Rattle.mvcc.proofs.request.ListLaws.{Appends}
use Rattle.mvcc.proofs.request.FitLaws.{sets-append}
use Rattle.mvcc.specs.snapshot.Active.{next_at, active_at}
use Rattle.mvcc.specs.start.Plan.{plan_of, plan_by, snapshot_by, begin_plan}
use Rattle.mvcc.specs.start.Begins.{begin_by, begin_with}
use Rattle.mvcc.specs.start.Promises.{Begins}
use Rattle.mvcc.proofs.start.StartLaws.{plan-sets}
use Rattle.mvcc.specs.world.World.{World, Calls}
use Rattle.isolation.specs.history.History.{is_open}
use Rattle.isolation.specs.history.Store.{is_some}
use Rattle.isolation.specs.history.Records.{Rec, next_rec, active_rec, snap_rec, wrote_rec, ver_rec, plain_rec, key_of, Map, look, place, Sorted}
use Rattle.isolation.specs.history.Records as Records
use Rattle.isolation.specs.history.Calls.{next_of, actives, put_snap, begin_map}
use Rattle.isolation.specs.records.Stored.{key_order, pairs_in}
use Rattle.isolation.proofs.history.FewLaws.{one, many, many_cons}
use Rattle.isolation.proofs.history.MapLaws.{look-here, look-past, look_put_other}
use Rattle.isolation.proofs.history.RunLaws.{run-sorted, run_open, run_unborn}
use Rattle.isolation.proofs.records.OrderLaws.{order}
use Rattle.isolation.proofs.records.ReadLaws.{next-pairs}
use Rattle.isolation.proofs.records.ActiveLaws.{active_pairs}
use Rattle.isolation.proofs.KeptLaws.{Kept, Ready}
use Rattle.isolation.proofs.BeganLaws.{plan_made}

-- ---- a begin that finds room is admitted

module _ {w : World} {T : Calls} {m : Map} (k : Kept w T m) (a : Ready w) where
  sorted : Sorted key_order m
  sorted = run-sorted order k.run

  abbrev pub next : ℕ
  next = next_of (look m next_version)

  abbrev pub laid_by : List Entry
  laid_by = begin_plan (next_of (look m next_version)) (actives m)

  pub read : begin_by w.log w.used (length w.table) (next_at (map_of w.log w.used)) (active_at (map_of w.log w.used))
      ≡ begin_with w.log w.used (length w.table) next (Some (actives m))
  read = rw (k.map, next-pairs sorted k.fine, active_pairs k.fine)

  module _ (fresh : next ≢ 2 ^ 64 - 1) (few : length (actives m) < max_open) (room : w.used + size_all laid_by ≤ length w.log)
      (slots : length (after_all laid_by (map_of w.log w.used)) ≤ length w.table / slot_words) where
    abbrev pub left : State
    left = appended_all (record { log = w.log; used = w.used; table = w.table; count = count_of w.table }) laid_by

    pub appends : Appends w.log w.used w.table laid_by left
    appends = sets-append w.log w.used w.table laid_by a (count_of w.table) refl room (plan-sets (length (actives m)) next (set_bytes (actives m))) slots

    is_done_lem : begin_with w.log w.used (length w.table) next (Some (actives m)) ≡ begun_with (w.used + size_all laid_by) (handle_of next false (actives m))
    unfolding append_answer
    is_done_lem =
        rw (
          ne_eqb next (2 ^ 64 - 1) fresh,
          lt-leb max_open (length (actives m)) few,
          le-leb (w.used + size_all laid_by) (length w.log) room,
          le-leb (length (after_all laid_by (map_of w.log w.used))) (length w.table / slot_words) slots,
        )

    same : plan_of (handle_of next false (actives m)) ≡ laid_by
    same = plan_made next (actives m) (omega arith)

    ends_at : w.used + size_all laid_by ≡ w.used + size_all (plan_of (handle_of next false (actives m)))
    ends_at = ap (λ (es : List Entry). w.used + size_all es) (sym same)

    len_of : {n : ℕ} {u : Used} → ◌≡◌ {A = Result Used Refusal} (Ok (record { len = n })) (Ok u) → u.len ≡ n
    len_of {n} {u} e = let z : ◌≡◌ {A = Used} (record { len = n }) u = cc in sym (ap (λ (y : Used). y.len) z)

    pub begin_admitted : Begins w.log w.used w.table (begun_with (w.used + size_all laid_by) (handle_of next false (actives m))) left.log left.table
    begin_admitted =
        record {
          bytes = appends.bytes ∙ ap (λ (es : List Entry). put w.log w.used (bytes_all es)) (sym same);
          words = refl;
          long = appends.words;
          ends = λ u e. (len_of e ∙ ends_at, subst (λ (es : List Entry). w.used + size_all es ≤ length w.log) (sym same) room);
          blank = refl;
          bad = rw a.sound;
          answer = λ g. sym (read ∙ is_done_lem);
          again = λ g z. subst (λ (n : ℕ). Agrees left.log n left.table) (appends.ends ∙ ends_at) appends.again;
          map = λ g z. ap (map_of left.log) (sym (appends.ends ∙ ends_at)) ∙ appends.map ∙ ap (λ (es : List Entry). after_all es (map_of w.log w.used)) (sym same);
        }

-- ---- sizes

pub plan_size : (v : ℕ) (vs : List ℕ) → size_all (begin_plan v vs) ≤ 51 + 8 * length vs
unfolding plan_by snapshot_by size_all
plan_size v [] = omega (arith, length-be 8 (v + 1), length-be 8 v)
plan_size v (x ∷ xs) = omega (arith, length-be 8 (v + 1), length-be 8 v, set_long (x ∷ xs))

-- ---- counts

length-put : (r : Rec) (m : Map) → length (Records.put key_order r m) ≤ suc (length m)
unfolding Records.put
length-put r [] = omega arith
length-put r (e ∷ m) = go (key_order (key_of r) (key_of e)) (length-put r m)
  where
    go : (o : Ordering) → length (Records.put key_order r m) ≤ suc (length m) → length (place o r e m (Records.put key_order r m)) ≤ suc (length (e ∷ m))
    go Ordering.lt i = omega arith
    go Ordering.eq i = omega arith
    go Ordering.gt i = omega arith

length-snap : (v : ℕ) (s : List ℕ) (m : Map) → length (put_snap key_order v s m) ≤ suc (length m)
length-snap v [] m = omega arith
length-snap v (x ∷ xs) m = length-put (snap_rec v (x ∷ xs)) m

pub length_begin : (m : Map) → length (begin_map key_order m) ≤ 3 + length m
unfolding begin_map
length_begin m =
    let n : ℕ = next_of (look m next_version) in
    let p : Map = Records.put key_order (next_rec (suc n)) m in
    let q : Map = put_snap key_order n (actives m) p in
    omega (arith, length-put (active_rec n) q, length-snap n (actives m) p, length-put (next_rec (suc n)) m)

-- a record's key says whether it is of an open version
abbrev one_of : Fields → ℕ
one_of next_version = 0
one_of (txn_active v) = 1
one_of (txn_active_snapshot v) = 0
one_of (txn_write v k) = 0
one_of (version k v) = 0
one_of (unversioned k) = 0

one_of_lem : (r : Rec) → one r ≡ one_of (key_of r)
one_of_lem (next_rec n) = refl
one_of_lem (active_rec v) = refl
one_of_lem (snap_rec v s) = refl
one_of_lem (wrote_rec v k) = refl
one_of_lem (ver_rec k v o) = refl
one_of_lem (plain_rec k b) = refl

many-same : (r : Rec) → one r ≡ 0 → (m : Map) → many (Records.put key_order r m) ≡ many m
unfolding Records.put
many-same r z [] = omega (arith, many_cons r [])
many-same r z (e ∷ m) = go (key_order (key_of r) (key_of e)) refl (many-same r z m)
  where
    go : (o : Ordering) → key_order (key_of r) (key_of e) ≡ o → many (Records.put key_order r m) ≡ many m → many (place o r e m (Records.put key_order r m)) ≡ many (e ∷ m)
    go Ordering.lt q i = omega (arith, many_cons r (e ∷ m))
    go Ordering.eq q i =
        let f : one e ≡ one r = one_of_lem e ∙ ap one_of (sym (order.same (key_of r) (key_of e) q)) ∙ sym (one_of_lem r) in
        omega (arith, many_cons r m, many_cons e m)
    go Ordering.gt q i = omega (arith, many_cons e m, many_cons e (Records.put key_order r m))

many_new : (r : Rec) (m : Map) → look m (key_of r) ≡ None → many (Records.put key_order r m) ≡ one r + many m
unfolding Records.put
many_new r [] n = many_cons r []
many_new r (e ∷ m) n = go (key_order (key_of r) (key_of e)) refl (many_new r m)
  where
    go : (o : Ordering) → key_order (key_of r) (key_of e) ≡ o → (look m (key_of r) ≡ None → many (Records.put key_order r m) ≡ one r + many m)
        → many (place o r e m (Records.put key_order r m)) ≡ one r + many (e ∷ m)
    go Ordering.lt q i = many_cons r (e ∷ m)
    go Ordering.eq q i = let f = order.same (key_of r) (key_of e) q in nope (cc (sym n ∙ ap (look (e ∷ m)) f ∙ look-here e m))
    go Ordering.gt q i =
        let p : key_of e ≢ key_of r = λ f. nope (cc (sym (order.itself (key_of r)) ∙ ap (key_order (key_of r)) (sym f) ∙ q)) in
        omega (arith, many_cons e m, many_cons e (Records.put key_order r m), i (sym (look-past e m p) ∙ n))

some_none : (z : Option Rec) → is_some z ≡ false → z ≡ None
some_none None e = refl
some_none (Some r) e = nope (cc)

snap-other : (n v : ℕ) (s : List ℕ) (m : Map) → look (put_snap key_order n s m) (txn_active v) ≡ look m (txn_active v)
snap-other n v [] m = refl
snap-other n v (x ∷ xs) m = look_put_other order (snap_rec n (x ∷ xs)) m (λ e. nope (cc))

snap-same : (n : ℕ) (s : List ℕ) (m : Map) → many (put_snap key_order n s m) ≡ many m
snap-same n [] m = refl
snap-same n (x ∷ xs) m = many-same (snap_rec n (x ∷ xs)) refl m

-- a begin opens one
pub many-begun : {w : World} {T : Calls} {m : Map} → Kept w T m → many (begin_map key_order m) ≡ suc (many m)
unfolding begin_map
many-begun {T = T} {m = m} k =
    let n : ℕ = next_of (look m next_version) in
    let p : Map = Records.put key_order (next_rec (suc n)) m in
    let q : Map = put_snap key_order n (actives m) p in
    let absent : look m (txn_active n) ≡ None = some_none (look m (txn_active n)) (run_open order k.run n ∙ ap is_open (run_unborn order k.run n (omega arith))) in
    let gone : look q (txn_active n) ≡ None = snap-other n n (actives m) p ∙ look_put_other order (next_rec (suc n)) m (λ e. nope (cc)) ∙ absent in
    omega (arith, many_new (active_rec n) q gone, snap-same n (actives m) p, many-same (next_rec (suc n)) refl m)

pub length_pairs : (m : Map) → length (pairs_in m) ≡ length m
unfolding pairs_in
length_pairs [] = refl
length_pairs (r ∷ m) = ap suc (length_pairs m)
