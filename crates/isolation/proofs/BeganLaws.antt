-- The begins keep the store's records: a begin that answers 0 makes of them what the begin on records makes, and each gives the handle
-- that its like on records gives. Assumes nothing.
use Prim.Native.Nat.{ℕ, ◌+◌, ◌-◌, ◌^◌, ◌<◌, ◌≤◌}
use mathlib.Core.Path.{◌≡◌, refl, sym, ap, ◌∙◌, subst}
use mathlib.Core.Bool.{true, false}
use mathlib.Core.List.{List, [], ◌∷◌}
use native.Mathlib.Decide.{dec_lt}
use native.Mathlib.Omega.{arith}
use lib.Dec.{leb}
use lib.ListN.{length}
use Rattle.std.specs.Prelude.{Result, Ok, Err, Option, None, Some}
use Rattle.keycode.specs.declared.refusal.Refusal.{Refusal}
use Rattle.keycode.specs.Tests.{pick, if_done}
use Rattle.keycode.specs.Buffer.{put}
use Rattle.keycode.specs.Limits.{max_open}
use Rattle.keycode.specs.declared.refusal.Refusal.TheVariants.{NoSuchVersion}
use Rattle.keycode.proofs.Basics.{nope}
use Rattle.keycode.specs.key.Keys.{next_version, txn_active_snapshot}
use Rattle.bitcask.specs.keydir.Place.{All}
use Rattle.bitcask.specs.declared.request.Used.{Used}
use Rattle.bitcask.specs.recovery.Recover.{map_of}
use Rattle.bitcask.specs.recovery.Agree.{Agrees}
use Rattle.bitcask.specs.recovery.Promises.{changed_number}
use Rattle.bitcask.specs.change.Append.{size_all, bytes_all, after_all}
use Rattle.mvcc.specs.handle.Handles.{rising, handle_of}
use Rattle.mvcc.specs.payload.Payloads.{Versions, set_bytes}
use Rattle.mvcc.proofs.handle.HandleLaws.{made_set}
use Rattle.mvcc.specs.declared.handle.Handle.{Handle}
use Rattle.mvcc.specs.declared.begun.Begun.{Begun}
use Rattle.mvcc.specs.start.Plan.{plan_by, begin_plan, plan_of}
use Rattle.mvcc.specs.request.Given.{refused_by}
use Rattle.mvcc.proofs.request.CheckLaws.{not_done}
use Rattle.mvcc.specs.read_only.Answers.{reading_with}
use Rattle.mvcc.specs.as_of.Answers.{as_of_with}
use Rattle.mvcc.specs.start.Begins.{begin_with}
use Rattle.mvcc.specs.start.Promises.{Begins}
use Rattle.mvcc.specs.read_only.Promises.{BeginsReading}
use Rattle.mvcc.specs.as_of.Promises.{BeginsAsOf}
use Rattle.isolation.specs.history.Records.{Rec, next_rec, active_rec, snap_rec, wrote_rec, ver_rec, plain_rec, key_of, Map, look, Sorted}
use Rattle.isolation.specs.history.Calls.{next_of, set_of as snap_of, actives, begin_handle, begin_map}
use Rattle.isolation.specs.history.Run.{Entry, begin_e, read_e, as_of_e, other_e, Trace, read_handle, as_of_handle, do_begin, do_read, do_as_of}
use Rattle.isolation.specs.history.Run as H
use Rattle.isolation.proofs.history.RunLaws.{run-sorted}
use Rattle.isolation.specs.records.Stored.{key_order, Fine, sight_of}
use Rattle.isolation.proofs.records.OrderLaws.{order}
use Rattle.isolation.proofs.records.PlanLaws.{begin_pairs}
use Rattle.isolation.proofs.records.FineLaws.{fine_begin}
use Rattle.isolation.proofs.records.ActiveLaws.{active_pairs, actives-fit, actives_rise}
use Rattle.isolation.proofs.records.ReadLaws.{look-says, next-pairs, snapshot_pairs}
use Rattle.mvcc.specs.world.World.{World, begins, begins_reading, begins_as_of, Calls}
use Rattle.mvcc.specs.world.Steps.{changed_to}
use Rattle.isolation.specs.Meaning.{on_done, trace_of}
use Rattle.isolation.proofs.KeptLaws.{Sound, Kept, Ready, given_cases, kept-other, kept_refused, refused_same}
use Rattle.isolation.proofs.BegunLaws.{begin_says, reading_says, as_of_says, sight_made, handle-sound}

below-max : (n : ℕ) → n < 2 ^ 64 → (n ≡ 2 ^ 64 - 1 → ⊥) → n < 2 ^ 64 - 1
below-max n l d = go (dec_lt n (2 ^ 64 - 1))
  where
    go : Dec (n < 2 ^ 64 - 1) → n < 2 ^ 64 - 1
    go (yes h) = h
    go (no h) = absurd (d (omega arith))

-- ---- what the records hold

pub next_fits : {m : Map} → All Fine m → (0 < next_of (look m next_version)) × (next_of (look m next_version) < 2 ^ 64)
next_fits {m} a = go (look m next_version) (look-says a next_version)
  where
    go : (z : Option Rec) → ((r : Rec) → z ≡ Some r → (key_of r ≡ next_version) × Fine r) → (0 < next_of z) × (next_of z < 2 ^ 64)
    go None w = (omega arith, omega arith)
    go (Some (next_rec n)) w = (w (next_rec n) refl).1
    go (Some (active_rec v)) w = (omega arith, omega arith)
    go (Some (snap_rec v s)) w = (omega arith, omega arith)
    go (Some (wrote_rec v k)) w = (omega arith, omega arith)
    go (Some (ver_rec k v o)) w = (omega arith, omega arith)
    go (Some (plain_rec k b)) w = (omega arith, omega arith)

abbrev Few : List ℕ → Type 0
Few s = (length s ≤ max_open) × (rising s ≡ true) × Versions s

none-few : Few []
unfolding rising
none-few = (omega arith, refl, λ i. omega arith)

snap-fits : {m : Map} → All Fine m → (v : ℕ) → Few (snap_of (look m (txn_active_snapshot v)))
snap-fits {m} a v = go (look m (txn_active_snapshot v)) (look-says a (txn_active_snapshot v))
  where
    go : (z : Option Rec) → ((r : Rec) → z ≡ Some r → (key_of r ≡ txn_active_snapshot v) × Fine r) → Few (snap_of z)
    go None w = none-few
    go (Some (next_rec n)) w = none-few
    go (Some (active_rec v)) w = none-few
    go (Some (snap_rec v s)) w = let f = (w (snap_rec v s) refl).1 in (f.1, f.2, f.3)
    go (Some (wrote_rec v k)) w = none-few
    go (Some (ver_rec k v o)) w = none-few
    go (Some (plain_rec k b)) w = none-few

-- ---- begin

pub plan_made : (v : ℕ) (vs : List ℕ) → length vs ≤ max_open → plan_of (handle_of v false vs) ≡ begin_plan v vs
unfolding handle_of
plan_made v vs h = let e = made_set v false vs h in λ j. plan_by (length (e j)) v (set_bytes (e j))

begin_run : {m : Map} {T : Trace} (e : Entry) → e ≡ begin_e (begin_handle m) → H.Run key_order m T → next_of (look m next_version) < 2 ^ 64 - 1 → length (actives m) < 16
    → H.Run key_order (begin_map key_order m) (e ∷ T)
begin_run e q r l f = rw q (do_begin r l f)

same_begin : {r x : Begun} → begins x ≡ begins r → x ≡ r
same_begin e = cc

same_reading : {r x : Begun} → begins_reading x ≡ begins_reading r → x ≡ r
same_reading e = cc

same_as_of : {v u : ℕ} {r x : Begun} → begins_as_of u x ≡ begins_as_of v r → x ≡ r
same_as_of e = cc

at_entry : {m : Map} {T : Trace} {x y : Entry} → x ≡ y → H.Run key_order m (y ∷ T) → H.Run key_order m (x ∷ T)
at_entry e r = rw e r

begin_entry : (m : Map) (r : Begun) (u : Used) → r.answer ≡ Ok u → r.handle ≡ handle_of (next_of (look m next_version)) false (actives m) → length (actives m) ≤ max_open
    → on_done r.answer (begin_e (sight_of r.handle)) other_e ≡ begin_e (begin_handle m)
begin_entry m r u e q l = rw e (ap begin_e (ap sight_of q ∙ sight_made (next_of (look m next_version)) false (actives m) l))

module _ {w : World} {T : Calls} {m : Map} (k : Kept w T m) (a : Ready w) where
  sorted : Sorted key_order m
  sorted = run-sorted order k.run

  pub begin_at : (r : Begun) {log t : List ℕ} → Begins w.log w.used w.table r log t → r ≡ begin_with w.log w.used (length w.table) (next_of (look m next_version)) (Some (actives m))
  begin_at r b = b.answer a ∙ rw (k.map, next-pairs sorted k.fine, active_pairs k.fine)

  pub made_begin : (r : Begun) (u : Used) {log t : List ℕ} → r.answer ≡ Ok u → Begins w.log w.used w.table r log t
      → Kept (record { log = log; used = u.len; table = t }) (begins r ∷ T) (begin_map key_order m) × Agrees log u.len t
  unfolding trace_of
  made_begin r u {log} {t} e b =
      let n : ℕ = next_of (look m next_version) in
      let vs : List ℕ = actives m in
      let z : changed_number r.answer ≡ 0 = ap changed_number e in
      let s = begin_says w.log w.used (length w.table) n vs r (begin_at r b) z in
      let few : length vs ≤ max_open = omega (arith, s.1) in
      let f = next_fits k.fine in
      let below : n < 2 ^ 64 - 1 = below-max n f.1 s.0 in
      let p : plan_of r.handle ≡ begin_plan n vs = ap plan_of s.2 ∙ plan_made n vs few in
      let q : u.len ≡ w.used + size_all (plan_of r.handle) = (b.ends u e).0 in
      let sound : Sound r.handle = subst Sound (sym s.2) (handle-sound n false vs few (actives_rise sorted) (actives-fit k.fine) f.1 (λ i. (f.0, below))) in (
        record {
          map = ap (map_of log) q ∙ b.map a z ∙ (λ j. after_all (p j) (k.map j)) ∙ begin_pairs m;
          fine = fine_begin sorted k.fine (omega arith) few;
          run = begin_run (on_done r.answer (begin_e (sight_of r.handle)) other_e) (begin_entry m r u e s.2 few) k.run below (omega (arith, s.1));
          handles = λ h. given_cases (λ x i g. subst Sound (ap (λ (y : Begun). y.handle) (sym (same_begin i)) ∙ g.1) sound) (λ x i g. nope (cc)) (λ v x i g. nope (cc)) (k.handles h);
        },
        subst (λ (x : ℕ). Agrees log x t) (sym q) (b.again a z),
      )

  pub begun : (r : Begun) {log t : List ℕ} → Begins w.log w.used w.table r log t → (m' : Map) × (Kept (changed_to w r.answer log t) (begins r ∷ T) m' × Ready (changed_to w r.answer log t))
  begun r {log} {t} b = go r.answer refl
    where
      go : (x : Result Used Refusal) → r.answer ≡ x → (m' : Map) × (Kept (changed_to w x log t) (begins r ∷ T) m' × Ready (changed_to w x log t))
      go (Ok u) e = (begin_map key_order m, made_begin r u e b)
      go (Err y) e = (
        m,
        kept_refused k a
            (refused_same y _ _ (b.bytes ∙ ap (λ (i : ℕ). if_done i (put w.log w.used (bytes_all (plan_of r.handle))) w.log) (ap changed_number e)))
            (refused_same y _ _ (b.words ∙ ap (λ (i : ℕ). if_done i t w.table) (ap changed_number e))) (rw e)
            (λ h. given_cases (λ x i g. absurd (not_done y (sym (ap changed_number (ap (λ (z : Begun). z.answer) (same_begin i) ∙ e)) ∙ g.0))) (λ x i g. nope (cc)) (λ v x i g. nope (cc)) (λ g. g)),
      )

  -- ---- read-only

  pub reading_at : (r : Begun) → BeginsReading w.log w.used w.table r → r ≡ reading_with w.used (next_of (look m next_version)) (Some (actives m))
  reading_at r b = b.answer a ∙ rw (k.map, next-pairs sorted k.fine, active_pairs k.fine)

  reading_entry : (r : Begun) (u : Used) → r.answer ≡ Ok u → r.handle ≡ handle_of (next_of (look m next_version)) true (actives m) → length (actives m) ≤ max_open
      → on_done r.answer (read_e (sight_of r.handle)) other_e ≡ read_e (read_handle m)
  reading_entry r u e q l = rw e (ap read_e (ap sight_of q ∙ sight_made (next_of (look m next_version)) true (actives m) l))

  pub made_reading : (r : Begun) → BeginsReading w.log w.used w.table r → Kept w (begins_reading r ∷ T) m
  unfolding trace_of
  made_reading r b = go r.answer refl
    where
      go : (x : Result Used Refusal) → r.answer ≡ x → Kept w (begins_reading r ∷ T) m
      go (Err y) e =
          kept-other k (rw e) (λ h. given_cases (λ x i g. nope (cc)) (λ x i g. absurd (not_done y (sym (ap changed_number (ap (λ (z : Begun). z.answer) (same_reading i) ∙ e)) ∙ g.0))) (λ v x i g. nope (cc)) (λ g. g))
      go (Ok u) e =
          let n : ℕ = next_of (look m next_version) in
          let z : changed_number r.answer ≡ 0 = ap changed_number e in
          let s = reading_says w.used n (actives m) r (reading_at r b) z in
          let sound : Sound r.handle = subst Sound (sym s.1) (handle-sound n true (actives m) s.0 (actives_rise sorted) (actives-fit k.fine) (next_fits k.fine).1 (λ i. nope (cc))) in
          record {
            map = k.map;
            fine = k.fine;
            run = at_entry (reading_entry r u e s.1 s.0) (do_read k.run);
            handles = λ h. given_cases (λ x i g. nope (cc)) (λ x i g. subst Sound (ap (λ (y : Begun). y.handle) (sym (same_reading i)) ∙ g.1) sound) (λ v x i g. nope (cc)) (k.handles h);
          }

  -- ---- as-of

  as_of_entry : (v : ℕ) (r : Begun) (u : Used) → r.answer ≡ Ok u → r.handle ≡ handle_of v true (snap_of (look m (txn_active_snapshot v)))
      → length (snap_of (look m (txn_active_snapshot v))) ≤ max_open → on_done r.answer (as_of_e v (sight_of r.handle)) other_e ≡ as_of_e v (as_of_handle v m)
  as_of_entry v r u e q l = rw e (ap (as_of_e v) (ap sight_of q ∙ sight_made v true (snap_of (look m (txn_active_snapshot v))) l))

  pub as_of_at : (v : ℕ) (r : Begun) → BeginsAsOf w.log w.used w.table v r
      → r ≡ pick (leb (next_of (look m next_version)) v) (refused_by NoSuchVersion) (as_of_with w.used (Ok (handle_of v true (snap_of (look m (txn_active_snapshot v))))))
  as_of_at v r b =
      b.answer a ∙ rw (k.map, next-pairs sorted k.fine)
      (ap (λ (x : Result Handle Refusal). pick (leb (next_of (look m next_version)) v) (refused_by NoSuchVersion) (as_of_with w.used x)) (snapshot_pairs sorted k.fine v))

  pub made_as_of : (v : ℕ) (r : Begun) → BeginsAsOf w.log w.used w.table v r → Kept w (begins_as_of v r ∷ T) m
  unfolding trace_of
  made_as_of v r b = go r.answer refl
    where
      go : (x : Result Used Refusal) → r.answer ≡ x → Kept w (begins_as_of v r ∷ T) m
      go (Err y) e =
          kept-other k (rw e) (λ h. given_cases (λ x i g. nope (cc)) (λ x i g. nope (cc)) (λ u x i g. absurd (not_done y (sym (ap changed_number (ap (λ (z : Begun). z.answer) (same_as_of i) ∙ e)) ∙ g.0))) (λ g. g))
      go (Ok u) e =
          let z : changed_number r.answer ≡ 0 = ap changed_number e in
          let S : List ℕ = snap_of (look m (txn_active_snapshot v)) in
          let s = as_of_says w.used v (next_of (look m next_version)) (handle_of v true S) r (as_of_at v r b) z in
          let f = snap-fits k.fine v in
          let l : v < 2 ^ 64 = omega (arith, s.0, (next_fits k.fine).1) in
          let sound : Sound r.handle = subst Sound (sym s.1) (handle-sound v true S f.0 f.1 f.2 l (λ i. nope (cc))) in
          record {
            map = k.map;
            fine = k.fine;
            run = at_entry (as_of_entry v r u e s.1 f.0) (do_as_of k.run v s.0);
            handles = λ h. given_cases (λ x i g. nope (cc)) (λ x i g. nope (cc)) (λ n x i g. subst Sound (ap (λ (y : Begun). y.handle) (sym (same_as_of i)) ∙ g.1) sound) (k.handles h);
          }
