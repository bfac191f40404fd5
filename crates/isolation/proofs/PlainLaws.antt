-- The unversioned set, commit and rollback keep the store's records. Assumes nothing.
use Prim.Native.Nat.{ℕ, ◌+◌}
use mathlib.Core.Path.{◌≡◌, refl, sym, ap, ◌∙◌, subst}
use mathlib.Core.Bool.{Bool, true, false, not, cond}
use mathlib.Core.List.{List, ◌∷◌}
use lib.Dec.{leb, eqb}
use lib.ListN.{length}
use borrow.Author.Tests.{leb-true, not-false}
use Rattle.std.specs.Prelude.{Result, Ok, Err}
use Rattle.bitcask.specs.declared.request.Used.{Used}
use Rattle.keycode.specs.declared.refusal.Refusal.{Refusal}
use Rattle.keycode.specs.Tests.{pick}
use Rattle.keycode.specs.Limits.{max_key}
use Rattle.keycode.proofs.Basics.{nope}
use Rattle.bitcask.specs.keydir.Place.{All}
use Rattle.bitcask.specs.recovery.Map.{Pair}
use Rattle.bitcask.specs.recovery.Recover.{map_of}
use Rattle.bitcask.specs.recovery.Agree.{fit, Agrees}
use Rattle.bitcask.specs.change.Append.{size_all, after_all}
use Rattle.mvcc.specs.declared.handle.Handle.{Handle}
use Rattle.mvcc.specs.handle.Handles.{sound_handle}
use Rattle.mvcc.specs.request.Checks.{admit_by, open_in}
use Rattle.mvcc.specs.unversioned.Promises.{plain_plan, SetsPlain}
use Rattle.mvcc.proofs.unversioned.MapLaws.{plain_grow}
use Rattle.mvcc.specs.end.Plans.{commit_plan, rollback_plan}
use Rattle.mvcc.specs.end.Promises.{Commits, RollsBack}
use Rattle.isolation.specs.history.Records.{Map, plain_rec, put as put_record, Sorted}
use Rattle.isolation.specs.history.Calls.{commit_map, rollback_map}
use Rattle.isolation.specs.history.Run.{usable, do_plain, do_commit, do_rollback}
use Rattle.isolation.proofs.history.RunLaws.{run-sorted}
use Rattle.isolation.specs.records.Stored.{pairs_in, key_order, Fine as FineRecord, sight_of}
use Rattle.isolation.proofs.records.OrderLaws.{order}
use Rattle.isolation.proofs.records.PlanLaws.{plain_pairs}
use Rattle.isolation.proofs.records.EndLaws.{commit_pairs, rollback_pairs, commit_none, rollback_none}
use Rattle.isolation.proofs.records.FineLaws.{fine_plain, fine_commit, fine_rollback}
use Rattle.mvcc.specs.world.World.{World, Calls, sets_plain, commits, rolls_back}
use Rattle.mvcc.specs.world.Steps.{changed_to}
use Rattle.mvcc.specs.world.Runs.{Given}
use Rattle.isolation.specs.Meaning.{trace_of}
use Rattle.isolation.proofs.GivenLaws.{given_trace}
use Rattle.isolation.proofs.EndedLaws.{admits, commit_ended, rollback_ended}
use Rattle.isolation.proofs.KeptLaws.{Sound, Kept, Ready, given_cases, kept_refused, refused_same, len_of}
use Rattle.isolation.proofs.OpenLaws.{open_usable}

-- ---- they give no handle

plain_past : {k v : List ℕ} {r : Result Used Refusal} {T : Calls} (h : Handle) → Given h (sets_plain k v r ∷ T) → Given h T
plain_past h = given_cases (λ x i g. nope (cc)) (λ x i g. nope (cc)) (λ v x i g. nope (cc)) (λ g. g)

commit_past : {x : Handle} {r : Result Used Refusal} {T : Calls} (h : Handle) → Given h (commits x r ∷ T) → Given h T
commit_past h = given_cases (λ x i g. nope (cc)) (λ x i g. nope (cc)) (λ v x i g. nope (cc)) (λ g. g)

rollback_past : {x : Handle} {r : Result Used Refusal} {T : Calls} (h : Handle) → Given h (rolls_back x r ∷ T) → Given h T
rollback_past h = given_cases (λ x i g. nope (cc)) (λ x i g. nope (cc)) (λ v x i g. nope (cc)) (λ g. g)

-- ---- the unversioned set

short_done : (f short : Bool) (n : ℕ) → n ≡ 0 → f ≡ true → eqb n 4 ≡ pick f (not short) false → short ≡ true
short_done f short n z p e = not-false short (sym (sym (ap (λ (i : ℕ). eqb i 4) z) ∙ e ∙ ap (λ (i : Bool). pick i (not short) false) p))

module _ {w : World} {T : Calls} {m : Map} (k : Kept w T m) (a : Ready w) where
  sorted : Sorted key_order m
  sorted = run-sorted order k.run

  pub made_plain : {key value : List ℕ} (r : Result Used Refusal) {log t : List ℕ} → SetsPlain w.log w.used w.table key value r log t
      → (m' : Map) × (Kept (changed_to w r log t) (sets_plain key value r ∷ T) m' × Ready (changed_to w r log t))
  unfolding trace_of
  made_plain {key} {value} (Ok u) {log} {t} b =
      let q : u.len ≡ w.used + size_all (plain_plan key value) = (b.leaves.ends u refl).0 in
      let f : leb (length key) max_key ≡ true = short_done (fit (length w.log) w.used (length w.table)) (leb (length key) max_key) 0 refl a.sound b.early.key_long in (
        put_record key_order (plain_rec key value) m,
        (
          record {
            map = ap (map_of log) q ∙ (plain_grow a b refl).map ∙ ap (after_all (plain_plan key value)) k.map ∙ plain_pairs key value m;
            fine = fine_plain key value (leb-true (length key) max_key f) k.fine;
            run = do_plain k.run key value;
            handles = λ h g. k.handles h (plain_past h g);
          },
          subst (λ (n : ℕ). Agrees log n t) (sym q) (b.leaves.again a refl),
        ),
      )
  made_plain {key} {value} (Err y) {log} {t} b =
      (m, kept_refused k a (refused_same y _ _ b.leaves.bytes) (refused_same y _ _ b.leaves.words) refl plain_past)

  -- ---- commit and rollback

  fine_open : (f g o : Bool) → admit_by f g o ≡ (Ok tt) → o ≡ true
  unfolding admit_by
  fine_open true true true e = refl
  fine_open true true false e = nope (cc)
  fine_open true false o e = nope (cc)
  fine_open false g o e = nope (cc)

  usable-is : {h : Handle} → Sound h → admits w.log w.used w.table h ≡ (Ok tt) → usable m (sight_of h) ≡ true
  usable-is {h} s e = sym (open_usable k s) ∙ fine_open (fit (length w.log) w.used (length w.table)) (sound_handle h) (open_in w.log w.used h) e

  commit_map_lem : (h : Handle) (i : Bool) → h.read_only ≡ i → after_all (commit_plan h (pairs_in m)) (pairs_in m) ≡ pairs_in (cond i m (commit_map h.version m))
  unfolding after_all
  commit_map_lem h true e = rw (commit_none h (pairs_in m) e)
  commit_map_lem h false e = commit_pairs h sorted e

  rollback_map_lem : (h : Handle) (i : Bool) → h.read_only ≡ i → after_all (rollback_plan h (pairs_in m)) (pairs_in m) ≡ pairs_in (cond i m (rollback_map h.version m))
  unfolding after_all
  rollback_map_lem h true e = rw (rollback_none h (pairs_in m) e)
  rollback_map_lem h false e = rollback_pairs h sorted e k.fine

  fine_ended : (i : Bool) {x : Map} → All FineRecord x → All FineRecord (cond i m x)
  fine_ended true f = k.fine
  fine_ended false f = f

  pub made_commit : {h : Handle} (r : Result Used Refusal) {log t : List ℕ} → Sound h → Given h T → Commits w.log w.used w.table h r log t
      → (m' : Map) × (Kept (changed_to w r log t) (commits h r ∷ T) m' × Ready (changed_to w r log t))
  unfolding trace_of
  made_commit {h} (Ok u) {log} {t} s g b =
      let p = commit_ended a refl b in
      let q : u.len ≡ w.used + size_all (commit_plan h (map_of w.log w.used)) = ap len_of p.1.done in (
        cond h.read_only m (commit_map h.version m),
        (
          record {
            map = ap (map_of log) q ∙ p.1.map ∙ ap (λ (x : List Pair). after_all (commit_plan h x) x) k.map ∙ commit_map_lem h h.read_only refl;
            fine = fine_ended h.read_only (fine_commit h.version k.fine);
            run = do_commit k.run (sight_of h) (given_trace g).1 (usable-is s p.0);
            handles = λ x i. k.handles x (commit_past x i);
          },
          subst (λ (n : ℕ). Agrees log n t) (sym q) (b.leaves.again a refl),
        ),
      )
  made_commit (Err y) s g b = (m, kept_refused k a (refused_same y _ _ b.leaves.kept) (refused_same y _ _ b.leaves.words) refl commit_past)

  pub made_rollback : {h : Handle} (r : Result Used Refusal) {log t : List ℕ} → Sound h → Given h T → RollsBack w.log w.used w.table h r log t
      → (m' : Map) × (Kept (changed_to w r log t) (rolls_back h r ∷ T) m' × Ready (changed_to w r log t))
  unfolding trace_of
  made_rollback {h} (Ok u) {log} {t} s g b =
      let p = rollback_ended a refl b in
      let q : u.len ≡ w.used + size_all (rollback_plan h (map_of w.log w.used)) = ap len_of p.1.done in (
        cond h.read_only m (rollback_map h.version m),
        (
          record {
            map = ap (map_of log) q ∙ p.1.map ∙ ap (λ (x : List Pair). after_all (rollback_plan h x) x) k.map ∙ rollback_map_lem h h.read_only refl;
            fine = fine_ended h.read_only (fine_rollback h.version k.fine);
            run = do_rollback k.run (sight_of h) (given_trace g).1 (usable-is s p.0);
            handles = λ x i. k.handles x (rollback_past x i);
          },
          subst (λ (n : ℕ). Agrees log n t) (sym q) (b.leaves.again a refl),
        ),
      )
  made_rollback (Err y) s g b = (m, kept_refused k a (refused_same y _ _ b.leaves.kept) (refused_same y _ _ b.leaves.words) refl rollback_past)
