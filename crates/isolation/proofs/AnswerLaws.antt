-- Theorems: an as-of answers 0 exactly for 0 and the versions that began; no begin answers 12, and none gives a version that was given
-- before; the status answers 0; with a handle that may be used a resume answers 0. Assumes nothing.
use Prim.Native.Nat.{ℕ, ◌+◌, ◌-◌, ◌/◌, ◌^◌, ◌≤◌, ◌<◌}
use mathlib.Core.Path.{◌≡◌, refl, sym, ap, ◌∙◌}
use mathlib.Core.Bool.{Bool, true, false}
use mathlib.Core.Logic.{◌≢◌, ◌⊎◌, inl, inr}
use mathlib.Core.List.{List, ◌∷◌}
use native.Mathlib.Decide.{dec_lt}
use native.Mathlib.Omega.{arith}
use lib.Dec.{leb, eqb}
use lib.ListN.{length}
use borrow.Author.Tests.{le-leb, lt-leb}
use Rattle.std.specs.Prelude.{Result, Ok, Err, Some}
use Rattle.bitcask.specs.declared.request.Used.{Used}
use Rattle.keycode.specs.declared.refusal.Refusal.{Refusal}
use Rattle.keycode.specs.Tests.{pick}
use Rattle.keycode.specs.Limits.{max_open}
use Rattle.keycode.specs.declared.refusal.Refusal.TheVariants.{LogFull, TableFull, TooManyOpen, NoSuchVersion, VersionsSpent}
use Rattle.bitcask.specs.keydir.Slots.{slot_words}
use Rattle.keycode.specs.key.Keys.{next_version, txn_active_snapshot}
use Rattle.bitcask.specs.entry.Entry.{Entry}
use Rattle.bitcask.specs.recovery.Recover.{map_of}
use Rattle.bitcask.specs.recovery.Promises.{changed_number}
use Rattle.bitcask.specs.change.Append.{size_all, after_all, append_answer}
use Rattle.mvcc.specs.declared.handle.Handle.{Handle}
use Rattle.mvcc.specs.handle.Handles.{handle_of}
use Rattle.mvcc.specs.declared.begun.Begun.{Begun}
use Rattle.mvcc.specs.request.Given.{refused_by, begun_with}
use Rattle.mvcc.specs.declared.report.Versions.{Versions}
use Rattle.mvcc.specs.start.Plan.{begin_plan}
use Rattle.mvcc.specs.start.Begins.{begun_by, begin_with}
use Rattle.mvcc.specs.read_only.Answers.{reading_with}
use Rattle.mvcc.specs.as_of.Answers.{as_of_with}
use Rattle.mvcc.specs.start.Promises.{Begins}
use Rattle.mvcc.specs.read_only.Promises.{BeginsReading, States}
use Rattle.mvcc.specs.as_of.Promises.{BeginsAsOf}
use Rattle.mvcc.specs.read.Promises.{resume_answer, Resumes}
use Rattle.isolation.specs.history.History.{Sight, unborn, status}
use Rattle.isolation.specs.history.Records.{Map, look, Sorted}
use Rattle.isolation.specs.history.Calls.{next_of, set_of as snap_of, actives}
use Rattle.isolation.proofs.history.EffectLaws.{in_actives}
use Rattle.isolation.proofs.history.RunLaws.{run-born, run_unborn, begin_new, run_open, run-sorted}
use Rattle.isolation.specs.records.Stored.{key_order, sight_of}
use Rattle.isolation.proofs.records.OrderLaws.{order}
use Rattle.isolation.proofs.records.ActiveLaws.{active_count, actives_rise}
use Rattle.isolation.proofs.records.ReadLaws.{next-pairs}
use Rattle.mvcc.specs.world.World.{World, Calls, begins}
use Rattle.mvcc.specs.world.Runs.{After, Gave, Given}
use Rattle.isolation.specs.Meaning.{meaning}
use Rattle.isolation.specs.Views.{Usable, Tells}
use Rattle.isolation.proofs.GivenLaws.{began_trace}
use Rattle.isolation.proofs.EndedLaws.{admits}
use Rattle.isolation.proofs.KeptLaws.{Kept, Ready}
use Rattle.isolation.proofs.BegunLaws.{begin_says, sight_made}
use Rattle.isolation.proofs.BeganLaws.{next_fits, begin_at, reading_at, as_of_at}
use Rattle.isolation.proofs.OpenLaws.{checks_pass}
use Rattle.isolation.proofs.ShownLaws.{usable_in}

-- ---- numbers that are not 12

append_not : (log : List ℕ) (used words : ℕ) (es : List Entry) → changed_number (append_answer log used words es) ≡ 12 → ⊥
unfolding append_answer
append_not log used words es = go (leb (used + size_all es) (length log)) (leb (length (after_all es (map_of log used))) (words / slot_words))
  where
    go : (a b : Bool) → changed_number (pick a (pick b (Ok (record { len = used + size_all es })) (Err TableFull)) (Err LogFull)) ≡ 12 → ⊥
    go true true e = omega arith
    go true false e = omega arith
    go false b e = omega arith

begin_not : (log : List ℕ) (used words n : ℕ) (vs : List ℕ) → changed_number (begin_with log used words n (Some vs)).answer ≡ 12 → ⊥
begin_not log used words n vs = go (eqb n (2 ^ 64 - 1)) (leb max_open (length vs)) (append_answer log used words (begin_plan n vs)) (append_not log used words (begin_plan n vs))
  where
    go : (a b : Bool) (x : Result Used Refusal) → (changed_number x ≡ 12 → ⊥)
        → changed_number (pick a (refused_by VersionsSpent) (pick b (refused_by TooManyOpen) (begun_by x (handle_of n false vs)))).answer ≡ 12 → ⊥
    go true b x f e = omega arith
    go false true x f e = omega arith
    go false false (Ok u) f e = omega arith
    go false false (Err r) f e = f e

reading_not : (used n : ℕ) (vs : List ℕ) → changed_number (reading_with used n (Some vs)).answer ≡ 12 → ⊥
reading_not used n vs = go (leb (length vs) max_open)
  where
    go : (b : Bool) → changed_number (pick b (begun_with used (handle_of n true vs)) (refused_by TooManyOpen)).answer ≡ 12 → ⊥
    go true e = omega arith
    go false e = omega arith

early : (used : ℕ) (h : Handle) (late : Bool) {r : Begun} → r ≡ pick late (refused_by NoSuchVersion) (as_of_with used (Ok h)) → late ≡ false → changed_number r.answer ≡ 0
early used h late e p = ap (λ (x : Begun). changed_number x.answer) (e ∙ ap (λ (b : Bool). pick b (refused_by NoSuchVersion) (as_of_with used (Ok h))) p)

module _ {w : World} {T : Calls} {m : Map} (k : Kept w T m) (a : Ready w) where
  sorted : Sorted key_order m
  sorted = run-sorted order k.run

  pub begins_not : {r : Begun} {log t : List ℕ} → Begins w.log w.used w.table r log t → changed_number r.answer ≢ 12
  begins_not {r} b e =
      begin_not w.log w.used (length w.table) (next_of (look m next_version)) (actives m)
      (sym (ap (λ (x : Begun). changed_number x.answer) (begin_at k a r b)) ∙ e)

  pub readings_not : {r : Begun} → BeginsReading w.log w.used w.table r → changed_number r.answer ≢ 12
  readings_not {r} b e =
      reading_not w.used (next_of (look m next_version)) (actives m) (sym (ap (λ (x : Begun). changed_number x.answer) (reading_at k a r b)) ∙ e)

  -- ---- as-of

  pub as_of_began : {v : ℕ} {r : Begun} → (v ≡ 0) ⊎ (status (meaning T) v ≢ unborn) → BeginsAsOf w.log w.used w.table v r → changed_number r.answer ≡ 0
  as_of_began {v} {r} c b = go (dec_lt v (next_of (look m next_version)))
    where
      late : next_of (look m next_version) ≤ v → (v ≡ 0) ⊎ (status (meaning T) v ≢ unborn) → ⊥
      late l (inl e) = omega (arith, (next_fits k.fine).0)
      late l (inr n) = n (run_unborn order k.run v l)

      go : Dec (v < next_of (look m next_version)) → changed_number r.answer ≡ 0
      go (yes l) = early w.used (handle_of v true (snap_of (look m (txn_active_snapshot v)))) (leb (next_of (look m next_version)) v) (as_of_at k a v r b) (lt-leb (next_of (look m next_version)) v l)
      go (no l) = absurd (late (omega arith) c)

  pub as_of_else : {v : ℕ} {r : Begun} → v ≢ 0 → status (meaning T) v ≡ unborn → BeginsAsOf w.log w.used w.table v r → r ≡ refused_by NoSuchVersion
  as_of_else {v} {r} n u b = go (dec_lt v (next_of (look m next_version)))
    where
      go : Dec (v < next_of (look m next_version)) → r ≡ refused_by NoSuchVersion
      go (yes l) = absurd (run-born order k.run v l n u)
      go (no l) = let i : next_of (look m next_version) ≤ v = omega arith in as_of_at k a v r b ∙ rw (le-leb (next_of (look m next_version)) v i)

  -- ---- no version is given twice

  pub begun_new : {r : Begun} {log t : List ℕ} {h : Handle} → Begins w.log w.used w.table r log t → Gave r h → {T₁ : Calls} {x : Begun} {i : Handle} → After (begins x ∷ T₁) T → Gave x i
      → h.version ≢ i.version
  begun_new {r} {h = h} b g {x = x} {i = i} f y e =
      let n : ℕ = next_of (look m next_version) in
      let s = begin_says w.log w.used (length w.table) n (actives m) r (begin_at k a r b) g.0 in
      let few : length (actives m) ≤ max_open = omega (arith, s.1) in
      let v : h.version ≡ n = ap (λ (z : Handle). z.version) (sym g.1 ∙ s.2) ∙ ap (λ (z : Sight). z.ver) (sight_made n false (actives m) few) in
      begin_new order k.run (sight_of i) _ (began_trace x y f) (sym v ∙ e)

  -- ---- status

  pub stated : {r : Result Versions Refusal} → States w.log w.used w.table r → (s : Versions) × (r ≡ Ok s) × Tells T s
  stated b =
      let f = next_fits k.fine in (
        record { last = next_of (look m next_version) - 1; «open» = length (actives m) },
        b.answer a ∙ rw (k.map, next-pairs sorted k.fine, active_count m),
        record {
          began = λ v n l. run-born order k.run v (omega (arith, f.0)) n;
          none-past = λ v l. run_unborn order k.run v (omega (arith, f.0));
          versions = actives m;
          rises = actives_rise sorted;
          are_open = λ v. in_actives m v ∙ run_open order k.run v;
          counted = refl;
        },
      )

  -- ---- resume with a handle that may be used

  module _ {h : Handle} (g : Given h T) (u : Usable T h) where
    admitted : admits w.log w.used w.table h ≡ (Ok tt)
    admitted = checks_pass k (k.handles h g) a (usable_in k h u)

    pub resumed : {r : Begun} → Resumes w.log w.used w.table h r → r ≡ begun_with w.used h
    unfolding resume_answer
    resumed b = b.answer a ∙ rw admitted
