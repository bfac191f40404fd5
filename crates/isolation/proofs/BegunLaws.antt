-- The calls that give a handle keep the store's records: a begin that answers 0 makes the records that a begin makes, and every handle
-- given is sound. Assumes nothing.
use Prim.Native.Nat.{ℕ, ◌-◌, ◌^◌, ◌<◌, ◌≤◌}
use mathlib.Core.Path.{◌≡◌, refl, sym, ap, ◌∙◌, subst}
use mathlib.Core.Bool.{Bool, true, false}
use mathlib.Core.List.{List}
use lib.Dec.{leb, eqb}
use native.Mathlib.Omega.{arith}
use lib.ListN.{length}
use borrow.Author.Tests.{leb-true, leb-false, eqb-false}
use Rattle.std.specs.Prelude.{Result, Ok, Err, Some}
use Rattle.bitcask.specs.declared.request.Used.{Used}
use Rattle.keycode.specs.Tests.{pick}
use Rattle.keycode.specs.Limits.{max_open}
use Rattle.keycode.specs.declared.refusal.Refusal.{Refusal}
use Rattle.keycode.specs.declared.refusal.Refusal.TheVariants.{TooManyOpen, NoSuchVersion, VersionsSpent}
use Rattle.bitcask.specs.recovery.Promises.{changed_number}
use Rattle.mvcc.specs.handle.Handles.{rising, handle_of}
use Rattle.mvcc.specs.payload.Payloads.{Versions}
use Rattle.mvcc.proofs.handle.HandleLaws.{made_set, made_sound}
use Rattle.mvcc.specs.declared.handle.Handle.{Handle}
use Rattle.mvcc.specs.declared.begun.Begun.{Begun}
use Rattle.mvcc.specs.request.Given.{refused_by, begun_with}
use Rattle.mvcc.proofs.request.CheckLaws.{not_done}
use Rattle.bitcask.specs.change.Append.{append_answer}
use Rattle.mvcc.specs.start.Plan.{begin_plan}
use Rattle.mvcc.specs.read_only.Answers.{reading_with}
use Rattle.mvcc.specs.as_of.Answers.{as_of_with}
use Rattle.mvcc.specs.start.Begins.{begun_by, begin_with}
use Rattle.isolation.specs.records.Stored.{sight_of}
use Rattle.isolation.proofs.KeptLaws.{Sound}

-- ---- what an answer 0 says

refused_not : {A : Type 0} (x : Refusal) (r : Begun) → r ≡ refused_by x → changed_number r.answer ≡ 0 → A
refused_not x r e z = absurd (not_done x (sym (ap (λ (y : Begun). changed_number y.answer) e) ∙ z))

pub begin_says : (log : List ℕ) (used words n : ℕ) (vs : List ℕ) (r : Begun) → r ≡ begin_with log used words n (Some vs) → changed_number r.answer ≡ 0
    → (n ≡ 2 ^ 64 - 1 → ⊥) × (length vs < max_open) × (r.handle ≡ handle_of n false vs)
begin_says log used words n vs r e z = go (eqb n (2 ^ 64 - 1)) refl (leb max_open (length vs)) refl e
  where
    handled : (x : Result Used Refusal) → r ≡ begun_by x (handle_of n false vs) → r.handle ≡ handle_of n false vs
    handled (Ok u) q = ap (λ (y : Begun). y.handle) q
    handled (Err y) q = refused_not y r q z

    go : (a : Bool) → eqb n (2 ^ 64 - 1) ≡ a → (b : Bool) → leb max_open (length vs) ≡ b
        → r ≡ pick a (refused_by VersionsSpent) (pick b (refused_by TooManyOpen) (begun_by (append_answer log used words (begin_plan n vs)) (handle_of n false vs)))
        → (n ≡ 2 ^ 64 - 1 → ⊥) × (length vs < max_open) × (r.handle ≡ handle_of n false vs)
    go true p b q f = refused_not VersionsSpent r f z
    go false p true q f = refused_not TooManyOpen r f z
    go false p false q f = (eqb-false n (2 ^ 64 - 1) p, omega (arith, leb-false max_open (length vs) q), handled (append_answer log used words (begin_plan n vs)) f)

pub reading_says : (used n : ℕ) (vs : List ℕ) (r : Begun) → r ≡ reading_with used n (Some vs) → changed_number r.answer ≡ 0
    → (length vs ≤ max_open) × (r.handle ≡ handle_of n true vs)
reading_says used n vs r e z = go (leb (length vs) max_open) refl e
  where
    go : (b : Bool) → leb (length vs) max_open ≡ b → r ≡ pick b (begun_with used (handle_of n true vs)) (refused_by TooManyOpen) → (length vs ≤ max_open) × (r.handle ≡ handle_of n true vs)
    go true p q = (omega (arith, leb-true (length vs) max_open p), ap (λ (y : Begun). y.handle) q)
    go false p q = refused_not TooManyOpen r q z

pub as_of_says : (used v n : ℕ) (h : Handle) (r : Begun) → r ≡ pick (leb n v) (refused_by NoSuchVersion) (as_of_with used (Ok h))
    → changed_number r.answer ≡ 0 → (v < n) × (r.handle ≡ h)
as_of_says used v n h r e z = go (leb n v) refl e
  where
    go : (b : Bool) → leb n v ≡ b → r ≡ pick b (refused_by NoSuchVersion) (as_of_with used (Ok h)) → (v < n) × (r.handle ≡ h)
    go true p q = refused_not NoSuchVersion r q z
    go false p q = (leb-false n v p, ap (λ (y : Begun). y.handle) q)

-- ---- the handles

pub sight_made : (v : ℕ) (ro : Bool) (vs : List ℕ) → length vs ≤ max_open → sight_of (handle_of v ro vs) ≡ record { ver = v; ro = ro; set = vs }
unfolding handle_of
sight_made v ro vs h = let e = made_set v ro vs h in λ j. record { ver = v; ro = ro; set = e j }

pub handle-sound : (v : ℕ) (ro : Bool) (vs : List ℕ) → length vs ≤ max_open → rising vs ≡ true → Versions vs → v < 2 ^ 64 → (ro ≡ false → (0 < v) × (v < 2 ^ 64 - 1)) → Sound (handle_of v ro vs)
unfolding handle_of
handle-sound v ro vs few up fit l o = record {
  sound = made_sound v ro vs few ∙ up;
  fits = l;
  own = o;
  set = subst Versions (sym (made_set v ro vs few)) fit;
}
