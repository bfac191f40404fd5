-- Handles given: what a call adds to the handles that were given before, and how the history counts the call that gave one. Assumes
-- nothing.
use Prim.Native.Nat.{ℕ}
use mathlib.Core.Path.{◌≡◌, refl, ap, ◌∙◌, subst}
use mathlib.Core.Logic.{◌⊎◌, inl, inr}
use mathlib.Core.List.{List, ◌∷◌}
use Rattle.std.specs.Prelude.{Result, Ok, Err}
use Rattle.keycode.specs.declared.refusal.Refusal.{Refusal}
use Rattle.bitcask.specs.declared.request.Used.{Used}
use Rattle.bitcask.specs.recovery.Promises.{changed_number}
use Rattle.mvcc.specs.declared.handle.Handle.{Handle}
use Rattle.mvcc.specs.declared.begun.Begun.{Begun}
use Rattle.mvcc.proofs.request.CheckLaws.{not_done}
use Rattle.isolation.specs.history.Run.{Entry, begin_e, read_e, as_of_e, other_e, Trace}
use Rattle.isolation.specs.history.Run as H
use Rattle.isolation.specs.records.Stored.{sight_of}
use Rattle.mvcc.specs.world.World.{Call, begins, begins_reading, begins_as_of, Calls}
use Rattle.mvcc.specs.world.Runs.{After, now, later, Gave, Given, by_begin, by_reading, by_as_of}
use Rattle.isolation.specs.Meaning.{on_done, entry_of, trace_of}

-- ---- later calls

pub after_cons : {A : Type 0} {e c : A} {T₁ T : List A} → After (e ∷ T₁) (c ∷ T) → ((e ≡ c) × (T₁ ≡ T)) ⊎ After (e ∷ T₁) T
after_cons now = inl (refl, refl)
after_cons (later a) = inr a

pub after_trace : {T₁ T : Calls} → After T₁ T → After (trace_of T₁) (trace_of T)
unfolding trace_of
after_trace now = now
after_trace (later a) = later (after_trace a)

-- ---- an answer 0

pub done_is : (r : Result Used Refusal) → changed_number r ≡ 0 → (u : Used) × (r ≡ Ok u)
done_is (Ok u) z = (u, refl)
done_is (Err r) z = absurd (not_done r z)

begun-entry : (r : Begun) {h : Handle} → Gave r h → (f : Handle → Entry) → on_done r.answer (f r.handle) other_e ≡ f h
begun-entry r {h} (z, e) f = let d = done_is r.answer z in rw d.1 (ap f e)

-- ---- as the history counts it

module _ {T T₁ : Calls} {h : Handle} (r : Begun) (g : Gave r h) where
  at_entry : (e : Call) (f : Handle → Entry) → entry_of e ≡ on_done r.answer (f r.handle) other_e → After (e ∷ T₁) T → After (f h ∷ trace_of T₁) (trace_of T)
  unfolding trace_of
  at_entry e f q a = subst (λ (x : Entry). After (x ∷ trace_of T₁) (trace_of T)) (q ∙ begun-entry r g f) (after_trace a)

  pub began_trace : After (begins r ∷ T₁) T → After (begin_e (sight_of h) ∷ trace_of T₁) (trace_of T)
  began_trace a = at_entry (begins r) (λ (x : Handle). begin_e (sight_of x)) refl a

  pub read_trace : After (begins_reading r ∷ T₁) T → After (read_e (sight_of h) ∷ trace_of T₁) (trace_of T)
  read_trace a = at_entry (begins_reading r) (λ (x : Handle). read_e (sight_of x)) refl a

  pub as_of_trace : (v : ℕ) → After (begins_as_of v r ∷ T₁) T → After (as_of_e v (sight_of h) ∷ trace_of T₁) (trace_of T)
  as_of_trace v a = at_entry (begins_as_of v r) (λ (x : Handle). as_of_e v (sight_of x)) refl a

pub given_trace : {h : Handle} {T : Calls} → Given h T → (T₁ : Trace) × H.Gave (sight_of h) T₁ (trace_of T)
given_trace (by_begin {r = r} {T₁ = T₁} a g) = (trace_of T₁, H.by_begin (began_trace r g a))
given_trace (by_reading {r = r} {T₁ = T₁} a g) = (trace_of T₁, H.by_read (read_trace r g a))
given_trace (by_as_of {v = v} {r = r} {T₁ = T₁} a g) = (trace_of T₁, H.by_as_of v (as_of_trace r g v a))
