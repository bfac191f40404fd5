-- What a handle sees by is the history's sight: the same versions, and the same start of a write's search. Assumes nothing.
use Prim.Native.Nat.{ℕ, ◌-◌, ◌^◌, ◌<◌}
use mathlib.Core.Path.{◌≡◌, refl}
use mathlib.Core.Bool.{Bool, true, false, not, ◌&&◌, cond}
use mathlib.Core.Logic.{ite}
use mathlib.Core.List.{List, [], ◌∷◌}
use native.Mathlib.Decide.{ℕ_discrete}
use native.Mathlib.Omega.{arith}
use lib.Dec.{leb, ltb, eqb}
use borrow.Author.Tests.{eq-eqb, ne_eqb}
use Rattle.keycode.specs.Tests.{pick}
use Rattle.mvcc.specs.declared.handle.Handle.{Handle}
use Rattle.mvcc.specs.handle.Handles.{memb, set_of, sees, first_or, lowest_of}
use Rattle.isolation.specs.history.History.{is_in, lowest}
use Rattle.isolation.specs.history.Calls.{visible}
use Rattle.isolation.specs.records.Stored.{sight_of}

memb_in : (v : ℕ) (s : List ℕ) → memb v s ≡ is_in v s
unfolding memb is_in
memb_in v [] = refl
memb_in v (x ∷ s) = go (ℕ_discrete x v) (memb_in v s)
  where
    go : (d : Dec (x ≡ v)) → memb v s ≡ is_in v s → pick (eqb x v) true (memb v s) ≡ ite d true (is_in v s)
    go (yes e) i = rw (eq-eqb x v e)
    go (no n) i = rw (ne_eqb x v n) i

pub sees-visible : (h : Handle) (x : ℕ) → sees h x ≡ visible (sight_of h) x
unfolding sees visible
sees-visible h x = rw (memb_in x (set_of h)) (go (is_in x (set_of h)) h.read_only)
  where
    go : (i ro : Bool) → pick i false (pick ro (ltb x h.version) (leb x h.version)) ≡ cond ro (not i && ltb x h.version) (not i && leb x h.version)
    go true true = refl
    go true false = refl
    go false true = refl
    go false false = refl

pub lowest_of_lem : (h : Handle) → h.version < 2 ^ 64 - 1 → lowest_of h ≡ lowest (set_of h) h.version
unfolding lowest_of
lowest_of_lem h l = go (set_of h)
  where
    go : (s : List ℕ) → first_or h.version s ≡ lowest s h.version
    go [] = unfold first_or in (omega arith)
    go (x ∷ s) = unfold first_or in refl
