-- Ranks and bounds by what the search found. Assumes nothing.
use Prim.Native.Nat.{ℕ, ◌+◌, ◌≤◌, ◌<◌}
use mathlib.Core.Path.{◌≡◌, refl, sym, ◌∙◌}
use mathlib.Core.List.{List}
use native.Mathlib.Omega.{arith}
use Rattle.std.specs.Prelude.{Result, ℕ, Ok, Err}
use Rattle.bitcask.specs.declared.keydir.slots.Slot.{Slot}
use Rattle.bitcask.specs.keydir.Slots.{slots_of}
use Rattle.bitcask.specs.keydir.Place.{place_of}
use Rattle.bitcask.proofs.keydir.SlotLaws.{slots_length}
use Rattle.bitcask.proofs.keydir.PlaceLaws.{place_at, place-before}
use Rattle.bitcask.specs.declared.answers.Bound.{Bound}
use Rattle.bitcask.specs.declared.answers.Bound.TheVariants.{Included, Excluded, Unbounded}
use Rattle.bitcask.specs.read.Ranks.{before_at, below, upto, from_bound, upto_bound}

module _ (log key t : List ℕ) (n : ℕ) (f : Result ℕ ℕ) (says : f ≡ place_of log key (slots_of n t)) where
  module _ (i : ℕ) where
    pub found_at : f ≡ Ok i → i < n
    found_at e = omega (arith, slots_length n t, place_at log key (slots_of n t) i (sym says ∙ e))

    found_before : f ≡ Err i → i ≤ n
    found_before e = omega (arith, slots_length n t, place-before log key (slots_of n t) i (sym says ∙ e))

    pub below_at : f ≡ Ok i → (i ≡ below log key (slots_of n t)) × (i ≤ n)
    unfolding below
    below_at e = let h = found_at e in (rw (← says, e), omega arith)

    pub below-before : f ≡ Err i → (i ≡ below log key (slots_of n t)) × (i ≤ n)
    unfolding below
    below-before e = (rw (← says, e), found_before e)

    pub upto-at : f ≡ Ok i → (i + 1 ≡ upto log key (slots_of n t)) × (i + 1 ≤ n)
    unfolding upto
    upto-at e = let h = found_at e in (rw (← says, e), omega arith)

    pub upto_before : f ≡ Err i → (i ≡ upto log key (slots_of n t)) × (i ≤ n)
    unfolding upto
    upto_before e = (rw (← says, e), found_before e)

pub below_says : (log key t : List ℕ) (n : ℕ) (f : Result ℕ ℕ) → f ≡ place_of log key (slots_of n t) → {r : ℕ} → r ≡ before_at f → (r ≡ below log key (slots_of n t)) × (r ≤ n)
below_says log key t n (Ok i) e q = rw q (below_at log key t n (Ok i) e i refl)
below_says log key t n (Err i) e q = rw q (below-before log key t n (Err i) e i refl)

-- a bound is the rank that it names
module _ (b : Bound) (log key : List ℕ) (ss : List Slot) (n r : ℕ) where
  pub from_included : b ≡ Included → (r ≡ below log key ss) × (r ≤ n) → (r ≡ from_bound b log key ss) × (r ≤ n)
  from_included e w = (rw e w.0, w.1)

  pub from_excluded : b ≡ Excluded → (r ≡ upto log key ss) × (r ≤ n) → (r ≡ from_bound b log key ss) × (r ≤ n)
  from_excluded e w = (rw e w.0, w.1)

  pub end_included : b ≡ Included → (r ≡ upto log key ss) × (r ≤ n) → (r ≡ upto_bound b log key ss) × (r ≤ n)
  end_included e w = (rw e w.0, w.1)

  pub end_excluded : b ≡ Excluded → (r ≡ below log key ss) × (r ≤ n) → (r ≡ upto_bound b log key ss) × (r ≤ n)
  end_excluded e w = (rw e w.0, w.1)

pub from_unbounded : (b : Bound) (log key : List ℕ) (ss : List Slot) (n : ℕ) → b ≡ Unbounded → (0 ≡ from_bound b log key ss) × (0 ≤ n)
from_unbounded b log key ss n e = (rw e, omega arith)

pub end_unbounded : (b : Bound) (log key t : List ℕ) (n : ℕ) → b ≡ Unbounded → (n ≡ upto_bound b log key (slots_of n t)) × (n ≤ n)
end_unbounded b log key t n e = (rw e (sym (slots_length n t)), omega arith)
