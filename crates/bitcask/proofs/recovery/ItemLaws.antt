-- Laws of the entries of a log, one after the other. Two of them, items-stop and items-next, hide the counter. Assumes nothing.
use Prim.Native.Nat.{ℕ, zero, suc, ◌+◌, ◌-◌, ◌≤◌, ◌<◌}
use mathlib.Core.Path.{◌≡◌, refl, sym, ap, ◌∙◌, subst}
use mathlib.Core.Bool.{true, false}
use Rattle.std.specs.Prelude.{Option, None, Some}
use mathlib.Core.List.{List, [], ◌∷◌, ◌++◌}
use native.Mathlib.Omega.{arith}
use lib.ListN.{take}
use Rattle.keycode.proofs.Basics.{nope}
use Rattle.bitcask.specs.declared.entry.read.Lengths.{Lengths}
use Rattle.bitcask.specs.declared.entry.read.Lengths.TheVariants.{Set, Del}
use Rattle.bitcask.specs.entry.Reading.{entry_at}
use Rattle.bitcask.proofs.entry.ReadingLaws.{entry-short, entry-says, entry-again}
use Rattle.bitcask.specs.recovery.Recover.{Item, item_of, next, and_on, items_of, items, ends}

-- an entry stands at an offset, and ends within the used length
pub record Stands (used at : ℕ) (i : Item) : Type 0 where
  pub here : i.slot.place ≡ at + 1
  pub far : at + 8 ≤ next i
  pub near : next i ≤ used

read_stands : (log : List ℕ) (used at : ℕ) (i : Item) (r : Option Lengths) → entry_at log used at ≡ r → item_of r at ≡ Some i → Stands used at i
read_stands log used at i (Some (Set k v)) e q =
    let w = entry-says log used at e (λ z. nope (cc)) in
    let p : record { slot = record { place = at + 1; klen = k; vlen = v }; gone = false } ≡ i = cc in
    subst (λ (x : Item). Stands used at x) p (record { here = omega arith; far = omega arith; near = omega (arith, w.1) })
read_stands log used at i (Some (Del k)) e q =
    let w = entry-says log used at e (λ z. nope (cc)) in
    let p : record { slot = record { place = at + 1; klen = k; vlen = 0 }; gone = true } ≡ i = cc in
    subst (λ (x : Item). Stands used at x) p (record { here = omega arith; far = omega arith; near = omega (arith, w.1) })
read_stands log used at i None e q = nope (cc)

module _ (log : List ℕ) (used at : ℕ) where
  pub item_stands : (i : Item) → item_of (entry_at log used at) at ≡ Some i → Stands used at i
  item_stands i e = read_stands log used at i (entry_at log used at) refl e

  pub item_none : used < at + 8 → item_of (entry_at log used at) at ≡ None
  item_none h = rw (entry-short log used at h)

-- ---- the counter

on_same : (o : Option Item) (f g : ℕ → List Item) → ((i : Item) → o ≡ Some i → f (next i) ≡ g (next i)) → and_on o f ≡ and_on o g
on_same None f g h = refl
on_same (Some i) f g h = ap (λ (r : List Item). i ∷ r) (h i refl)

-- more than what is left of the log changes nothing
enough : (log : List ℕ) (used n m at : ℕ) → used - at ≤ n → used - at ≤ m → items_of n log used at ≡ items_of m log used at
unfolding items_of
enough log used zero zero at h k = refl
enough log used zero (suc m) at h k = sym (rw (item_none log used at (omega arith)))
enough log used (suc n) zero at h k = rw (item_none log used at (omega arith))
enough log used (suc n) (suc m) at h k =
    on_same (item_of (entry_at log used at) at) (λ x. items_of n log used x) (λ x. items_of m log used x)
    (λ i e. let r = item_stands log used at i e in enough log used n m (next i) (omega arith) (omega arith))

module _ (log : List ℕ) (used at : ℕ) where
  pub items-stop : item_of (entry_at log used at) at ≡ None → items log used at ≡ []
  unfolding items items_of
  items-stop e = enough log used (used - at) (suc (used - at)) at (omega arith) (omega arith) ∙ rw e

  pub items-next : (i : Item) → item_of (entry_at log used at) at ≡ Some i → items log used at ≡ i ∷ items log used (next i)
  unfolding items items_of
  items-next i e =
      let r = item_stands log used at i e in
      enough log used (used - at) (suc (used - at)) at (omega arith) (omega arith)
      ∙ rw e (ap (λ (x : List Item). i ∷ x) (enough log used (used - at) (used - next i) (next i) (omega arith) (omega arith)))

-- a fact of the offsets of a log's entries, from the last to the first
pub by_items : (log : List ℕ) (used : ℕ) (P : ℕ → Type 0)
    → ((at : ℕ) → item_of (entry_at log used at) at ≡ None → P at)
    → ((at : ℕ) (i : Item) → item_of (entry_at log used at) at ≡ Some i → P (next i) → P at) → (at : ℕ) → P at
by_items log used P over more at = go (used - at) at (omega arith)
  where
    on : (at : ℕ) (o : Option Item) → item_of (entry_at log used at) at ≡ o → ((i : Item) → o ≡ Some i → P (next i)) → P at
    on at None e ih = over at e
    on at (Some i) e ih = more at i e (ih i refl)

    go : (n at : ℕ) → used - at ≤ n → P at
    go zero at h = on at (item_of (entry_at log used at) at) refl (λ i e. let r = item_stands log used at i e in absurd (omega arith))
    go (suc n) at h = on at (item_of (entry_at log used at) at) refl (λ i e. let r = item_stands log used at i e in go n (next i) (omega arith))

-- ---- entries stand one after the other

pub data Chain (used : ℕ) : ℕ → List Item → Type 0 where
  chain_none : {at : ℕ} → Chain used at []
  chain_more : {at : ℕ} {i : Item} {is : List Item} → Stands used at i → Chain used (next i) is → Chain used at (i ∷ is)

pub items_chain : (log : List ℕ) (used at : ℕ) → Chain used at (items log used at)
items_chain log used at =
    by_items log used (λ (x : ℕ). Chain used x (items log used x))
    (λ x e. rw (items-stop log used x e) chain_none)
    (λ x i e c. rw (items-next log used x i e) (chain_more (item_stands log used x i e) c)) at

pub chain_ends : {used at : ℕ} {is : List Item} → Chain used at is → at ≤ used → ends at is ≤ used
unfolding ends
chain_ends chain_none h = h
chain_ends (chain_more r c) h = chain_ends c r.near

pub chain_far : {used at : ℕ} {is : List Item} → Chain used at is → at ≤ ends at is
unfolding ends
chain_far chain_none = omega arith
chain_far (chain_more r c) = let a = chain_far c in let b = r.far in omega arith

pub ends-append : (at : ℕ) (is js : List Item) → ends at (is ++ js) ≡ ends (ends at is) js
unfolding ends
ends-append at [] js = refl
ends-append at (i ∷ is) js = ends-append (next i) is js

-- ---- two logs that agree in the first `used` bytes

pub not_stop : (at : ℕ) (r : Option Lengths) (i : Item) → item_of r at ≡ Some i → r ≡ None → ⊥
not_stop at (Some (Set k v)) i e q = nope (cc)
not_stop at (Some (Del k)) i e q = nope (cc)
not_stop at None i e q = nope (cc)

module _ (log log' : List ℕ) (used used' : ℕ) (agree : take used log ≡ take used log') (more : used ≤ used') where
  -- what is whole stays the same entry where more bytes count
  pub item_again : (at : ℕ) (i : Item) → item_of (entry_at log used at) at ≡ Some i → item_of (entry_at log' used' at) at ≡ Some i
  item_again at i e = ap (λ (r : Option Lengths). item_of r at) (entry-again log log' used agree used' at more (not_stop at (entry_at log used at) i e)) ∙ e

  -- the entries of the longer log are those of the shorter, and those from where it ended
  pub items_extend : (at : ℕ) → items log' used' at ≡ items log used at ++ items log' used' (ends at (items log used at))
  unfolding ends
  items_extend at =
      by_items log used (λ (x : ℕ). items log' used' x ≡ items log used x ++ items log' used' (ends x (items log used x)))
      (λ x e. rw (items-stop log used x e))
      (λ x i e ih. rw (items-next log used x i e) (items-next log' used' x i (item_again x i e) ∙ ap (λ (l : List Item). i ∷ l) ih)) at
