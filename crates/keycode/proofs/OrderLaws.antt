-- Laws of the order of bytes: that it is the order of std, and that it is total. Assumes nothing.
use Prim.Native.Nat.{ℕ, zero, suc, ◌<◌, min}
use mathlib.Core.Path.{◌≡◌, refl, sym, ap, ap₂, ◌∙◌}
use mathlib.Core.Logic.{◌⊎◌, inl, inr}
use mathlib.Core.List.{List, [], ◌∷◌}
use native.Mathlib.Nat.{le_of_lt, le_of_eq}
use native.Mathlib.Omega.{arith}
use lib.Dec.{ltb}
use lib.ListN.{length, take}
use borrow.Author.Tests.{lt-ltb, le-ltb, eq-eqb, ne_eqb}
use Rattle.std.proofs.Common.{nat_cmp}
use Rattle.std.specs.Cmp.Lexicographic.{slice_cmp}
use Rattle.std.specs.Ordering.{ordering_then}
use Rattle.keycode.specs.Tests.{pick}
use Rattle.std.specs.declared.cmp.Ordering.{Ordering}
use Rattle.std.specs.declared.cmp.Ordering.TheVariants.{Less, Equal, Greater}
use Rattle.keycode.specs.Order.{compare_bytes, compare_nat, and_then}
use Rattle.keycode.proofs.Basics.{nope, Ordered, below, same, above, ordered}

-- ---- numbers

pub nat_less : (x y : ℕ) → x < y → compare_nat x y ≡ Less
unfolding compare_nat
nat_less x y h = simp (lt-ltb x y h)

pub nat_greater : (x y : ℕ) → y < x → compare_nat x y ≡ Greater
unfolding compare_nat
nat_greater x y h = simp (le-ltb x y (le_of_lt h), lt-ltb y x h)

pub nat_equal : (x y : ℕ) → x ≡ y → compare_nat x y ≡ Equal
unfolding compare_nat
nat_equal x y e = simp (le-ltb x y (le_of_eq (sym e)), le-ltb y x (le_of_eq e))

pub and_then_assoc : (a b c : Ordering) → and_then (and_then a b) c ≡ and_then a (and_then b c)
and_then_assoc Less b c = refl
and_then_assoc Equal b c = refl
and_then_assoc Greater b c = refl

pub and_then_equal : (a : Ordering) → and_then a Equal ≡ a
and_then_equal Less = refl
and_then_equal Equal = refl
and_then_equal Greater = refl

-- two numbers that differ decide, whatever follows
pub nat_decides : (x y : ℕ) (o : Ordering) → (x ≡ y → ⊥) → and_then (compare_nat x y) o ≡ compare_nat x y
nat_decides x y o n = go (ordered x y)
  where
    go : Ordered x y → and_then (compare_nat x y) o ≡ compare_nat x y
    go (below h) = rw (nat_less x y h)
    go (same e) = absurd (n e)
    go (above h) = rw (nat_greater x y h)

-- ---- the order of std is this one

pub nat_same : (x y : ℕ) → nat_cmp x y ≡ compare_nat x y
unfolding compare_nat
nat_same x y = go (ordered x y)
  where
    go : Ordered x y → nat_cmp x y ≡ pick (ltb x y) Less (pick (ltb y x) Greater Equal)
    go (below h) = rw (lt-ltb x y h)
    go (same e) = rw (e, le-ltb y y (omega arith), eq-eqb y y refl)
    go (above h) = rw (le-ltb x y (le_of_lt h), lt-ltb y x h, ne_eqb x y (λ e. omega arith))

pub then_same : (a b : Ordering) → ordering_then a b ≡ and_then a b
then_same Less b = refl
then_same Equal b = refl
then_same Greater b = refl

pub slice_same : (a b : List ℕ) → slice_cmp nat_cmp a b ≡ compare_bytes a b
unfolding compare_bytes
slice_same [] [] = refl
slice_same [] (y ∷ b) = refl
slice_same (x ∷ a) [] = refl
slice_same (x ∷ a) (y ∷ b) = then_same (nat_cmp x y) (slice_cmp nat_cmp a b) ∙ ap₂ and_then (nat_same x y) (slice_same a b)

-- ---- both cut where the shorter ends, and then by their lengths

nat_more : (x y : ℕ) → compare_nat (suc x) (suc y) ≡ compare_nat x y
nat_more x y = go (ordered x y)
  where
    go : Ordered x y → compare_nat (suc x) (suc y) ≡ compare_nat x y
    go (below h) = nat_less (suc x) (suc y) (omega arith) ∙ sym (nat_less x y h)
    go (same e) = nat_equal (suc x) (suc y) (omega arith) ∙ sym (nat_equal x y e)
    go (above h) = nat_greater (suc x) (suc y) (omega arith) ∙ sym (nat_greater x y h)

pub compare_cut : (a b : List ℕ) (n : ℕ) → n ≡ min (length a) (length b) → compare_bytes a b ≡ and_then (compare_bytes (take n a) (take n b)) (compare_nat (length a) (length b))
unfolding compare_bytes
compare_cut a b zero e = empty a b (omega arith)
  where
    empty : (a b : List ℕ) → min (length a) (length b) ≡ 0 → compare_bytes a b ≡ compare_nat (length a) (length b)
    empty [] [] e = sym (nat_equal 0 0 refl)
    empty [] (y ∷ b) e = sym (nat_less 0 (suc (length b)) (omega arith))
    empty (x ∷ a) [] e = sym (nat_greater (suc (length a)) 0 (omega arith))
    empty (x ∷ a) (y ∷ b) e = absurd (omega arith)
compare_cut [] b (suc n) e = absurd (omega arith)
compare_cut (x ∷ a) [] (suc n) e = absurd (omega arith)
compare_cut (x ∷ a) (y ∷ b) (suc n) e =
    ap (and_then (compare_nat x y)) (compare_cut a b n (omega arith) ∙ ap (and_then (compare_bytes (take n a) (take n b))) (sym (nat_more (length a) (length b))))
    ∙ sym (and_then_assoc (compare_nat x y) (compare_bytes (take n a) (take n b)) (compare_nat (suc (length a)) (suc (length b))))

-- ---- the order is total

abbrev pub flip : Ordering → Ordering
flip Less = Greater
flip Equal = Equal
flip Greater = Less

flip_then : (a b : Ordering) → flip (and_then a b) ≡ and_then (flip a) (flip b)
flip_then Less b = refl
flip_then Equal b = refl
flip_then Greater b = refl

nat_flip : (x y : ℕ) → compare_nat y x ≡ flip (compare_nat x y)
nat_flip x y = go (ordered x y)
  where
    go : Ordered x y → compare_nat y x ≡ flip (compare_nat x y)
    go (below h) = nat_greater y x h ∙ rw (nat_less x y h)
    go (same e) = nat_equal y x (sym e) ∙ rw (nat_equal x y e)
    go (above h) = nat_less y x h ∙ rw (nat_greater x y h)

-- the other way round
pub compare_flip : (a b : List ℕ) → compare_bytes b a ≡ flip (compare_bytes a b)
unfolding compare_bytes
compare_flip [] [] = refl
compare_flip [] (y ∷ b) = refl
compare_flip (x ∷ a) [] = refl
compare_flip (x ∷ a) (y ∷ b) = rw (nat_flip x y, compare_flip a b) (sym (flip_then (compare_nat x y) (compare_bytes a b)))

pub same_head : (x : ℕ) (a b : List ℕ) → compare_bytes (x ∷ a) (x ∷ b) ≡ compare_bytes a b
unfolding compare_bytes
same_head x a b = rw (nat_equal x x refl)

pub compare_refl : (a : List ℕ) → compare_bytes a a ≡ Equal
compare_refl [] = unfold compare_bytes in refl
compare_refl (x ∷ a) = same_head x a a ∙ compare_refl a

-- what a head and a tail say together
pub less_cases : (x y : ℕ) (o : Ordering) → and_then (compare_nat x y) o ≡ Less → (x < y) ⊎ ((x ≡ y) × (o ≡ Less))
less_cases x y o e = go (ordered x y)
  where
    go : Ordered x y → (x < y) ⊎ ((x ≡ y) × (o ≡ Less))
    go (below h) = inl h
    go (same f) = inr (f, rw (nat_equal x y f) at e)
    go (above h) = let k : Greater ≡ Less = rw (nat_greater x y h) at e in nope (cc)

pub compare_equal : (a b : List ℕ) → compare_bytes a b ≡ Equal → a ≡ b
unfolding compare_bytes
compare_equal [] [] e = refl
compare_equal [] (y ∷ b) e = nope (cc)
compare_equal (x ∷ a) [] e = nope (cc)
compare_equal (x ∷ a) (y ∷ b) e = go (ordered x y) (λ f. compare_equal a b f)
  where
    go : Ordered x y → (compare_bytes a b ≡ Equal → a ≡ b) → x ∷ a ≡ y ∷ b
    go (below h) ih = let k : Less ≡ Equal = rw (nat_less x y h) at e in nope (cc)
    go (same f) ih = let t : a ≡ b = ih (rw (nat_equal x y f) at e) in cc
    go (above h) ih = let k : Greater ≡ Equal = rw (nat_greater x y h) at e in nope (cc)

pub head_less : (x y : ℕ) (o : Ordering) → x < y → and_then (compare_nat x y) o ≡ Less
head_less x y o h = rw (nat_less x y h)

tail_less : (x y : ℕ) (o : Ordering) → x ≡ y → o ≡ Less → and_then (compare_nat x y) o ≡ Less
tail_less x y o e h = rw (nat_equal x y e, h)

pub compare_trans : (a b c : List ℕ) → compare_bytes a b ≡ Less → compare_bytes b c ≡ Less → compare_bytes a c ≡ Less
unfolding compare_bytes
compare_trans [] [] c e f = nope (cc)
compare_trans [] (y ∷ b) [] e f = nope (cc)
compare_trans [] (y ∷ b) (w ∷ c) e f = refl
compare_trans (x ∷ a) [] c e f = nope (cc)
compare_trans (x ∷ a) (y ∷ b) [] e f = nope (cc)
compare_trans (x ∷ a) (y ∷ b) (w ∷ c) e f = go (less_cases x y (compare_bytes a b) e) (less_cases y w (compare_bytes b c) f) (λ p q. compare_trans a b c p q)
  where
    go : (x < y) ⊎ ((x ≡ y) × (compare_bytes a b ≡ Less)) → (y < w) ⊎ ((y ≡ w) × (compare_bytes b c ≡ Less)) → (compare_bytes a b ≡ Less → compare_bytes b c ≡ Less → compare_bytes a c ≡ Less)
        → and_then (compare_nat x w) (compare_bytes a c) ≡ Less
    go (inl p) (inl q) ih = head_less x w _ (omega arith)
    go (inl p) (inr q) ih = head_less x w _ (omega (arith, q.0))
    go (inr p) (inl q) ih = head_less x w _ (omega (arith, p.0))
    go (inr p) (inr q) ih = tail_less x w _ (p.0 ∙ q.0) (ih p.1 q.1)
