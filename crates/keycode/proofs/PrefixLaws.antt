-- A string of bytes lies in a prefix's range just where it begins with the prefix, and an escaped string begins with the escaped prefix
-- just where the string begins with the prefix. Assumes nothing.
use Prim.Native.Nat.{ℕ, zero, suc, ◌+◌, ◌≤◌, ◌<◌}
use mathlib.Core.Path.{◌≡◌, refl, sym, ap, ◌∙◌}
use mathlib.Core.Bool.{Bool, true, false}
use mathlib.Core.Logic.{⊎_elim}
use mathlib.Core.List.{List, [], ◌∷◌, ◌++◌, append_assoc}
use native.Mathlib.Omega.{arith}
use native.Mathlib.Numerals.{add-one}
use lib.ListN.{length, take, get_or}
use lib.Dec.{ltb}
use borrow.Author.Tests.{ltb-false, lt-ltb, le-ltb}
use Rattle.std.specs.declared.cmp.Ordering.TheVariants.{Less, Greater}
use Rattle.keycode.specs.declared.prefix.End.{End}
use Rattle.std.specs.Prelude.{Option, Some, None}
use Rattle.keycode.specs.Tests.{pick}
use Rattle.keycode.specs.Order.{compare_bytes}
use Rattle.keycode.specs.Strings.{escape_byte, escape_body, escape}
use Rattle.keycode.specs.Prefix.{in_front, prefix_end, Under}
use Rattle.keycode.proofs.Basics.{nope, Ordered, below, same, above, ordered}
use Rattle.keycode.proofs.OrderLaws.{nat_equal, nat_greater, same_head, less_cases, head_less}
use Rattle.keycode.proofs.NumberLaws.{Bytes}

-- the first `keep` bytes of a prefix and then the byte `last`
abbrev ending : ℕ → ℕ → End
ending k l = record { keep = k; last = l }

-- ---- what begins with the prefix is in its range

pub begins_least : (p t : List ℕ) → compare_bytes (p ++ t) p ≡ Less → ⊥
unfolding compare_bytes
begins_least [] [] e = nope (cc)
begins_least [] (y ∷ t) e = nope (cc)
begins_least (x ∷ p) t e = begins_least p t (sym (same_head x (p ++ t) p) ∙ e)

under_front : (x : ℕ) (k p : List ℕ) (u : Option End) → Under k p u → Under (x ∷ k) (x ∷ p) (in_front x u)
unfolding in_front
under_front x k p (Some e) h = same_head x k (take e.keep p ++ (e.last ∷ [])) ∙ h
under_front x k p None h = go (ltb x 255)
  where
    go : (b : Bool) → Under (x ∷ k) (x ∷ p) (pick b (Some (ending 0 (suc x))) None)
    go true = unfold compare_bytes in head_less x (suc x) (compare_bytes k []) (omega arith)
    go false = tt

pub begins_under : (p t : List ℕ) → Under (p ++ t) p (prefix_end p)
unfolding prefix_end
begins_under [] t = tt
begins_under (x ∷ p) t = under_front x (p ++ t) p (prefix_end p) (begins_under p t)

-- ---- what is in the range begins with the prefix

not_before_none : (k : List ℕ) → compare_bytes k [] ≡ Less → ⊥
unfolding compare_bytes
not_before_none [] e = nope (cc)
not_before_none (x ∷ k) e = nope (cc)

cons_both : (y x : ℕ) (a b : List ℕ) → y ≡ x → a ≡ b → y ∷ a ≡ x ∷ b
cons_both y x a b e f = cc

-- the heads agree, and the tails are in the range of the tail
head_of : (x y : ℕ) (p k : List ℕ) (u : Option End) → y < 256 → (compare_bytes (y ∷ k) (x ∷ p) ≡ Less → ⊥) → Under (y ∷ k) (x ∷ p) (in_front x u)
    → (y ≡ x) × ((compare_bytes k p ≡ Less → ⊥) × Under k p u)
unfolding compare_bytes in_front
head_of x y p k u b l h = go u h (ordered y x)
  where
    tails : y ≡ x → compare_bytes k p ≡ Less → ⊥
    tails e q = l (rw (nat_equal y x e) q)

    raised : x < y → (t : Bool) → ltb x 255 ≡ t → Under (y ∷ k) (x ∷ p) (pick t (Some (ending 0 (suc x))) None) → ⊥
    raised q true f r = ⊎_elim (λ n. omega arith) (λ n. not_before_none k n.1) (less_cases y (suc x) (compare_bytes k []) r)
    raised q false f r = omega (arith, ltb-false x 255 f)

    go : (v : Option End) → Under (y ∷ k) (x ∷ p) (in_front x v) → Ordered y x → (y ≡ x) × ((compare_bytes k p ≡ Less → ⊥) × Under k p v)
    go v g (below q) = absurd (l (head_less y x (compare_bytes k p) q))
    go (Some e) g (same q) = (q, (tails q, rw (nat_equal y x q) at g))
    go None g (same q) = (q, (tails q, tt))
    go (Some e) g (above q) = let z : Greater ≡ Less = rw (nat_greater y x q) at g in nope (cc)
    go None g (above q) = absurd (raised q (ltb x 255) refl g)

pub range_begins : (p k : List ℕ) → Bytes k → (compare_bytes k p ≡ Less → ⊥) → Under k p (prefix_end p) → (t : List ℕ) × (k ≡ p ++ t)
unfolding prefix_end
range_begins [] k b l h = (k, refl)
range_begins (x ∷ p) [] b l h = absurd (l (unfold compare_bytes in refl))
range_begins (x ∷ p) (y ∷ k) b l h =
    let a = head_of x y p k (prefix_end p) (b 0) l h in
    let r = range_begins p k (λ i. b (suc i)) a.1.0 a.1.1 in
    (r.0, cons_both y x k (p ++ r.0) a.0 r.1)

-- ---- by the place of the last byte that is not ff, as the code finds it

pub end_none : (p : List ℕ) → ((k : ℕ) → k < length p → get_or p k 0 < 255 → ⊥) → None ≡ prefix_end p
unfolding prefix_end in_front
end_none [] f = refl
end_none (x ∷ p) f = let g : 255 ≤ x = omega (arith, f 0) in rw (← end_none p (λ k h. f (suc k) (omega arith)), le-ltb x 255 g)

pub end_found : (p : List ℕ) (i : ℕ) → i < length p → get_or p i 0 < 255 → ((k : ℕ) → i + 1 ≤ k → k < length p → get_or p k 0 < 255 → ⊥) → Some (ending i (get_or p i 0 + 1)) ≡ prefix_end p
unfolding prefix_end in_front
end_found [] i h l f = absurd (omega arith)
end_found (x ∷ p) zero h l f = rw (← end_none p (λ k g. f (suc k) (omega arith) (omega arith)), lt-ltb x 255 l, add-one)
end_found (x ∷ p) (suc i) h l f = rw (← end_found p i (omega arith) l (λ k g m. f (suc k) (omega arith) (omega arith)))

-- ---- a user prefix

pub body_append : (xs ys : List ℕ) → escape_body (xs ++ ys) ≡ escape_body xs ++ escape_body ys
unfolding escape_body
body_append [] ys = refl
body_append (x ∷ xs) ys = rw (body_append xs ys, append_assoc)

-- a string's escaped bytes, whatever follows them, begin with those of a string that it begins with
pub prefix_escaped : (p w t : List ℕ) → escape (p ++ w) ++ t ≡ escape_body p ++ (escape w ++ t)
unfolding escape
prefix_escaped p w t = simp (body_append, append_assoc)

-- and of no other
pub prefix_unescaped : (p s t u : List ℕ) → escape_body p ++ u ≡ escape s ++ t → (w : List ℕ) × (s ≡ p ++ w)
unfolding escape escape_body escape_byte
prefix_unescaped [] s t u e = (s, refl)
prefix_unescaped (zero ∷ p) [] t u e = let z : ◌≡◌ {A = ℕ} 255 0 = cc in absurd (omega arith)
prefix_unescaped (suc x ∷ p) [] t u e = let z : suc x ≡ 0 = cc in absurd (omega arith)
prefix_unescaped (zero ∷ p) (zero ∷ s) t u e = let q = prefix_unescaped p s t u (cc) in (q.0, ap (λ (r : List ℕ). 0 ∷ r) q.1)
prefix_unescaped (zero ∷ p) (suc y ∷ s) t u e = let z : 0 ≡ suc y = cc in absurd (omega arith)
prefix_unescaped (suc x ∷ p) (zero ∷ s) t u e = let z : suc x ≡ 0 = cc in absurd (omega arith)
prefix_unescaped (suc x ∷ p) (suc y ∷ s) t u e =
    let q = prefix_unescaped p s t u (cc) in
    let f : suc y ≡ suc x = cc in
    (q.0, cons_both (suc y) (suc x) s (p ++ q.0) f q.1)
