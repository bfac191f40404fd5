-- Laws of eight bytes taken at once: the number that they are, and that strings sort by the numbers of their first bytes and then by
-- what follows. Assumes nothing.
use Prim.Native.Nat.{ℕ, zero, suc, ◌+◌, ◌*◌, ◌/◌, ◌^◌, ◌≤◌, ◌<◌, min}
use mathlib.Core.Path.{◌≡◌, refl, sym, ap, ap₂, ◌∙◌}
use mathlib.Core.List.{List, [], ◌∷◌, ◌++◌}
use native.Mathlib.Omega.{arith}
use lib.ListN.{length, take, drop, get_or, length-drop, take-append-drop}
use lib.Seq.{drop-drop, length-take-le}
use Rattle.std.proofs.Common.{w64}
use Rattle.std.specs.Int.{from_be_bytes}
use Rattle.std.specs.Simd.{first_chunks}
use Rattle.keycode.specs.Number.{be, num, num_from}
use Rattle.keycode.specs.Order.{compare_nat, compare_bytes, and_then}
use Rattle.keycode.proofs.OrderLaws.{nat_equal, nat_decides}
use Rattle.keycode.proofs.NumberLaws.{Bytes, bytes_take, bytes_drop, num-bound, be-num, compare_be}

-- ---- eight bytes as a number

pub eight_is : (r : List ℕ) → length r ≡ 8 → from_be_bytes w64 r ≡ num r
unfolding num num_from
eight_is [] l = absurd (omega arith)
eight_is (a ∷ []) l = absurd (omega arith)
eight_is (a ∷ b ∷ []) l = absurd (omega arith)
eight_is (a ∷ b ∷ c ∷ []) l = absurd (omega arith)
eight_is (a ∷ b ∷ c ∷ d ∷ []) l = absurd (omega arith)
eight_is (a ∷ b ∷ c ∷ d ∷ e ∷ []) l = absurd (omega arith)
eight_is (a ∷ b ∷ c ∷ d ∷ e ∷ f ∷ []) l = absurd (omega arith)
eight_is (a ∷ b ∷ c ∷ d ∷ e ∷ f ∷ g ∷ []) l = absurd (omega arith)
eight_is (a ∷ b ∷ c ∷ d ∷ e ∷ f ∷ g ∷ h ∷ []) l = omega arith
eight_is (a ∷ b ∷ c ∷ d ∷ e ∷ f ∷ g ∷ h ∷ i ∷ r) l = absurd (omega arith)

-- the eights of a string, at index i
pub eight_of : (k : ℕ) (xs : List ℕ) (i : ℕ) (d : List ℕ) → i < k → get_or (first_chunks 8 k xs) i d ≡ take 8 (drop (i * 8) xs)
eight_of zero xs i d h = absurd (omega arith)
eight_of (suc k) xs zero d h = refl
eight_of (suc k) xs (suc i) d h = let e : suc i * 8 ≡ 8 + i * 8 = omega arith in eight_of k (drop 8 xs) i d (omega arith) ∙ rw (e, drop-drop (i * 8) 8 xs)

-- ---- the order of strings that have k bytes each

bound : (k : ℕ) (a : List ℕ) → Bytes a → k ≤ length a → num (take k a) < 256 ^ k
bound k a p h = rw (length-take-le k a h) at (num-bound (take k a) (bytes_take k a p))

split : (k : ℕ) (a : List ℕ) → Bytes a → k ≤ length a → a ≡ be k (num (take k a)) ++ drop k a
split k a p h =
    let e : be k (num (take k a)) ≡ take k a = rw (length-take-le k a h) at (be-num (take k a) (bytes_take k a p)) in
    sym (ap (λ (x : List ℕ). x ++ drop k a) e ∙ take-append-drop k a)

pub compare_front : (k : ℕ) (a b : List ℕ) → Bytes a → Bytes b → k ≤ length a → k ≤ length b
    → compare_bytes a b ≡ and_then (compare_nat (num (take k a)) (num (take k b))) (compare_bytes (drop k a) (drop k b))
compare_front k a b p q h g =
    let v : ℕ = num (take k a) in
    let w : ℕ = num (take k b) in
    ap₂ (λ (x y : List ℕ). compare_bytes x y) (split k a p h) (split k b q g)
    ∙ compare_be k v w (drop k a) (drop k b) (bound k a p h) (bound k b q g)

-- ---- the loop that compares, at the eights of index i of both

abbrev pub eights : List ℕ → List (List ℕ)
eights a = first_chunks 8 (length a / 8) a

module _ (s t : List ℕ) (y : Bytes s) (z : Bytes t) (n : ℕ) (least : n ≡ min (length s) (length t)) (i : ℕ) {ks vs : List (List ℕ)} (h : i < length ks) (l : length ks ≡ length (take n s) / 8)
    (ek : ks ≡ eights (take n s)) (el : vs ≡ eights (take n t)) {p q : List ℕ} (ep : p ≡ get_or ks i []) (eq : q ≡ get_or vs i []) {v w : ℕ} (ev : v ≡ from_be_bytes w64 p) (ew : w ≡ from_be_bytes w64 q) where
  abbrev a : List ℕ
  a = take n s

  abbrev b : List ℕ
  b = take n t

  eights_at : compare_bytes (drop (i * 8) a) (drop (i * 8) b) ≡ and_then (compare_nat v w) (compare_bytes (drop ((i + 1) * 8) a) (drop ((i + 1) * 8) b))
  eights_at =
      let la : length a ≡ n = length-take-le n s (omega arith) in
      let lb : length b ≡ n = length-take-le n t (omega arith) in
      let m : 8 ≤ length (drop (i * 8) a) = rw (length-drop (i * 8) a) (omega arith) in
      let o : 8 ≤ length (drop (i * 8) b) = rw (length-drop (i * 8) b) (omega arith) in
      let start : p ≡ take 8 (drop (i * 8) a) = ep ∙ ap (λ (x : List (List ℕ)). get_or x i []) ek ∙ eight_of (length a / 8) a i [] (omega arith) in
      let other : q ≡ take 8 (drop (i * 8) b) = eq ∙ ap (λ (x : List (List ℕ)). get_or x i []) el ∙ eight_of (length b / 8) b i [] (omega arith) in
      let e : v ≡ num (take 8 (drop (i * 8) a)) = ev ∙ rw start (eight_is (take 8 (drop (i * 8) a)) (length-take-le 8 (drop (i * 8) a) m)) in
      let f : w ≡ num (take 8 (drop (i * 8) b)) = ew ∙ rw other (eight_is (take 8 (drop (i * 8) b)) (length-take-le 8 (drop (i * 8) b) o)) in
      let j : (i + 1) * 8 ≡ i * 8 + 8 = omega arith in
      compare_front 8 (drop (i * 8) a) (drop (i * 8) b) (bytes_drop (i * 8) a (bytes_take n s y)) (bytes_drop (i * 8) b (bytes_take n t z)) m o
      ∙ rw (e, f, j, drop-drop 8 (i * 8) a, drop-drop 8 (i * 8) b)

  pub eights_decide : (v ≡ w → ⊥) → compare_bytes (drop (i * 8) a) (drop (i * 8) b) ≡ compare_nat v w
  eights_decide d = eights_at ∙ nat_decides v w _ d

  pub eights_same : v ≡ w → compare_bytes (drop (i * 8) a) (drop (i * 8) b) ≡ compare_bytes (drop ((i + 1) * 8) a) (drop ((i + 1) * 8) b)
  eights_same e = eights_at ∙ rw (nat_equal v w e)
