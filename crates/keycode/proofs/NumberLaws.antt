-- Laws of numbers as big-endian bytes, for every width: bounds, the round trip both ways, the order, and the turns of the loops that
-- write and read one. Assumes nothing.
use Prim.Native.Nat.{ℕ, zero, suc, ◌+◌, ◌-◌, ◌*◌, ◌/◌, ◌%◌, ◌^◌, ◌≤◌, ◌<◌}
use mathlib.Core.Path.{◌≡◌, refl, ap, ◌∙◌}
use mathlib.Core.List.{List, [], ◌∷◌, ◌++◌}
use native.Mathlib.Nat.{add-zero, zero-add, add_assoc, add-mul, mul_assoc, mul-one, zero-mul, pow-zero, pow-succ', mod-lt, div-add-mod', mul-le-mul_right, one-le-pow, suc-mul, pow-suc, div-one, div-div-eq-div-mul, mod-eq_of_lt, pow-le-pow_right, lt_of_lt_of_le}
use native.Mathlib.Omega.{arith}
use native.Mathlib.Numerals.{add-one}
use lib.Arith.{digits_div, digits_mod, digits_lt, mod-mul}
use lib.Dec.{lit<}
use lib.ListN.{length, take, drop, get_or, set, length-set}
use lib.Seq.{take-suc, take_all, length-take-le}
use Rattle.keycode.specs.Number.{be, num, num_from}
use Rattle.keycode.specs.Buffer.{put}
use Rattle.keycode.specs.Order.{compare_nat, compare_bytes, and_then}
use Rattle.keycode.proofs.Basics.{Ordered, below, same, above, ordered}
use Rattle.keycode.proofs.BufferLaws.{put-none, put-before}
use Rattle.keycode.proofs.OrderLaws.{nat_less, nat_greater, nat_equal, and_then_assoc}

-- every element is a byte, as a slice's rule gives it
abbrev pub Bytes : List ℕ → Type 0
Bytes xs = (i : ℕ) → get_or xs i 0 < 256

pub bytes_take : (n : ℕ) (r : List ℕ) → Bytes r → Bytes (take n r)
bytes_take zero r b i = omega arith
bytes_take (suc n) [] b i = omega arith
bytes_take (suc n) (x ∷ r) b zero = b 0
bytes_take (suc n) (x ∷ r) b (suc i) = bytes_take n r (λ j. b (suc j)) i

pub bytes_drop : (n : ℕ) (r : List ℕ) → Bytes r → Bytes (drop n r)
bytes_drop zero r b i = b i
bytes_drop (suc n) [] b i = omega arith
bytes_drop (suc n) (x ∷ r) b i = bytes_drop n r (λ j. b (suc j)) i

pub length-be : (k v : ℕ) → length (be k v) ≡ k
unfolding be
length-be zero v = refl
length-be (suc k) v = ap suc (length-be k (v % 256 ^ k))

power_pos : (k : ℕ) → 0 < 256 ^ k
power_pos k = one-le-pow k 256 (lit< tt)

-- what was read before counts for as many places more
num-after : (a : ℕ) (xs : List ℕ) → num_from a xs ≡ a * 256 ^ length xs + num_from 0 xs
unfolding num_from
num-after a [] = simp (pow-zero, mul-one, add-zero)
num-after a (x ∷ xs) =
    num-after (a * 256 + x) xs
    ∙ rw (num-after (0 * 256 + x) xs)
    (simp (zero-mul, zero-add, pow-succ', add-mul, mul_assoc, add_assoc))

num_digits : (a k v : ℕ) → num_from (a * 256 + v / 256 ^ k) (be k (v % 256 ^ k)) ≡ (a * 256 + v / 256 ^ k) * 256 ^ k + v % 256 ^ k → num_from a (be (suc k) v) ≡ a * 256 ^ suc k + v
unfolding num_from be
num_digits a k v ih = ih ∙ simp (pow-succ', add-mul, mul_assoc, add_assoc, div-add-mod' v (256 ^ k))

num_from_be : (a k v : ℕ) → v < 256 ^ k → num_from a (be k v) ≡ a * 256 ^ k + v
unfolding num_from be
num_from_be a zero v h = simp (pow-zero, mul-one) (omega (arith, rw pow-zero at h))
num_from_be a (suc k) v h = num_digits a k v (num_from_be (a * 256 + v / 256 ^ k) k (v % 256 ^ k) (mod-lt v (power_pos k)))

-- a number's bytes are the number
pub num-be : (k v : ℕ) → v < 256 ^ k → num (be k v) ≡ v
unfolding num
num-be k v h = num_from_be 0 k v h ∙ simp (zero-mul, zero-add)

-- the first byte is not cut, so that one byte and more hold any number
pub num_any : (k v : ℕ) → num (be (suc k) v) ≡ v
unfolding num
num_any k v = num_digits 0 k v (num_from_be (0 * 256 + v / 256 ^ k) k (v % 256 ^ k) (mod-lt v (power_pos k))) ∙ simp (zero-mul, zero-add)

pub num-bound : (xs : List ℕ) → Bytes xs → num xs < 256 ^ length xs
unfolding num num_from
num-bound [] b = rw pow-zero (omega arith)
num-bound (x ∷ xs) b =
    rw (num-after (0 * 256 + x) xs, zero-mul, zero-add, pow-succ')
    (digits_lt (b 0) (num-bound xs (λ i. b (suc i))))

-- bytes are the bytes of the number that they are
pub be-num : (xs : List ℕ) → Bytes xs → be (length xs) (num xs) ≡ xs
unfolding num num_from be
be-num [] b = refl
be-num (x ∷ xs) b =
    let m = num-bound xs (λ i. b (suc i)) in
    rw (num-after (0 * 256 + x) xs, zero-mul, zero-add, digits_div x m, digits_mod x m, be-num xs (λ i. b (suc i)))

-- ---- the order of numbers is that of their bytes

module _ (m v w : ℕ) (p : 0 < m) where
  high_less : v / m < w / m → v < w
  high_less h = omega (arith, div-add-mod' v m, div-add-mod' w m, mod-lt v p, rw (suc-mul (v / m) m) at (mul-le-mul_right m h))

-- by the high part and then the low part
nat_digits : (m v w : ℕ) → 0 < m → compare_nat v w ≡ and_then (compare_nat (v / m) (w / m)) (compare_nat (v % m) (w % m))
nat_digits m v w p = go (ordered (v / m) (w / m)) (ordered (v % m) (w % m))
  where
    go : Ordered (v / m) (w / m) → Ordered (v % m) (w % m) → compare_nat v w ≡ and_then (compare_nat (v / m) (w / m)) (compare_nat (v % m) (w % m))
    go (below h) l = nat_less v w (high_less m v w p h) ∙ rw (nat_less (v / m) (w / m) h)
    go (above h) l = nat_greater v w (high_less m w v p h) ∙ rw (nat_greater (v / m) (w / m) h)
    go (same e) (below h) =
        let q : v / m * m ≡ w / m * m = ap (λ (x : ℕ). x * m) e in
        nat_less v w (omega (arith, div-add-mod' v m, div-add-mod' w m)) ∙ rw (nat_equal (v / m) (w / m) e, nat_less (v % m) (w % m) h)
    go (same e) (same f) =
        let q : v / m * m ≡ w / m * m = ap (λ (x : ℕ). x * m) e in
        nat_equal v w (omega (arith, div-add-mod' v m, div-add-mod' w m)) ∙ rw (nat_equal (v / m) (w / m) e, nat_equal (v % m) (w % m) f)
    go (same e) (above h) =
        let q : v / m * m ≡ w / m * m = ap (λ (x : ℕ). x * m) e in
        nat_greater v w (omega (arith, div-add-mod' v m, div-add-mod' w m)) ∙ rw (nat_equal (v / m) (w / m) e, nat_greater (v % m) (w % m) h)

-- a digit more, of any numbers: the first byte is not cut
compare_digit : (k v w : ℕ) (s t : List ℕ) → compare_bytes (be k (v % 256 ^ k) ++ s) (be k (w % 256 ^ k) ++ t) ≡ and_then (compare_nat (v % 256 ^ k) (w % 256 ^ k)) (compare_bytes s t)
    → compare_bytes (be (suc k) v ++ s) (be (suc k) w ++ t) ≡ and_then (compare_nat v w) (compare_bytes s t)
unfolding be compare_bytes
compare_digit k v w s t ih = rw (ih, nat_digits (256 ^ k) v w (power_pos k), and_then_assoc)

pub compare_be : (k v w : ℕ) (s t : List ℕ) → v < 256 ^ k → w < 256 ^ k → compare_bytes (be k v ++ s) (be k w ++ t) ≡ and_then (compare_nat v w) (compare_bytes s t)
unfolding be compare_bytes
compare_be zero v w s t h g = let e : v ≡ w = omega (arith, rw pow-zero at h, rw pow-zero at g) in rw (nat_equal v w e)
compare_be (suc k) v w s t h g = compare_digit k v w s t (compare_be k (v % 256 ^ k) (w % 256 ^ k) s t (mod-lt v (power_pos k)) (mod-lt w (power_pos k)))

-- one byte and more sort as any numbers do
pub compare_any : (k v w : ℕ) (s t : List ℕ) → compare_bytes (be (suc k) v ++ s) (be (suc k) w ++ t) ≡ and_then (compare_nat v w) (compare_bytes s t)
compare_any k v w s t = compare_digit k v w s t (compare_be k (v % 256 ^ k) (w % 256 ^ k) s t (mod-lt v (power_pos k)) (mod-lt w (power_pos k)))

-- ---- the loop that writes, from the last byte to the first

-- one digit more in front of the last j
be-more : (j v : ℕ) → be (suc j) (v % 256 ^ suc j) ≡ v / 256 ^ j % 256 ∷ be j (v % 256 ^ j)
unfolding be
be-more j v =
    let p = power_pos j in
    rw (pow-succ', mod-mul v {m = 256} {c = 256 ^ j} (lit< tt) p, digits_div (v / 256 ^ j % 256) (mod-lt v p), digits_mod (v / 256 ^ j % 256) (mod-lt v p))

-- what the loop has done before it writes byte i - 1: the bytes from i on are laid
pub record Digits (v width at : ℕ) (d out : List ℕ) (rest i : ℕ) : Type 0 where
  pub upto : i ≤ width
  pub left : rest ≡ v / 256 ^ (width - i)
  pub laid : out ≡ put d (at + i) (be (width - i) (v % 256 ^ (width - i)))
  pub long : length out ≡ length d

pub digits_start : (v width at : ℕ) (d : List ℕ) → Digits v width at d d v width
unfolding be
digits_start v width at d =
    let e : width - width ≡ 0 = omega arith in
    record { upto = omega arith; left = rw (e, pow-zero, div-one); laid = rw e (put-none d (at + width)); long = refl }

module _ {v width at : ℕ} {d out : List ℕ} {rest i : ℕ} (w : Digits v width at d out rest i) (fits : at + width ≤ length d) where
  pub digits_turn : 0 < i → Digits v width at d (set out (at + (i - 1)) (rest % 256)) (rest / 256) (i - 1)
  digits_turn h =
      let e : width - (i - 1) ≡ suc (width - i) = omega (arith, w.upto) in
      let f : at + i ≡ at + (i - 1) + 1 = omega arith in
      let l : length (be (width - i) (v % 256 ^ (width - i))) ≡ width - i = length-be (width - i) (v % 256 ^ (width - i)) in
      record {
        upto = omega (arith, w.upto);
        left = rw (w.left, e, pow-suc) (div-div-eq-div-mul v (256 ^ (width - i)) 256);
        laid =
            rw (w.left, e, be-more (width - i) v, w.laid, f)
            (put-before d (at + (i - 1)) (v / 256 ^ (width - i) % 256) (be (width - i) (v % 256 ^ (width - i))) (omega (arith, w.upto)));
        long = length-set out (at + (i - 1)) (rest % 256) ∙ w.long;
      }

  pub digits_end : v < 256 ^ width → i ≤ 0 → out ≡ put d at (be width v)
  digits_end s h =
      let e : i ≡ 0 = omega arith in
      let f : at + i ≡ at = omega arith in
      let g : width - i ≡ width = omega arith in
      w.laid ∙ rw (f, g, mod-eq_of_lt s)

-- ---- the loop that reads

num_snoc : (a : ℕ) (xs : List ℕ) (x : ℕ) → num_from a (xs ++ (x ∷ [])) ≡ num_from a xs * 256 + x
unfolding num_from
num_snoc a [] x = refl
num_snoc a (y ∷ xs) x = num_snoc (a * 256 + y) xs x

pub read_turn : (s : List ℕ) (n i x : ℕ) → i < length s → n ≡ num (take i s) → x ≡ get_or s i 0 → n * 256 + x ≡ num (take (i + 1) s)
unfolding num
read_turn s n i x h e f = rw (e, f, add-one, take-suc s i 0, num_snoc)

pub read_fits : (s : List ℕ) (n i : ℕ) → Bytes s → length s ≤ 8 → i < length s → n ≡ num (take i s) → n < 256 ^ 7
read_fits s n i b l h e =
    let k : length (take i s) ≡ i = length-take-le i s (omega arith) in
    rw e (lt_of_lt_of_le (num-bound (take i s) (bytes_take i s b)) (rw k (pow-le-pow_right (lit< tt) {i = i} {j = 7} (omega arith))))

pub read_all : (s : List ℕ) (n i : ℕ) → length s ≤ i → n ≡ num (take i s) → n ≡ num s
read_all s n i h e = rw (← take_all i s h) e
