-- A float's flipped pattern sorts by IEEE 754's totalOrder, and the flip is undone. Assumes nothing.
use Prim.Native.Nat.{ℕ, zero, suc, ◌+◌, ◌-◌, ◌*◌, ◌/◌, ◌%◌, ◌^◌, ◌≤◌, ◌<◌}
use mathlib.Core.Path.{◌≡◌, refl, sym, ap, ◌∙◌}
use mathlib.Core.Bool.{Bool, true, false}
use native.Mathlib.Nat.{add-mul, mul-le-mul_right, one-le-pow, suc-mul, pow-succ', pow-le-pow_right, div-add-mod', mod-lt}
use native.Mathlib.Decide.{dec_le, ℕ_discrete}
use native.Mathlib.Omega.{arith}
use lib.Dec.{leb, lit<}
use borrow.Author.Tests.{le-leb, lt-leb, eq-eqb, ne_eqb}
use Rattle.std.specs.declared.cmp.Ordering.{Ordering}
use Rattle.std.specs.declared.cmp.Ordering.TheVariants.{Less, Equal, Greater}
use Rattle.keycode.specs.Tests.{pick}
use Rattle.keycode.specs.Order.{compare_nat, and_then}
use Rattle.codecs.specs.Signs.{flipped, unflipped}
use Rattle.codecs.specs.Total.{finite, infinite, Datum, number, nan, negative, exponent, significand, scaled, datum_of, datum, compare_size, both_zero, total_order, compare_float}
use Rattle.keycode.proofs.Basics.{Ordered, below, same, above, ordered}
use Rattle.keycode.proofs.OrderLaws.{nat_less, nat_greater, nat_equal, and_then_equal}
use Rattle.codecs.proofs.CodecLaws.{Through}
use Rattle.codecs.proofs.SignLaws.{alike}

-- ---- the magnitudes of finite numbers sort by exponent, then significand

power_pos : (k : ℕ) → 0 < 2 ^ k
power_pos k = one-le-pow k 2 (lit< tt)

-- below the least magnitude of the next exponent
scaled_under : (e t : ℕ) → t < 2 ^ 52 → scaled e t < 2 ^ 52 * 2 ^ e
unfolding scaled
scaled_under zero t h = omega arith
scaled_under (suc e) t h =
    let m : suc t * 2 ^ e ≤ 2 ^ 52 * 2 ^ e = mul-le-mul_right (2 ^ e) h in
    rw (pow-succ' 2 e, add-mul (2 ^ 52) t (2 ^ e)) (omega (arith, rw (suc-mul t (2 ^ e)) at m, power_pos e))

scaled-over : (e t : ℕ) → 2 ^ 52 * 2 ^ e ≤ scaled (suc e) t
unfolding scaled
scaled-over e t = rw (add-mul (2 ^ 52) t (2 ^ e)) (omega arith)

scaled_raise : (e f t u : ℕ) → e < f → t < 2 ^ 52 → scaled e t < scaled f u
scaled_raise e zero t u h g = absurd (omega arith)
scaled_raise e (suc f) t u h g =
    let p : 2 ^ e ≤ 2 ^ f = pow-le-pow_right (lit< tt) (omega arith) in
    omega (arith, scaled_under e t g, scaled-over f u)

scaled-same : (e t u : ℕ) → t < u → scaled e t < scaled e u
unfolding scaled
scaled-same zero t u h = h
scaled-same (suc e) t u h =
    let m : suc t * 2 ^ e ≤ u * 2 ^ e = mul-le-mul_right (2 ^ e) h in
    rw (add-mul (2 ^ 52) t (2 ^ e), add-mul (2 ^ 52) u (2 ^ e)) (omega (arith, rw (suc-mul t (2 ^ e)) at m, power_pos e))

-- by the first part and then the second
abbrev by_both : ℕ → ℕ → ℕ → ℕ → Ordering
by_both e t f u = and_then (compare_nat e f) (compare_nat t u)

scaled_sorts : (e t f u : ℕ) → t < 2 ^ 52 → u < 2 ^ 52 → compare_nat (scaled e t) (scaled f u) ≡ by_both e t f u
scaled_sorts e t f u h g = go (ordered e f) (ordered t u)
  where
    go : Ordered e f → Ordered t u → compare_nat (scaled e t) (scaled f u) ≡ by_both e t f u
    go (below l) o = nat_less _ _ (scaled_raise e f t u l h) ∙ rw (nat_less e f l)
    go (above l) o = nat_greater _ _ (scaled_raise f e u t l g) ∙ rw (nat_greater e f l)
    go (same l) (below m) = rw (nat_equal e f l, nat_less t u m, l) (nat_less _ _ (scaled-same f t u m))
    go (same l) (same m) = rw (nat_equal e f l, nat_equal t u m, l, m) (nat_equal _ _ refl)
    go (same l) (above m) = rw (nat_equal e f l, nat_greater t u m, l) (nat_greater _ _ (scaled-same f u t m))

-- ---- the data of one sign sort by exponent, then significand

-- a number by its high part and then its low part
digits_sort : (m v w : ℕ) → 0 < m → compare_nat v w ≡ and_then (compare_nat (v / m) (w / m)) (compare_nat (v % m) (w % m))
digits_sort m v w p = go (ordered (v / m) (w / m))
  where
    less : (x y : ℕ) → x / m < y / m → x < y
    less x y h = omega (arith, div-add-mod' x m, div-add-mod' y m, mod-lt x p, rw (suc-mul (x / m) m) at (mul-le-mul_right m h))

    go : Ordered (v / m) (w / m) → compare_nat v w ≡ and_then (compare_nat (v / m) (w / m)) (compare_nat (v % m) (w % m))
    go (below h) = nat_less v w (less v w h) ∙ rw (nat_less (v / m) (w / m) h)
    go (above h) = nat_greater v w (less w v h) ∙ rw (nat_greater (v / m) (w / m) h)
    go (same e) =
        let q : v / m * m ≡ w / m * m = ap (λ (x : ℕ). x * m) e in
        rw (nat_equal (v / m) (w / m) e)
        (alike (v % m) (w % m) v w (λ h. omega (arith, div-add-mod' v m, div-add-mod' w m)) (λ h. omega (
          arith,
          div-add-mod' v m,
          div-add-mod' w m,
        )) (λ h. omega (arith, div-add-mod' v m, div-add-mod' w m)))

-- what a datum is
datum-finite : (e t : ℕ) → (e ≡ 2047 → ⊥) → datum_of e t ≡ number (finite (scaled e t))
unfolding datum_of
datum-finite e t n = rw (ne_eqb e 2047 n)

datum-infinite : (e t : ℕ) → e ≡ 2047 → t ≡ 0 → datum_of e t ≡ number infinite
unfolding datum_of
datum-infinite e t h g = rw (eq-eqb e 2047 h, eq-eqb t 0 g)

datum-nan : (e t : ℕ) → e ≡ 2047 → (t ≡ 0 → ⊥) → datum_of e t ≡ nan (t / 2 ^ 51) (t % 2 ^ 51)
unfolding datum_of
datum-nan e t h n = rw (eq-eqb e 2047 h, ne_eqb t 0 n)

positive_sorts : (e t f u : ℕ) → e ≤ 2047 → f ≤ 2047 → t < 2 ^ 52 → u < 2 ^ 52 → total_order false (datum_of e t) false (datum_of f u) ≡ by_both e t f u
unfolding total_order compare_size
positive_sorts e t f u le lf h g = go (ℕ_discrete e 2047) (ℕ_discrete f 2047) (ℕ_discrete t 0) (ℕ_discrete u 0)
  where
    go : Dec (e ≡ 2047) → Dec (f ≡ 2047) → Dec (t ≡ 0) → Dec (u ≡ 0) → total_order false (datum_of e t) false (datum_of f u) ≡ by_both e t f u
    go (no x) (no y) z w = rw (datum-finite e t x, datum-finite f u y) (and_then_equal _ ∙ scaled_sorts e t f u h g)
    go (no x) (yes y) z (yes w) = rw (datum-finite e t x, datum-infinite f u y w, nat_less e f (omega arith)) refl
    go (no x) (yes y) z (no w) = rw (datum-finite e t x, datum-nan f u y w, nat_less e f (omega arith)) refl
    go (yes x) (no y) (yes z) w = rw (datum-infinite e t x z, datum-finite f u y, nat_greater e f (omega arith)) refl
    go (yes x) (no y) (no z) w = rw (datum-nan e t x z, datum-finite f u y, nat_greater e f (omega arith)) refl
    go (yes x) (yes y) (yes z) (yes w) = rw (datum-infinite e t x z, datum-infinite f u y w, nat_equal e f (x ∙ sym y), nat_equal t u (z ∙ sym w)) refl
    go (yes x) (yes y) (yes z) (no w) = rw (datum-infinite e t x z, datum-nan f u y w, nat_equal e f (x ∙ sym y), nat_less t u (omega arith)) refl
    go (yes x) (yes y) (no z) (yes w) = rw (datum-nan e t x z, datum-infinite f u y w, nat_equal e f (x ∙ sym y), nat_greater t u (omega arith)) refl
    go (yes x) (yes y) (no z) (no w) = rw (datum-nan e t x z, datum-nan f u y w, nat_equal e f (x ∙ sym y)) (sym (digits_sort (2 ^ 51) t u (lit< tt)))

-- two negative data sort the other way round
negative_sorts : (c d : Datum) → total_order true c true d ≡ total_order false d false c
unfolding total_order
negative_sorts (number a) (number b) = refl
negative_sorts (number a) (nan q p) = refl
negative_sorts (nan q p) (number b) = refl
negative_sorts (nan q p) (nan r o) = refl

-- a negative one is below a positive one
signs_below : (c d : Datum) → total_order true c false d ≡ Less
unfolding total_order
signs_below (number a) (number b) = go (both_zero a b)
  where
    go : (z : Bool) → and_then (pick z Equal Less) Less ≡ Less
    go true = refl
    go false = refl
signs_below (number a) (nan q p) = refl
signs_below (nan q p) (number b) = refl
signs_below (nan q p) (nan r o) = refl

signs_above : (c d : Datum) → total_order false c true d ≡ Greater
unfolding total_order
signs_above (number a) (number b) = go (both_zero a b)
  where
    go : (z : Bool) → and_then (pick z Equal Greater) Greater ≡ Greater
    go true = refl
    go false = refl
signs_above (number a) (nan q p) = refl
signs_above (nan q p) (number b) = refl
signs_above (nan q p) (nan r o) = refl

-- ---- the patterns

-- the 63 bits below the sign
low_sorts : (v w : ℕ) → v < 2 ^ 63 → w < 2 ^ 63 → total_order false (datum v) false (datum w) ≡ compare_nat v w
unfolding datum exponent significand
low_sorts v w h g =
    let e : v / 2 ^ 52 % 2 ^ 11 ≡ v / 2 ^ 52 = omega arith in
    let f : w / 2 ^ 52 % 2 ^ 11 ≡ w / 2 ^ 52 = omega arith in
    rw (e, f)
    (positive_sorts (v / 2 ^ 52) (v % 2 ^ 52) (w / 2 ^ 52) (w % 2 ^ 52) (omega arith) (omega arith) (omega arith) (omega arith)
    ∙ sym (digits_sort (2 ^ 52) v w (lit< tt)))

-- the sign does not count
datum-low : (w : ℕ) → datum (w + 2 ^ 63) ≡ datum w
unfolding datum exponent significand
datum-low w =
    let e : (w + 2 ^ 63) / 2 ^ 52 % 2 ^ 11 ≡ w / 2 ^ 52 % 2 ^ 11 = omega arith in
    let t : (w + 2 ^ 63) % 2 ^ 52 ≡ w % 2 ^ 52 = omega arith in
    rw (e, t)

-- a pattern with its sign set, as one below with the sign added
high : (w : ℕ) → 2 ^ 63 ≤ w → datum w ≡ datum (w - 2 ^ 63)
high w h = let e : w ≡ w - 2 ^ 63 + 2 ^ 63 = omega arith in ap datum e ∙ datum-low (w - 2 ^ 63)

-- the flipped patterns sort by totalOrder
pub flipped_sorts : (v w : ℕ) → v < 256 ^ 8 → w < 256 ^ 8 → compare_nat (flipped v) (flipped w) ≡ compare_float v w
unfolding flipped compare_float negative
flipped_sorts v w h g = go (dec_le (2 ^ 63) v) (dec_le (2 ^ 63) w)
  where
    go : Dec (2 ^ 63 ≤ v) → Dec (2 ^ 63 ≤ w)
        → compare_nat (pick (leb (2 ^ 63) v) (2 ^ 64 - suc v) (v + 2 ^ 63)) (pick (leb (2 ^ 63) w) (2 ^ 64 - suc w) (w + 2 ^ 63))
        ≡ total_order (leb (2 ^ 63) v) (datum v) (leb (2 ^ 63) w) (datum w)
    go (yes x) (yes y) =
        rw (le-leb (2 ^ 63) v x, le-leb (2 ^ 63) w y, negative_sorts (datum v) (datum w), high v x, high w y, low_sorts (w - 2 ^ 63) (v - 2 ^ 63) (omega arith) (omega arith))
        (alike (w - 2 ^ 63) (v - 2 ^ 63) (2 ^ 64 - suc v) (2 ^ 64 - suc w) (λ l. omega arith) (λ l. omega arith) (λ l. omega arith))
    go (yes x) (no y) =
        rw (le-leb (2 ^ 63) v x, lt-leb (2 ^ 63) w (omega arith), signs_below (datum v) (datum w)) (nat_less (2 ^ 64 - suc v) (w + 2 ^ 63) (omega arith))
    go (no x) (yes y) =
        rw (lt-leb (2 ^ 63) v (omega arith), le-leb (2 ^ 63) w y, signs_above (datum v) (datum w)) (nat_greater (v + 2 ^ 63) (2 ^ 64 - suc w) (omega arith))
    go (no x) (no y) =
        rw (lt-leb (2 ^ 63) v (omega arith), lt-leb (2 ^ 63) w (omega arith), low_sorts v w (omega arith) (omega arith))
        (alike v w (v + 2 ^ 63) (w + 2 ^ 63) (λ l. omega arith) (λ l. omega arith) (λ l. omega arith))

-- ---- the flip is undone

unflipped-flipped : (w : ℕ) → w < 256 ^ 8 → unflipped (flipped w) ≡ w
unfolding flipped unflipped
unflipped-flipped w h = go (dec_le (2 ^ 63) w)
  where
    go : Dec (2 ^ 63 ≤ w) → unflipped (pick (leb (2 ^ 63) w) (2 ^ 64 - suc w) (w + 2 ^ 63)) ≡ w
    go (yes l) = rw (le-leb (2 ^ 63) w l, lt-leb (2 ^ 63) (2 ^ 64 - suc w) (omega arith)) (omega arith)
    go (no n) = rw (lt-leb (2 ^ 63) w (omega arith), le-leb (2 ^ 63) (w + 2 ^ 63) (omega arith)) (omega arith)

flipped-unflipped : (m : ℕ) → m < 256 ^ 8 → flipped (unflipped m) ≡ m
unfolding flipped unflipped
flipped-unflipped m h = go (dec_le (2 ^ 63) m)
  where
    go : Dec (2 ^ 63 ≤ m) → flipped (pick (leb (2 ^ 63) m) (m - 2 ^ 63) (2 ^ 64 - suc m)) ≡ m
    go (yes l) = rw (le-leb (2 ^ 63) m l, lt-leb (2 ^ 63) (m - 2 ^ 63) (omega arith)) (omega arith)
    go (no n) = rw (lt-leb (2 ^ 63) m (omega arith), le-leb (2 ^ 63) (2 ^ 64 - suc m) (omega arith)) (omega arith)

pub flipped-fits : (w : ℕ) → w < 256 ^ 8 → flipped w < 256 ^ 8
unfolding flipped
flipped-fits w h = go (dec_le (2 ^ 63) w)
  where
    go : Dec (2 ^ 63 ≤ w) → pick (leb (2 ^ 63) w) (2 ^ 64 - suc w) (w + 2 ^ 63) < 256 ^ 8
    go (yes l) = rw (le-leb (2 ^ 63) w l) (omega arith)
    go (no n) = rw (lt-leb (2 ^ 63) w (omega arith)) (omega arith)

unflipped-fits : (m : ℕ) → m < 256 ^ 8 → unflipped m < 256 ^ 8
unfolding unflipped
unflipped-fits m h = go (dec_le (2 ^ 63) m)
  where
    go : Dec (2 ^ 63 ≤ m) → pick (leb (2 ^ 63) m) (m - 2 ^ 63) (2 ^ 64 - suc m) < 256 ^ 8
    go (yes l) = rw (le-leb (2 ^ 63) m l) (omega arith)
    go (no n) = rw (lt-leb (2 ^ 63) m (omega arith)) (omega arith)

pub float_through : Through (λ m. m < 256 ^ 8) (λ w. w < 256 ^ 8) compare_nat compare_float flipped unflipped
float_through = record { back = unflipped-flipped; forth = flipped-unflipped; good = flipped-fits; fine = unflipped-fits; alike = flipped_sorts }
