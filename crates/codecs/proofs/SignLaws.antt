-- A signed number's flipped bits sort as it does, and the flip is undone. Assumes nothing.
use Prim.Native.Nat.{ℕ, suc, ◌+◌, ◌-◌, ◌^◌, ◌≤◌, ◌<◌}
use mathlib.Core.Path.{◌≡◌, refl, sym, ◌∙◌}
use native.Mathlib.Decide.{dec_le}
use native.Mathlib.Omega.{arith}
use lib.Dec.{leb}
use lib.IntN.{ℤ, pos, negsuc}
use borrow.Author.Tests.{le-leb, lt-leb}
use Rattle.keycode.specs.Tests.{pick}
use Rattle.keycode.specs.Order.{compare_nat}
use Rattle.codecs.specs.Signs.{Small, compare_int, biased, unbiased}
use Rattle.keycode.proofs.Basics.{Ordered, below, same, above, ordered}
use Rattle.keycode.proofs.OrderLaws.{nat_less, nat_greater, nat_equal}
use Rattle.codecs.proofs.CodecLaws.{Through}

-- ---- pairs of numbers that compare alike

-- by which of the three they are
pub alike : (x y u v : ℕ) → (x < y → u < v) → (x ≡ y → u ≡ v) → (y < x → v < u) → compare_nat u v ≡ compare_nat x y
alike x y u v l e g = go (ordered x y)
  where
    go : Ordered x y → compare_nat u v ≡ compare_nat x y
    go (below h) = nat_less u v (l h) ∙ sym (nat_less x y h)
    go (same h) = nat_equal u v (e h) ∙ sym (nat_equal x y h)
    go (above h) = nat_greater u v (g h) ∙ sym (nat_greater x y h)

-- ---- signed numbers

unbiased-biased : (z : ℤ) → Small z → unbiased (biased z) ≡ z
unfolding biased unbiased
unbiased-biased (pos n) h = let e : n + 2 ^ 63 - 2 ^ 63 ≡ n = omega arith in rw (le-leb (2 ^ 63) (n + 2 ^ 63) (omega arith), e)
unbiased-biased (negsuc n) h =
    let e : 2 ^ 63 - suc (2 ^ 63 - suc n) ≡ n = omega arith in
    rw (lt-leb (2 ^ 63) (2 ^ 63 - suc n) (omega arith), e)

biased-unbiased : (m : ℕ) → m < 256 ^ 8 → biased (unbiased m) ≡ m
unfolding biased unbiased
biased-unbiased m h = go (dec_le (2 ^ 63) m)
  where
    go : Dec (2 ^ 63 ≤ m) → biased (pick (leb (2 ^ 63) m) (pos (m - 2 ^ 63)) (negsuc (2 ^ 63 - suc m))) ≡ m
    go (yes l) = rw (le-leb (2 ^ 63) m l) (omega arith)
    go (no n) = rw (lt-leb (2 ^ 63) m (omega arith)) (omega arith)

biased-fits : (z : ℤ) → Small z → biased z < 256 ^ 8
unfolding biased
biased-fits (pos n) h = omega arith
biased-fits (negsuc n) h = omega arith

unbiased-small : (m : ℕ) → m < 256 ^ 8 → Small (unbiased m)
unfolding unbiased
unbiased-small m h = go (dec_le (2 ^ 63) m)
  where
    go : Dec (2 ^ 63 ≤ m) → Small (pick (leb (2 ^ 63) m) (pos (m - 2 ^ 63)) (negsuc (2 ^ 63 - suc m)))
    go (yes l) = rw (le-leb (2 ^ 63) m l) (omega arith)
    go (no n) = rw (lt-leb (2 ^ 63) m (omega arith)) (omega arith)

biased_sorts : (x y : ℤ) → Small x → Small y → compare_nat (biased x) (biased y) ≡ compare_int x y
unfolding biased compare_int
biased_sorts (pos m) (pos n) h g = alike m n (m + 2 ^ 63) (n + 2 ^ 63) (λ l. omega arith) (λ e. omega arith) (λ l. omega arith) ∙ unfold compare_nat in refl
biased_sorts (pos m) (negsuc n) h g = nat_greater (m + 2 ^ 63) (2 ^ 63 - suc n) (omega arith)
biased_sorts (negsuc m) (pos n) h g = nat_less (2 ^ 63 - suc m) (n + 2 ^ 63) (omega arith)
biased_sorts (negsuc m) (negsuc n) h g = alike n m (2 ^ 63 - suc m) (2 ^ 63 - suc n) (λ l. omega arith) (λ e. omega arith) (λ l. omega arith) ∙ unfold compare_nat in refl

pub signed_through : Through (λ m. m < 256 ^ 8) Small compare_nat compare_int biased unbiased
signed_through = record { back = unbiased-biased; forth = biased-unbiased; good = biased-fits; fine = unbiased-small; alike = biased_sorts }
