-- What the code of the two flips knows: to flip the top bit adds 2^63, or takes it away. Assumes nothing.
use Prim.Native.Nat.{ℕ, suc, ◌+◌, ◌-◌, ◌*◌, ◌/◌, ◌%◌, ◌^◌, ◌≤◌, ◌<◌}
use mathlib.Core.Path.{◌≡◌, sym, ap, ◌∙◌}
use native.Mathlib.Decide.{dec_le}
use native.Mathlib.Omega.{arith}
use lib.IntN.{ℤ, pos, negsuc}
use mir.Syntax.{w64}
use mir.Val.{SFits, to_z, of_z}
use mir.ValLaws.{to_z-of_z, to_z_pos, to_z-neg}
use borrow.Author.Tests.{le-leb, lt-leb}
use Rattle.std.specs.Int.Bits.{bit_xor, xor_add_and}
use Rattle.std.proofs.lemmas.Nat.Bits.{and_pow}
use Rattle.codecs.specs.Signs.{biased, unbiased, flipped, unflipped}

module _ (n : ℕ) where
  top_bit : bit_xor n 9223372036854775808 + (n / 2 ^ 63 % 2 * 2 ^ 63) * 2 ≡ n + 9223372036854775808
  top_bit = rw (sym (and_pow n 63)) (xor_add_and n 9223372036854775808)

  low_xor : n < 9223372036854775808 → bit_xor n 9223372036854775808 ≡ n + 9223372036854775808
  low_xor h = omega (arith, top_bit)

  high_xor : 9223372036854775808 ≤ n → n < 2 ^ 64 → bit_xor n 9223372036854775808 ≡ n - 9223372036854775808
  high_xor h g = omega (arith, top_bit)

  pub under_flipped : n < 9223372036854775808 → bit_xor n 9223372036854775808 ≡ flipped n
  unfolding flipped
  under_flipped h = low_xor h ∙ sym (rw (lt-leb (2 ^ 63) n h))

  pub over-flipped : 9223372036854775808 ≤ n → 18446744073709551615 - n ≡ flipped n
  unfolding flipped
  over-flipped h = rw (le-leb (2 ^ 63) n h) (omega arith)

  pub under_unflipped : n < 9223372036854775808 → 18446744073709551615 - n ≡ unflipped n
  unfolding unflipped
  under_unflipped h = rw (lt-leb (2 ^ 63) n h) (omega arith)

  pub over-unflipped : 9223372036854775808 ≤ n → n < 2 ^ 64 → bit_xor n 9223372036854775808 ≡ unflipped n
  unfolding unflipped
  over-unflipped h g = high_xor h g ∙ sym (rw (le-leb (2 ^ 63) n h))

  pub under_unbiased : n < 9223372036854775808 → to_z w64 (bit_xor n 9223372036854775808) ≡ unbiased n
  unfolding unbiased
  under_unbiased h =
      let e : bit_xor n 9223372036854775808 ≡ 2 ^ 64 - suc (2 ^ 63 - suc n) = low_xor h ∙ omega arith in
      ap (to_z w64) e ∙ to_z-neg w64 (2 ^ 63 - suc n) (omega arith) ∙ sym (rw (lt-leb (2 ^ 63) n h))

  pub over-unbiased : 9223372036854775808 ≤ n → n < 2 ^ 64 → to_z w64 (bit_xor n 9223372036854775808) ≡ unbiased n
  unfolding unbiased
  over-unbiased h g = ap (to_z w64) (high_xor h g) ∙ to_z_pos w64 (n - 2 ^ 63) (omega arith) ∙ sym (rw (le-leb (2 ^ 63) n h))

pub biased_bits : (v : ℤ) → SFits w64 v → bit_xor (of_z w64 v) 9223372036854775808 ≡ biased v
unfolding biased
biased_bits (pos n) f = low_xor n (f.sfits)
biased_bits (negsuc n) f = let k = f.sfits in high_xor (2 ^ 64 - suc n) (omega arith) (omega arith) ∙ omega arith

pub bias_done : (v : ℤ) (m : ℕ) → SFits w64 v → m ≡ of_z w64 (to_z w64 (of_z w64 v)) → bit_xor m 9223372036854775808 ≡ biased v
bias_done v m f e = ap (λ k. bit_xor k 9223372036854775808) (e ∙ ap (of_z w64) (to_z-of_z w64 v f)) ∙ biased_bits v f

pub unbiased_bits : (m : ℕ) → m < 2 ^ 64 → to_z w64 (bit_xor m 9223372036854775808) ≡ unbiased m
unbiased_bits m g = go (dec_le (2 ^ 63) m)
  where
    go : Dec (2 ^ 63 ≤ m) → to_z w64 (bit_xor m 9223372036854775808) ≡ unbiased m
    go (yes h) = over-unbiased m h g
    go (no n) = under_unbiased m (omega (arith, n))

-- what a call returns that gives a signed number of those bits
pub unbias_done : (m : ℕ) (r : ℤ) → m < 2 ^ 64 → SFits w64 r → r ≡ to_z w64 (bit_xor m 9223372036854775808) → to_z w64 (of_z w64 r) ≡ unbiased m
unbias_done m r g f e = to_z-of_z w64 r f ∙ e ∙ unbiased_bits m g
