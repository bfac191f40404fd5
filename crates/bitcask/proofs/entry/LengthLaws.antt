-- Laws of the value length: what the library makes of 32 bits, and the lengths that a writer states.
-- Assumes nothing.
use Prim.Native.Nat.{ℕ, suc, ◌-◌, ◌^◌, ◌<◌, ◌≤◌}
use mathlib.Core.Path.{◌≡◌, refl, ap, ◌∙◌}
use mathlib.Core.Bool.{Bool, true, false}
use native.Mathlib.Omega.{arith}
use lib.Dec.{ltb}
use lib.IntN.{ℤ, pos, negsuc, nat_abs}
use borrow.Author.Tests.{ltb-true, ltb-false, lt-ltb}
use mir.Syntax.{w32}
use mir.Val.{SFits, to_z, of_z}
use mir.ValLaws.{to_z-of_z, to_z_pos, to_z-neg}
use Rattle.std.specs.Prelude.{Result, Ok, Err, Option, ℕ, Some, None}
use Rattle.std.specs.Result.{OkIff, result_ok}
use Rattle.std.specs.Int.{FitsUnsignedBits}
use Rattle.keycode.specs.Tests.{pick}
use Rattle.bitcask.specs.entry.Length.{signed_of, len_of, length_of}

-- ---- 32 bits as two's complement, as the library reads them

bits_signed : (n : ℕ) → n < 2 ^ 32 → to_z w32 n ≡ signed_of n
unfolding signed_of
bits_signed n h = go (ltb n (2 ^ 31)) refl
  where
    go : (b : Bool) → ltb n (2 ^ 31) ≡ b → to_z w32 n ≡ pick b (pos n) (negsuc (2 ^ 32 - suc n))
    go true e = to_z_pos w32 n (ltb-true n (2 ^ 31) e)
    go false e =
        let k : ℕ = 2 ^ 32 - suc n in
        let g : 2 ^ 31 ≤ n = ltb-false n (2 ^ 31) e in
        let q : n ≡ 2 ^ 32 - suc k = omega arith in
        ap (to_z w32) q ∙ to_z-neg w32 k (omega arith)

-- ---- the sign test, as the library makes it

tried : {E : Type 0} (z : ℤ) (r : Result ℕ E) → OkIff r (FitsUnsignedBits 64 z) (nat_abs z) → SFits w32 z → result_ok r ≡ len_of z
unfolding len_of
tried (pos n) (Ok x) p f = ap Some p.1
tried (pos n) (Err e) p f = absurd (p (let k = f.sfits in omega arith))
tried (negsuc n) (Ok x) p f = absurd p.0
tried (negsuc n) (Err e) p f = refl

-- both steps, of what the code has made of the bits
pub length_tried : {E : Type 0} (n : ℕ) → n < 2 ^ 32 → {z : ℤ} (r : Result ℕ E) {o : Option ℕ} → SFits w32 z → z ≡ to_z w32 n
    → OkIff r (FitsUnsignedBits 64 (to_z w32 (of_z w32 z))) (nat_abs (to_z w32 (of_z w32 z))) → o ≡ result_ok r → o ≡ length_of n
unfolding length_of
length_tried n h {z} r f e p q = q ∙ tried z r (rw (to_z-of_z w32 z f) at p) f ∙ ap len_of (e ∙ bits_signed n h)

-- ---- the lengths that a writer states

pub length-small : (n : ℕ) → n < 2 ^ 31 → length_of n ≡ Some n
unfolding length_of signed_of len_of
length-small n h = rw (lt-ltb n (2 ^ 31) h)

pub length-gone : length_of (2 ^ 32 - 1) ≡ None
unfolding length_of signed_of len_of
length-gone = refl
