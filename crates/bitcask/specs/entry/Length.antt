-- The value length that 32 bits of an entry state. Any negative one is a tombstone.
-- `len_of` is the only place where the sign is tested. Assumes nothing.
use Rattle.std.specs.Prelude.{ℕ, suc, ◌-◌, ◌^◌, ltb, ℤ, pos, negsuc, Option, Some, None}
use Rattle.keycode.specs.Tests.{pick}

-- 32 bits as two's complement
unfoldable pub signed_of : ℕ → ℤ
signed_of n = pick (ltb n (2 ^ 31)) (pos n) (negsuc (2 ^ 32 - suc n))

-- the sign test
unfoldable pub len_of : ℤ → Option ℕ
len_of (pos n) = Some n
len_of (negsuc n) = None

unfoldable pub length_of : ℕ → Option ℕ
unfolding signed_of len_of
length_of n = len_of (signed_of n)
