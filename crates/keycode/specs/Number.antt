-- Numbers as big-endian bytes of any width. A u64 is eight such bytes; an entry's lengths are four each.
-- Assumes nothing.
use Rattle.std.specs.Prelude.{ℕ, zero, suc, ◌+◌, ◌*◌, ◌/◌, ◌%◌, ◌^◌, List, [], ◌∷◌}

-- v as k bytes, most significant first
unfoldable pub be : ℕ → ℕ → List ℕ
be zero v = []
be (suc k) v = v / 256 ^ k ∷ be k (v % 256 ^ k)

-- the number that bytes are, most significant first, behind what was read before them
unfoldable pub num_from : ℕ → List ℕ → ℕ
num_from acc [] = acc
num_from acc (x ∷ xs) = num_from (acc * 256 + x) xs

unfoldable pub num : List ℕ → ℕ
unfolding num_from
num xs = num_from 0 xs
