-- The limits, for all layers. The code's are in src/limits.rt; the proofs fail where the two differ.
-- Assumes nothing.
use Rattle.std.specs.Prelude.{ℕ}

-- the longest user key, in bytes before escaping
abbrev pub max_key : ℕ
max_key = 64

-- the longest user value
abbrev pub max_value : ℕ
max_value = 4096

-- how many read-write transactions may be open at once
abbrev pub max_open : ℕ
max_open = 16

-- the largest log buffer
abbrev pub max_log : ℕ
max_log = 16777216
