-- The prefixes of records. Assumes nothing.
use Rattle.std.specs.Prelude.{ℕ, List, [], ◌∷◌}
use Rattle.keycode.specs.Number.{be}

-- the keys of open transactions
abbrev pub active_prefix : List ℕ
active_prefix = 1 ∷ []

-- the keys of a version's writes
abbrev pub write_prefix : ℕ → List ℕ
write_prefix v = 3 ∷ be 8 v
