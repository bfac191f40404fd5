-- A run of bytes laid into a lent buffer. Assumes nothing.
use Rattle.std.specs.Prelude.{ℕ, ◌+◌, List, ◌++◌, length, take, drop}

-- the buffer d with the bytes xs from index at on, its other bytes as they were
unfoldable pub put : List ℕ → ℕ → List ℕ → List ℕ
put d at xs = take at d ++ xs ++ drop (at + length xs) d
