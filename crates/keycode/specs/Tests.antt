-- Choosing by a test, and choosing by a number returned. Every definition of every layer that goes by tests is built of these.
-- Assumes nothing.
use Rattle.std.specs.Prelude.{ℕ, zero, suc, Bool, true, false}

-- the first where the test holds, else the second
abbrev pub pick : {A : Type 0} → Bool → A → A → A
pick true a b = a
pick false a b = b

-- what a call leaves: the first with number 0, the second with every other. Every number but 0
-- leaves what was lent as it was, and the place or count that comes with it is empty.
abbrev pub if_done : {A : Type 0} → ℕ → A → A → A
if_done zero a b = a
if_done (suc n) a b = b
