-- What the yes/no on agreement promises: true exactly where the table agrees with the log.
-- Assumes nothing.
use Rattle.std.specs.Prelude.{ℕ, ◌≡◌, Bool, true, List}
use Rattle.bitcask.specs.recovery.Agree.{Agrees}

pub record Tells (log : List ℕ) (used : ℕ) (t : List ℕ) (r : Bool) : Type 0 where
  pub yes_so : r ≡ true → Agrees log used t
  pub so_yes : Agrees log used t → r ≡ true
