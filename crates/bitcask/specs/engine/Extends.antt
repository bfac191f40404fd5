-- Logs that were written to behind the used bytes alone: what a change leaves of any store. Assumes nothing.
use Rattle.std.specs.Prelude.{ℕ, ◌≤◌, ◌≡◌, List, length, take, drop}

-- a log in which nothing but the bytes from `used` to `end` was written to
pub record Extends (log : List ℕ) (used : ℕ) (log' : List ℕ) (end : ℕ) : Type 0 where
  pub long : length log' ≡ length log
  pub onward : (used ≤ end) × (end ≤ length log)
  pub below : take used log' ≡ take used log
  pub past : drop end log' ≡ drop end log
