-- An answer as one number of 64 bits, its upper half document 01's number, its lower half the length that comes with number 0.
-- Assumes nothing.
use Rattle.keycode.specs.declared.refusal.Refusal.{Refusal}
use Rattle.std.specs.Prelude.{ℕ, ◌+◌, ◌*◌, ◌/◌, ◌%◌, ◌≡◌, Result, Ok, Err}
use Rattle.keycode.specs.Refusals.{length_number}

-- where the number begins
abbrev pub half : ℕ
half = 4294967296

-- the length that comes with an answer, 0 with every number but 0
abbrev pub length_of : Result ℕ Refusal → ℕ
length_of (Ok n) = n
length_of (Err r) = 0

abbrev pub packed : Result ℕ Refusal → ℕ
packed a = length_number a * half + length_of a

-- r tells the answer a: each half can be read by itself
pub record Tells (a : Result ℕ Refusal) (r : ℕ) : Type 0 where
  pub number : r / half ≡ length_number a
  pub value : r % half ≡ length_of a
