-- Encoded keys by value: a buffer long enough for any key, and how much of it is the key. Assumes nothing.
use Rattle.keycode.specs.declared.refusal.Refusal.{Refusal}
use Rattle.std.specs.Prelude.{ℕ, ◌+◌, ◌*◌, ◌≤◌, ◌≡◌, List, length, take, Result, Ok, Err}
use Rattle.keycode.specs.Limits.{max_key}
use Rattle.keycode.specs.declared.code.Code.{Code}

-- the longest encoding: a tag, a version, and a user key of zeros, escaped and ended
abbrev pub key_bytes : ℕ
key_bytes = 1 + 8 + 2 * max_key + 2

-- the code is that of the bytes e
pub record Codes (r : Code) (e : List ℕ) : Type 0 where
  pub whole : length r.bytes ≡ key_bytes
  pub within : r.len ≤ key_bytes
  pub says : take r.len r.bytes ≡ e

-- the code of what an encoder answered and left
abbrev pub code_of : Result ℕ Refusal → List ℕ → Code
code_of (Ok n) b = record { len = n; bytes = b }
code_of (Err r) b = record { len = 0; bytes = b }
