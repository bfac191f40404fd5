-- What an encoding promises: its answer, and every byte that it was lent; keycode's `writes_unique` shows that two results which a
-- promise admits are one. Assumes nothing.
use Rattle.keycode.specs.declared.refusal.Refusal.{Refusal}
use Rattle.std.specs.Prelude.{ℕ, List, length, leb, Result, Err}
use Rattle.keycode.specs.Tests.{pick}
use Rattle.keycode.specs.Limits.{max_key}
use Rattle.keycode.specs.Promises.{Writes, fitted}
use Rattle.keycode.specs.declared.refusal.Refusal.TheVariants.{KeyTooLong}

-- encoding a key with the user key s (empty where it has none) to the bytes e: 4 over the limit, then 13
unfoldable pub encode_answer : List ℕ → ℕ → ℕ → Result ℕ Refusal
unfolding fitted
encode_answer s n room = pick (leb (length s) max_key) (fitted n room) (Err KeyTooLong)

abbrev pub Encodes : List ℕ → List ℕ → List ℕ → Result ℕ Refusal → List ℕ → Type 0
Encodes s e d r out = Writes (encode_answer s (length e) (length d)) e d r out
