-- What each public call of the key layer promises: its answer, and every byte that it was lent. proofs/Unique.antt shows that two
-- results which a promise admits are one. Assumes nothing.
use Rattle.keycode.specs.declared.refusal.Refusal.{Refusal}
use Rattle.std.specs.Prelude.{ℕ, ◌≡◌, List, ◌++◌, length, drop, leb, Result, Ok, Err}
use Rattle.keycode.specs.Tests.{pick, if_done}
use Rattle.keycode.specs.Refusals.{length_number}
use Rattle.keycode.specs.Strings.{unescaped, plain_length}
use Rattle.keycode.specs.declared.refusal.Refusal.TheVariants.{BadRequest}

-- bytes e for the lent buffer d: with number 0 they stand at its front and its other bytes stay; with every other number it stays whole
pub record Writes (a : Result ℕ Refusal) (e d : List ℕ) (r : Result ℕ Refusal) (out : List ℕ) : Type 0 where
  pub answer : r ≡ a
  pub buffer : out ≡ if_done (length_number r) (e ++ drop (length e) d) d

-- 13 where a buffer of `room` bytes is too short for what was to be written
unfoldable pub fitted : ℕ → ℕ → Result ℕ Refusal
fitted n room = pick (leb n room) (Ok n) (Err BadRequest)

-- unescaping: 12 where the bytes are escaped badly or their string is over the limit, then 13
abbrev pub into_room : Result ℕ Refusal → ℕ → Result ℕ Refusal
into_room (Ok n) room = fitted n room
into_room (Err r) room = Err r

abbrev pub Unescapes : List ℕ → List ℕ → Result ℕ Refusal → List ℕ → Type 0
Unescapes s d r out = Writes (into_room (plain_length s) (length d)) (unescaped s) d r out
