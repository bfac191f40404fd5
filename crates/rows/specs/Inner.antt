-- What the code's own functions promise of one field: what is left of a buffer's room, what writing it leaves, and what reading it finds.
-- Assumes nothing.
use Rattle.std.specs.Prelude.{ℕ, ◌+◌, ◌-◌, ◌^◌, ◌<◌, ◌≡◌, List, [], ◌∷◌, length, leb, Option, Some, None, Result, Ok, Err, Bool}
use Rattle.keycode.specs.Tests.{pick}
use Rattle.codecs.specs.declared.fields.Kind.{Kind}
use Rattle.rows.specs.declared.fields.Field.{Field}
use Rattle.rows.specs.declared.fields.Field.TheVariants.{Flag, U64, I64, F64, Bytes, Text}
use Rattle.codecs.specs.declared.fields.Denial.{Denial}
use Rattle.codecs.specs.Denials.{Got, got, bad}
use Rattle.codecs.specs.Kinds.{Val, enc}
use Rattle.codecs.specs.Signs.{Small}
use Rattle.rows.specs.Promises.{placed, field_bytes}
use Rattle.codecs.specs.Utf8.{well_formed}
use Rattle.keycode.specs.Buffer.{put}
use Rattle.keycode.specs.Strings.{escape_body}

-- n bytes taken of `left`
unfoldable pub room_of : ℕ → ℕ → Option ℕ
room_of n left = pick (leb n left) (Some (left - n)) None

-- the numbers of fields have 64 bits
abbrev pub InWord : Field → Type 0
InWord (Flag b) = Unit {0}
InWord (U64 v) = v < 256 ^ 8
InWord (I64 z) = Small z
InWord (F64 w) = w < 256 ^ 8
InWord (Bytes p) = Unit {0}
InWord (Text p) = Unit {0}

abbrev pub InWords : List Field → Type 0
InWords [] = Unit {0}
InWords (f ∷ fs) = InWord f × InWords fs

-- a field's bytes stand at index `at` of the buffer d, the index behind them is r, and its number has 64 bits
pub record PutField (s : List ℕ) (f : Field) (d : List ℕ) (at r : ℕ) (out : List ℕ) : Type 0 where
  pub behind : r ≡ at + length (field_bytes s f)
  pub bytes : out ≡ put d at (field_bytes s f)
  pub word : InWord f

-- the value, or why there is none
unfoldable pub value_of : {A : Type 0} → Got A → Result A Denial
value_of (got a r) = Ok a
value_of (bad d) = Err d

-- the field that a value is, whose bytes start at index `at`, and the index behind them
unfoldable pub taken_as : (k : Kind) → ℕ → Got (Val k) → Result (Field × ℕ) Denial
taken_as k at (got v r) = Ok (placed at k v, at + length (enc k v))
taken_as k at (bad d) = Err d

-- the index of a string's closing 00 00, and whether the string is UTF-8
unfoldable pub strung_as : ℕ → Got (List ℕ) → Option (ℕ × Bool)
strung_as at (got s r) = Some (at + length (escape_body s), well_formed s)
strung_as at (bad d) = None
