-- The 128 bytes of a record, of a request as of an answer. Assumes nothing.
use Rattle.std.specs.Prelude.{ℕ, ◌-◌, List, [], ◌∷◌, ◌++◌, length, replicate}
use Rattle.keycode.specs.Number.{be}

abbrev pub record_len : ℕ
record_len = 128

-- where the key and the value stand, and how many bytes each may have
abbrev pub key_at : ℕ
key_at = 12

abbrev pub value_at : ℕ
value_at = 76

abbrev pub key_room : ℕ
key_room = 64

abbrev pub value_room : ℕ
value_room = 52

abbrev pub zeros : ℕ → List ℕ
zeros n = replicate {A = ℕ} n 0

-- bytes, and zeros behind them up to the room
unfoldable pub padded : ℕ → List ℕ → List ℕ
padded room xs = xs ++ zeros (room - length xs)

-- two bytes, the lengths of key and value, a number of eight bytes, key and value, each with zeros behind it
unfoldable pub laid : ℕ → ℕ → ℕ → List ℕ → List ℕ → List ℕ
laid a b w key value = (a ∷ b ∷ length key ∷ length value ∷ []) ++ (be 8 w ++ (padded key_room key ++ padded value_room value))

-- an answer that has but a number and the command
unfoldable pub plainly : ℕ → ℕ → List ℕ
plainly number command = laid number command 0 [] []
