-- An entry of the log and its bytes. Assumes nothing.
use Rattle.std.specs.Prelude.{ℕ, ◌+◌, ◌-◌, ◌^◌, List, [], ◌++◌, length}
use Rattle.keycode.specs.Number.{be}

-- a key with its value, or a key that is gone
pub data Entry : Type 0 where
  set : List ℕ → List ℕ → Entry
  del : List ℕ → Entry

abbrev pub entry_key : Entry → List ℕ
entry_key (set k v) = k
entry_key (del k) = k

-- the value's bytes, none for a tombstone
abbrev pub entry_value : Entry → List ℕ
entry_value (set k v) = v
entry_value (del k) = []

-- the value length as its 32 bits, -1 for a tombstone
abbrev pub entry_bits : Entry → ℕ
entry_bits (set k v) = length v
entry_bits (del k) = 2 ^ 32 - 1

-- key length, value length, key, value
unfoldable pub bytes_of : Entry → List ℕ
bytes_of e = be 4 (length (entry_key e)) ++ be 4 (entry_bits e) ++ entry_key e ++ entry_value e

-- how many bytes an entry has
abbrev pub size_of : Entry → ℕ
size_of e = 8 + length (entry_key e) + length (entry_value e)
