-- A record as a request: its fields, and whether it is one that can be carried out. Assumes nothing.
use Rattle.std.specs.Prelude.{ℕ, ◌+◌, ◌-◌, ◌^◌, Bool, true, false, List, [], ◌∷◌, take, drop, get_or, eqb, leb}
use Rattle.keycode.specs.Tests.{pick}
use Rattle.keycode.specs.Number.{num}
use Rattle.tape.specs.declared.format.request.Request.{Request}
use Rattle.tape.specs.format.Layout.{key_at, value_at, key_room, value_room}

unfoldable pub fields_of : List ℕ → Request
fields_of r =
    record {
      command = get_or r 0 0;
      slot = get_or r 1 0;
      klen = get_or r 2 0;
      vlen = get_or r 3 0;
      version = num (take 8 (drop 4 r));
    }

unfoldable pub key_in : List ℕ → List ℕ
key_in r = take (fields_of r).klen (drop key_at r)

unfoldable pub value_in : List ℕ → List ℕ
value_in r = take (fields_of r).vlen (drop value_at r)

-- ---- the commands, and what each uses: 1 begin, 2 read-only, 3 as-of, 4 get, 5 set, 6 delete, 7 prefix scan, 8 commit, 9 rollback,
-- 10 compact, 11 status

unfoldable pub between : ℕ → ℕ → ℕ → Bool
between low high c = pick (leb low c) (leb c high) false

unfoldable pub slot_most : ℕ → ℕ
slot_most c = pick (leb c 9) 15 0

unfoldable pub key_most : ℕ → ℕ
key_most c = pick (between 4 7 c) key_room 0

unfoldable pub value_most : ℕ → ℕ
value_most c = pick (eqb c 5) value_room 0

unfoldable pub version_most : ℕ → ℕ
version_most c = pick (eqb c 3) (2 ^ 64 - 1) 0

-- a known command, and each field as large as that command lets it be
unfoldable pub modest : Request → Bool
modest q =
    pick (between 1 11 q.command)
    (pick (leb q.slot (slot_most q.command))
    (pick (leb q.klen (key_most q.command)) (pick (leb q.vlen (value_most q.command)) (leb q.version (version_most q.command)) false) false) false)
    false

unfoldable pub all_zero : List ℕ → Bool
all_zero [] = true
all_zero (x ∷ xs) = pick (eqb x 0) (all_zero xs) false

-- the bytes behind the key and behind the value are zero
unfoldable pub cleared : List ℕ → ℕ → ℕ → Bool
cleared r klen vlen = pick (all_zero (take (value_at - (key_at + klen)) (drop (key_at + klen) r))) (all_zero (drop (value_at + vlen) r)) false

-- a record that is laid out as a request must be
unfoldable pub proper : List ℕ → Bool
proper r = pick (modest (fields_of r)) (cleared r (fields_of r).klen (fields_of r).vlen) false
