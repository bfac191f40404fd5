-- The handle slots of a tape: sixteen, in lent words, nineteen a slot. The first word of a slot is 0 where it is empty, 1 with a
-- read-write handle and 2 with a read-only one; then the handle's version, count and set. Assumes nothing.
use Rattle.std.specs.Prelude.{ℕ, ◌+◌, ◌*◌, Bool, true, not, List, ◌∷◌, take, drop, get_or, eqb, leb}
use Rattle.keycode.specs.Tests.{pick}
use Rattle.keycode.specs.Buffer.{put}
use Rattle.keycode.specs.Limits.{max_open}
use Rattle.mvcc.specs.declared.handle.Handle.{Handle}
use Rattle.tape.specs.format.Layout.{zeros}

abbrev pub slot_words : ℕ
slot_words = 19

-- sixteen slots
abbrev pub all_words : ℕ
all_words = 304

unfoldable pub filled : List ℕ → ℕ → Bool
filled s i = not (eqb (get_or s (slot_words * i) 0) 0)

-- whether a command finds the slot as it must be: 1 to 3 an empty one, 4 to 9 a filled one
unfoldable pub slot_fits : ℕ → Bool → Bool
slot_fits c full = pick (leb c 3) (not full) (pick (leb c 9) full true)

unfoldable pub handle_at : List ℕ → ℕ → Handle
handle_at s i =
    record {
      version = get_or s (slot_words * i + 1) 0;
      read_only = not (eqb (get_or s (slot_words * i) 0) 1);
      count = get_or s (slot_words * i + 2) 0;
      set = take max_open (drop (slot_words * i + 3) s);
    }

unfoldable pub kind_of : Bool → ℕ
kind_of ro = pick ro 2 1

unfoldable pub words_of : Handle → List ℕ
words_of h = kind_of h.read_only ∷ h.version ∷ h.count ∷ h.set

unfoldable pub fill : List ℕ → ℕ → Handle → List ℕ
fill s i h = put s (slot_words * i) (words_of h)

unfoldable pub empty : List ℕ → ℕ → List ℕ
empty s i = put s (slot_words * i) (zeros slot_words)
