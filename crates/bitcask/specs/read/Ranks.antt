-- Ranks of keys and bounds of scans, of slots as the code finds them and of the map. A lower bound is the number
-- of the first pair that it admits, an upper one the number past the last; a scan step gives the first number that lies between.
-- Assumes nothing.
use Rattle.std.specs.declared.cmp.Ordering.{Ordering}
use Rattle.std.specs.Prelude.{ℕ, suc, ◌+◌, Bool, true, false, List, [], ◌∷◌, length, Result, Ok, Err, Option, None, Some}
use Rattle.keycode.specs.Tests.{pick}
use Rattle.keycode.specs.Order.{compare_bytes, by_order}
use Rattle.bitcask.specs.declared.keydir.slots.Slot.{Slot}
use Rattle.bitcask.specs.keydir.Place.{place_of}
use Rattle.bitcask.specs.recovery.Map.{Pair}
use Rattle.bitcask.specs.declared.answers.Bound.{Bound}
use Rattle.bitcask.specs.declared.answers.Bound.TheVariants.{Included, Excluded, Unbounded}

-- ---- of slots: how many keys are below one, by the place that the search finds; how many are below it or the same

abbrev pub before_at : Result ℕ ℕ → ℕ
before_at (Ok i) = i
before_at (Err i) = i

abbrev pub through_at : Result ℕ ℕ → ℕ
through_at (Ok i) = i + 1
through_at (Err i) = i

unfoldable pub below : List ℕ → List ℕ → List Slot → ℕ
below log key ss = before_at (place_of log key ss)

unfoldable pub upto : List ℕ → List ℕ → List Slot → ℕ
upto log key ss = through_at (place_of log key ss)

-- the first slot that a lower bound admits, and the number past the last that an upper one does
abbrev pub from_bound : Bound → List ℕ → List ℕ → List Slot → ℕ
from_bound Included log key ss = below log key ss
from_bound Excluded log key ss = upto log key ss
from_bound Unbounded log key ss = 0

abbrev pub upto_bound : Bound → List ℕ → List ℕ → List Slot → ℕ
upto_bound Included log key ss = upto log key ss
upto_bound Excluded log key ss = below log key ss
upto_bound Unbounded log key ss = length ss

-- ---- of the map: what a bound admits, and the first pair that a test does

abbrev pub admits_low : Bound → Ordering → Bool
admits_low Included o = by_order o false true true
admits_low Excluded o = by_order o false false true
admits_low Unbounded o = true

abbrev pub admits_high : Bound → Ordering → Bool
admits_high Included o = by_order o true true false
admits_high Excluded o = by_order o true false false
admits_high Unbounded o = true

-- the caller's last given key is a lower bound that does not admit it; none given admits all
abbrev pub last_bound : Bool → Bound
last_bound true = Excluded
last_bound false = Unbounded

-- a key within the bounds and past the last given one
unfoldable pub admitted : Bound → List ℕ → Bound → List ℕ → Bool → List ℕ → List ℕ → Bool
admitted lower low upper high given last k =
    pick (admits_low lower (compare_bytes k low)) (pick (admits_low (last_bound given) (compare_bytes k last)) (admits_high upper (compare_bytes k high)) false) false

-- the number of the first pair whose key a test admits, counted from i
unfoldable pub first_of : (List ℕ → Bool) → ℕ → List Pair → Option ℕ
first_of p i [] = None
first_of p i (q ∷ m) = pick (p q.key) (Some i) (first_of p (suc i) m)
