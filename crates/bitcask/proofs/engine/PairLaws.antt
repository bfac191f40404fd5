-- Rows without their places: a part of them is that part of the map. Assumes nothing.
use Prim.Native.Nat.{ℕ, zero, suc}
use mathlib.Core.Path.{◌≡◌, refl, ap}
use mathlib.Core.List.{List, [], ◌∷◌}
use lib.ListN.{length, take, drop, get_or}
use Rattle.bitcask.specs.recovery.Map.{Pair}
use Rattle.bitcask.specs.engine.Rows.{Row, blank, pairs}
use Rattle.bitcask.specs.engine.Ranges.{rows_from}

abbrev pub pair_of : Row → Pair
pair_of r = record { key = r.key; value = r.value }

pub pairs-length : (rs : List Row) → length (pairs rs) ≡ length rs
unfolding pairs
pairs-length [] = refl
pairs-length (r ∷ rs) = ap suc (pairs-length rs)

pub pairs-at : (rs : List Row) (i : ℕ) → get_or (pairs rs) i (pair_of blank) ≡ pair_of (get_or rs i blank)
unfolding pairs
pairs-at [] i = refl
pairs-at (r ∷ rs) zero = refl
pairs-at (r ∷ rs) (suc i) = pairs-at rs i

pairs-take : (n : ℕ) (rs : List Row) → pairs (take n rs) ≡ take n (pairs rs)
unfolding pairs
pairs-take zero rs = refl
pairs-take (suc n) [] = refl
pairs-take (suc n) (r ∷ rs) = ap (λ (m : List Pair). pair_of r ∷ m) (pairs-take n rs)

pairs-drop : (n : ℕ) (rs : List Row) → pairs (drop n rs) ≡ drop n (pairs rs)
unfolding pairs
pairs-drop zero rs = refl
pairs-drop (suc n) [] = refl
pairs-drop (suc n) (r ∷ rs) = pairs-drop n rs

pub pairs-from : (i j : ℕ) (rs : List Row) → pairs (rows_from i j rs) ≡ drop i (take j (pairs rs))
unfolding rows_from
pairs-from i j rs = rw (pairs-drop i (take j rs), pairs-take j rs)
