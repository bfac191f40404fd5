-- Walks from a place: the rows before it or from it on, as far as a bound admits their keys. Assumes nothing.
use Rattle.bitcask.specs.declared.engine.spot.Spot.{Spot}
use Rattle.std.specs.Prelude.{ℕ, zero, suc, List, [], ◌∷◌, ◌++◌, ltb, length, get_or, Option, None, Some}
use Rattle.keycode.specs.Tests.{pick}
use Rattle.bitcask.specs.declared.answers.Bound.{Bound}
use Rattle.bitcask.specs.read.Ranks.{admits_low, admits_high}
use Rattle.bitcask.specs.engine.Rows.{Row, blank}
use Rattle.bitcask.specs.engine.Spots.{rank, order_in}

-- a row beside a place, by its rank
abbrev pub near_rank : Option Spot → List Row → Option ℕ
near_rank (Some p) rs = Some (rank p rs)
near_rank None rs = None

-- the row before number n
unfoldable pub before_in : Bound → List ℕ → List Row → ℕ → Option ℕ
before_in lower low rs zero = None
before_in lower low rs (suc i) = pick (admits_low lower (order_in low rs i)) (Some i) None

-- the row of number n
unfoldable pub from_in : Bound → List ℕ → List Row → ℕ → Option ℕ
from_in upper high rs n = pick (ltb n (length rs)) (pick (admits_high upper (order_in high rs n)) (Some n) None) None

-- the rows before number n, downward as far as the bound admits them
unfoldable pub down_from : Bound → List ℕ → List Row → ℕ → List Row
down_from lower low rs zero = []
down_from lower low rs (suc i) = pick (admits_low lower (order_in low rs i)) (down_from lower low rs i ++ (get_or rs i blank ∷ [])) []
