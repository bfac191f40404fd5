-- The places of rows. `rank` alone looks into a spot: how many rows come before it. Every contract is an equation of ranks, so that a
-- store whose spots are something else than numbers (the offsets of entries, say) can keep it. Assumes nothing.
use Rattle.std.specs.declared.cmp.Ordering.{Ordering}
use Rattle.std.specs.Prelude.{ℕ, Bool, true, false, List, length, get_or, Result, Ok, Err, Option, None, Some}
use Rattle.keycode.specs.Order.{compare_bytes}
use Rattle.bitcask.specs.keydir.Place.{halved}
use Rattle.bitcask.specs.declared.answers.Bound.{Bound}
use Rattle.bitcask.specs.declared.answers.Bound.TheVariants.{Included, Excluded, Unbounded}
use Rattle.bitcask.specs.read.Ranks.{before_at, through_at}
use Rattle.bitcask.specs.declared.engine.spot.Spot.{Spot}
use Rattle.bitcask.specs.engine.Rows.{Row, blank}

-- how many rows come before a spot
unfoldable pub rank : Spot → List Row → ℕ
rank p rs = p.number

-- the row there
unfoldable pub row_at : Spot → List Row → Row
row_at p rs = get_or rs (rank p rs) blank

-- a place that was found, by its rank
abbrev pub placed : Result Spot Spot → List Row → Result ℕ ℕ
placed (Ok p) rs = Ok (rank p rs)
placed (Err p) rs = Err (rank p rs)

-- ---- the place of a key, by halving

-- the i-th row's key against a key
unfoldable pub order_in : List ℕ → List Row → ℕ → Ordering
order_in key rs i = compare_bytes (get_or rs i blank).key key

unfoldable pub place_by : List ℕ → List Row → Result ℕ ℕ
place_by key rs = halved (order_in key rs) 0 (length rs)

-- the first row that a lower bound admits, and the number past the last that an upper one does
abbrev pub from_rank : Bound → List ℕ → List Row → ℕ
from_rank Included key rs = before_at (place_by key rs)
from_rank Excluded key rs = through_at (place_by key rs)
from_rank Unbounded key rs = 0

abbrev pub upto_rank : Bound → List ℕ → List Row → ℕ
upto_rank Included key rs = through_at (place_by key rs)
upto_rank Excluded key rs = before_at (place_by key rs)
upto_rank Unbounded key rs = length rs

-- ---- the row of a key

-- the row at a place where a key was found
abbrev pub row_found : Result ℕ ℕ → List Row → Option Row
row_found (Ok i) rs = Some (get_or rs i blank)
row_found (Err i) rs = None

unfoldable pub look_row : List ℕ → List Row → Option Row
look_row key rs = row_found (place_by key rs) rs

-- whether there is one
abbrev pub is_found : Result ℕ ℕ → Bool
is_found (Ok i) = true
is_found (Err i) = false

unfoldable pub has_row : List ℕ → List Row → Bool
has_row key rs = is_found (place_by key rs)

-- its value
abbrev pub row_value : Option Row → Option (List ℕ)
row_value None = None
row_value (Some r) = Some r.value
