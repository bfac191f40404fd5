-- Ranges of rows: by the ranks that the bounds are, and in document 01's words by a test of each key. Assumes nothing.
use Rattle.std.specs.Prelude.{ℕ, ◌≡◌, Bool, false, List, [], ◌∷◌, take, drop}
use Rattle.keycode.specs.Tests.{pick}
use Rattle.keycode.specs.Order.{compare_bytes}
use Rattle.bitcask.specs.declared.answers.Bound.{Bound}
use Rattle.bitcask.specs.read.Ranks.{admits_low, admits_high}
use Rattle.bitcask.specs.declared.engine.span.Span.{Span}
use Rattle.bitcask.specs.declared.engine.spot.Spot.{Spot}
use Rattle.bitcask.specs.engine.Rows.{Row}
use Rattle.bitcask.specs.engine.Spots.{rank, from_rank, upto_rank}

-- ---- by a test of each key

-- a key within two bounds
unfoldable pub inside : Bound → List ℕ → Bound → List ℕ → List ℕ → Bool
inside lower low upper high key = pick (admits_low lower (compare_bytes key low)) (admits_high upper (compare_bytes key high)) false

-- the rows whose keys a test admits
unfoldable pub keep_rows : (List ℕ → Bool) → List Row → List Row
keep_rows p [] = []
keep_rows p (r ∷ rs) = pick (p r.key) (r ∷ keep_rows p rs) (keep_rows p rs)

-- ---- by ranks

-- the rows from number a on, to b; none where b is no greater
unfoldable pub rows_from : ℕ → ℕ → List Row → List Row
rows_from a b rs = drop a (take b rs)

-- those from a spot on, up to another
unfoldable pub between : Spot → Spot → List Row → List Row
between a b rs = rows_from (rank a rs) (rank b rs) rs

-- those within two bounds
unfoldable pub range_of : Bound → List ℕ → Bound → List ℕ → List Row → List Row
range_of lower low upper high rs = rows_from (from_rank lower low rs) (upto_rank upper high rs) rs

-- r is where the range starts and ends
pub record Spans (rs : List Row) (lower : Bound) (low : List ℕ) (upper : Bound) (high : List ℕ) (r : Span) : Type 0 where
  pub from : rank r.from rs ≡ from_rank lower low rs
  pub to : rank r.to rs ≡ upto_rank upper high rs
