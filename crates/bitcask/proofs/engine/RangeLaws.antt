-- Ranges of rows by ranks are, on rows whose keys rise, the rows whose keys lie within the bounds, and so is a walk down from the upper
-- bound; under agreement those of the recovered rows. Assumes nothing.
use Prim.Native.Nat.{ℕ, zero, suc, ◌≤◌, ◌<◌}
use mathlib.Core.Path.{◌≡◌, refl, sym, ap, ◌∙◌}
use mathlib.Core.Bool.{Bool, true, false}
use mathlib.Core.List.{List, [], ◌∷◌, ◌++◌}
use native.Mathlib.Decide.{dec_lt, dec_le}
use native.Mathlib.Omega.{arith}
use lib.Dec.{leb}
use lib.ListN.{length, take, get_or, length-take, drop_of_length-le}
use lib.Seq.{take-suc, length-take-le, drop-append-le}
use borrow.Author.Tests.{le-leb, lt-leb, lt-ltb, le-ltb}
use Rattle.std.specs.Prelude.{Result, ℕ, Ok, Err}
use Rattle.keycode.specs.Tests.{pick}
use Rattle.bitcask.specs.declared.keydir.slots.Slot.{Slot}
use Rattle.bitcask.specs.keydir.Place.{All, all_none, all_more, order_at, Sorted, Among}
use Rattle.bitcask.proofs.keydir.HalveLaws.{halved-among}
use Rattle.bitcask.specs.recovery.Map.{Pair, pairs_of}
use Rattle.bitcask.specs.recovery.Recover.{recovered, map_of}
use Rattle.bitcask.proofs.recovery.FoldLaws.{recovered-sorted}
use Rattle.bitcask.specs.declared.answers.Bound.{Bound}
use Rattle.bitcask.specs.declared.answers.Bound.TheVariants.{Included, Excluded, Unbounded}
use Rattle.bitcask.specs.read.Ranks.{before_at, through_at, admits_low}
use Rattle.bitcask.proofs.read.ScanLaws.{between as between_numbers, low_test, high_test}
use Rattle.bitcask.specs.declared.engine.mark.Mark.{Mark}
use Rattle.bitcask.specs.declared.engine.span.Span.{Span}
use Rattle.bitcask.specs.engine.Rows.{Row, blank, rows_of, rows, pairs, rows_in}
use Rattle.bitcask.specs.engine.Marks.{Agreeing}
use Rattle.bitcask.specs.engine.Spots.{order_in, place_by, from_rank, upto_rank}
use Rattle.bitcask.specs.engine.Ranges.{inside, keep_rows, rows_from, between, range_of, Spans}
use Rattle.bitcask.specs.engine.Walks.{down_from}
use Rattle.bitcask.proofs.engine.RowLaws.{rows-length, rows_at, rows_agree, in_map, order-rows, from-rows, upto-rows}

-- ---- ranks lie among the rows

before-among : (n : ℕ) (f : Result ℕ ℕ) → Among n f → before_at f ≤ n
before-among n (Ok i) a = omega arith
before-among n (Err i) a = a

through_among : (n : ℕ) (f : Result ℕ ℕ) → Among n f → through_at f ≤ n
through_among n (Ok i) a = omega arith
through_among n (Err i) a = a

module _ (key : List ℕ) (rs : List Row) where
  pub place-among : Among (length rs) (place_by key rs)
  unfolding place_by
  place-among = halved-among (order_in key rs) (length rs)

  pub from-within : (b : Bound) → from_rank b key rs ≤ length rs
  from-within Included = before-among (length rs) (place_by key rs) place-among
  from-within Excluded = through_among (length rs) (place_by key rs) place-among
  from-within Unbounded = omega arith

  pub upto-within : (b : Bound) → upto_rank b key rs ≤ length rs
  upto-within Included = through_among (length rs) (place_by key rs) place-among
  upto-within Excluded = before-among (length rs) (place_by key rs) place-among
  upto-within Unbounded = omega arith

-- ---- the rows between two numbers

pub from_last : (rs : List Row) (a j : ℕ) → a ≤ j → j < length rs → rows_from a (suc j) rs ≡ rows_from a j rs ++ (get_or rs j blank ∷ [])
unfolding rows_from
from_last rs a j h k =
    let n : length (take j rs) ≡ j = length-take-le j rs (omega arith) in
    rw (take-suc rs j blank k) (drop-append-le a (take j rs) (get_or rs j blank ∷ []) (omega arith))

pub from_empty : (rs : List Row) (a b : ℕ) → b ≤ a → rows_from a b rs ≡ []
unfolding rows_from
from_empty rs a b h = drop_of_length-le (take b rs) {i = a} (rw (length-take b rs) (omega arith))

-- ---- on slots whose keys rise

module _ (log : List ℕ) (ss : List Slot) (s : Sorted log ss) (low : List ℕ) (lower : Bound) where
  -- a lower bound admits just the rows from its rank on
  low_rows : (j : ℕ) → j < length ss → admits_low lower (order_in low (rows_of log ss) j) ≡ leb (from_rank lower low (rows_of log ss)) j
  low_rows j h = rw (order-rows log low ss j, from-rows log low ss lower) (low_test log low ss s j h lower)

  -- a walk down from number n gives the rows from the bound's rank on
  pub down_range : (n : ℕ) → n ≤ length ss → down_from lower low (rows_of log ss) n ≡ rows_from (from_rank lower low (rows_of log ss)) n (rows_of log ss)
  unfolding down_from
  down_range zero h = sym (from_empty (rows_of log ss) (from_rank lower low (rows_of log ss)) 0 (omega arith))
  down_range (suc i) h = rw (low_rows i (omega arith)) (go (dec_le (from_rank lower low (rows_of log ss)) i) (down_range i (omega arith)))
    where
      go : Dec (from_rank lower low (rows_of log ss) ≤ i) → down_from lower low (rows_of log ss) i ≡ rows_from (from_rank lower low (rows_of log ss)) i (rows_of log ss)
          → pick (leb (from_rank lower low (rows_of log ss)) i) (down_from lower low (rows_of log ss) i ++ (get_or (rows_of log ss) i blank ∷ [])) [] ≡ rows_from (from_rank lower low (rows_of log ss)) (suc i) (rows_of log ss)
      go (yes q) e =
          rw (le-leb (from_rank lower low (rows_of log ss)) i q, e)
          (sym (from_last (rows_of log ss) (from_rank lower low (rows_of log ss)) i q (omega (arith, rows-length log ss))))
      go (no q) e =
          rw (lt-leb (from_rank lower low (rows_of log ss)) i (omega arith)) (sym (from_empty (rows_of log ss) (from_rank lower low (rows_of log ss)) (suc i) (omega arith)))

-- ---- the rows within two bounds

between_none : (a j : ℕ) → between_numbers a 0 j ≡ false
between_none a j = rw (le-ltb j 0 (omega arith)) (go (leb a j))
  where
    go : (b : Bool) → pick b false false ≡ false
    go true = refl
    go false = refl

between-suc : (a b j : ℕ) → between_numbers (suc a) (suc b) (suc j) ≡ between_numbers a b j
between-suc a b j = go (dec_le a j) (dec_lt j b)
  where
    go : Dec (a ≤ j) → Dec (j < b) → between_numbers (suc a) (suc b) (suc j) ≡ between_numbers a b j
    go (yes h) (yes g) = rw (le-leb (suc a) (suc j) (omega arith), lt-ltb (suc j) (suc b) (omega arith), le-leb a j h, lt-ltb j b g)
    go (yes h) (no g) = rw (le-leb (suc a) (suc j) (omega arith), le-ltb (suc j) (suc b) (omega arith), le-leb a j h, le-ltb j b (omega arith))
    go (no h) d = rw (lt-leb (suc a) (suc j) (omega arith), lt-leb a j (omega arith))

between_start : (b j : ℕ) → between_numbers 0 (suc b) (suc j) ≡ between_numbers 0 b j
between_start b j = go (dec_lt j b)
  where
    go : Dec (j < b) → between_numbers 0 (suc b) (suc j) ≡ between_numbers 0 b j
    go (yes g) = rw (le-leb 0 (suc j) (omega arith), lt-ltb (suc j) (suc b) (omega arith), le-leb 0 j (omega arith), lt-ltb j b g)
    go (no g) = rw (le-leb 0 (suc j) (omega arith), le-ltb (suc j) (suc b) (omega arith), le-leb 0 j (omega arith), le-ltb j b (omega arith))

module _ (p : List ℕ → Bool) where
  -- a test that admits just the numbers between two keeps the rows between them
  keep-from : (a b : ℕ) (rs : List Row) → ((j : ℕ) → j < length rs → p (get_or rs j blank).key ≡ between_numbers a b j) → keep_rows p rs ≡ rows_from a b rs
  unfolding keep_rows rows_from
  keep-from zero zero [] q = refl
  keep-from zero (suc b) [] q = refl
  keep-from (suc a) zero [] q = refl
  keep-from (suc a) (suc b) [] q = refl
  keep-from zero zero (r ∷ rs) q = rw (q 0 (omega arith) ∙ between_none 0 0) (keep-from 0 0 rs (λ j h. q (suc j) (omega arith) ∙ between_none 0 (suc j) ∙ sym (between_none 0 j)))
  keep-from (suc a) zero (r ∷ rs) q =
      rw (q 0 (omega arith) ∙ between_none (suc a) 0) (keep-from (suc a) 0 rs (λ j h. q (suc j) (omega arith) ∙ between_none (suc a) (suc j) ∙ sym (between_none (suc a) j)))
  keep-from zero (suc b) (r ∷ rs) q =
      rw (q 0 (omega arith), lt-ltb 0 (suc b) (omega arith))
      (ap (λ (x : List Row). r ∷ x) (keep-from 0 b rs (λ j h. q (suc j) (omega arith) ∙ between_start b j)))
  keep-from (suc a) (suc b) (r ∷ rs) q =
      rw (q 0 (omega arith), lt-leb (suc a) 0 (omega arith)) (keep-from a b rs (λ j h. q (suc j) (omega arith) ∙ between-suc a b j))

module _ (lower : Bound) (low : List ℕ) (upper : Bound) (high : List ℕ) where
  module _ (log : List ℕ) (ss : List Slot) (s : Sorted log ss) where
    inside-at : (j : ℕ) → j < length ss
        → inside lower low upper high (get_or (rows_of log ss) j blank).key ≡ between_numbers (from_rank lower low (rows_of log ss)) (upto_rank upper high (rows_of log ss)) j
    unfolding inside order_at
    inside-at j h = rw (rows_at log ss j, from-rows log low ss lower, upto-rows log high ss upper, low_test log low ss s j h lower, high_test log high ss s j h upper)

    pub range_keep : range_of lower low upper high (rows_of log ss) ≡ keep_rows (inside lower low upper high) (rows_of log ss)
    unfolding range_of
    range_keep =
        sym (keep-from (inside lower low upper high) (from_rank lower low (rows_of log ss)) (upto_rank upper high (rows_of log ss)) (rows_of log ss)
        (λ j h. inside-at j (omega (arith, rows-length log ss))))

    -- one search and a walk down
    pub down_keep : down_from lower low (rows_of log ss) (upto_rank upper high (rows_of log ss)) ≡ keep_rows (inside lower low upper high) (rows_of log ss)
    unfolding range_of
    down_keep =
        down_range log ss s low lower (upto_rank upper high (rows_of log ss)) (omega (arith, rows-length log ss, upto-within high (rows_of log ss) upper))
        ∙ range_keep

  -- of the rows of a log
  module _ (log : List ℕ) (used : ℕ) where
    pub range_in : range_of lower low upper high (rows_in log used) ≡ keep_rows (inside lower low upper high) (rows_in log used)
    unfolding rows_in
    range_in = range_keep log (recovered log used) (recovered-sorted log used)

    pub down_in : down_from lower low (rows_in log used) (upto_rank upper high (rows_in log used)) ≡ keep_rows (inside lower low upper high) (rows_in log used)
    unfolding rows_in
    down_in = down_keep log (recovered log used) (recovered-sorted log used)

  module _ (log t : List ℕ) (m : Mark) (g : Agreeing log t m) where
    pub range_agrees : range_of lower low upper high (rows log t m) ≡ keep_rows (inside lower low upper high) (rows_in log m.used.len)
    range_agrees = ap (range_of lower low upper high) (rows_agree log t m g) ∙ range_in log m.used.len

    pub down_agrees : down_from lower low (rows log t m) (upto_rank upper high (rows log t m)) ≡ keep_rows (inside lower low upper high) (rows_in log m.used.len)
    down_agrees = ap (λ (rs : List Row). down_from lower low rs (upto_rank upper high rs)) (rows_agree log t m g) ∙ down_in log m.used.len

  -- what the code answers is that range
  pub span_range : {rs : List Row} {r : Span} → Spans rs lower low upper high r → between r.from r.to rs ≡ range_of lower low upper high rs
  unfolding between range_of
  span_range w = rw (w.from, w.to)

-- ---- the rows that a test admits

module _ (p : List ℕ → Bool) where
  -- they are the map's pairs that it admits
  pub keep-pairs : (rs : List Row) → pairs (keep_rows p rs) ≡ pairs_of p (pairs rs)
  unfolding pairs keep_rows pairs_of
  keep-pairs [] = refl
  keep-pairs (r ∷ rs) = go (p r.key) (keep-pairs rs)
    where
      go : (b : Bool) → pairs (keep_rows p rs) ≡ pairs_of p (pairs rs)
          → pairs (pick b (r ∷ keep_rows p rs) (keep_rows p rs)) ≡ pick b (record { key = r.key; value = r.value } ∷ pairs_of p (pairs rs)) (pairs_of p (pairs rs))
      go true ih = ap (λ (m : List Pair). record { key = r.key; value = r.value } ∷ m) ih
      go false ih = ih

  pub keep_in : (log : List ℕ) (used : ℕ) → pairs (keep_rows p (rows_in log used)) ≡ pairs_of p (map_of log used)
  keep_in log used = keep-pairs (rows_in log used) ∙ ap (pairs_of p) (in_map log used)

  -- what holds of all rows holds of them
  pub keep_all : {P : Row → Type 0} {rs : List Row} → All P rs → All P (keep_rows p rs)
  unfolding keep_rows
  keep_all all_none = all_none
  keep_all {P = P} (all_more {x = r} {xs = rs} e a) = go (p r.key) (keep_all a)
    where
      go : (b : Bool) → All P (keep_rows p rs) → All P (pick b (r ∷ keep_rows p rs) (keep_rows p rs))
      go true k = all_more e k
      go false k = k
