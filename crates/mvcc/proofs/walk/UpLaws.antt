-- A walk up: what it has still to meet, by its next row; and that on the rows of a log it meets just those that both bounds admit.
-- Assumes nothing.
use Prim.Native.Nat.{ℕ, suc, ◌≤◌, ◌<◌}
use mathlib.Core.Path.{◌≡◌, refl, sym, ap, ◌∙◌, subst}
use mathlib.Core.Bool.{Bool, true, false}
use mathlib.Core.List.{List, [], ◌∷◌}
use native.Mathlib.Decide.{dec_lt}
use native.Mathlib.Omega.{arith}
use lib.ListN.{length, drop, get_or, drop_of_length-le}
use lib.Seq.{drop-cons, take-length}
use borrow.Author.Tests.{lt-ltb, le-ltb}
use Rattle.std.specs.Prelude.{Option, None, Some}
use Rattle.std.specs.declared.cmp.Ordering.{Ordering}
use Rattle.std.specs.declared.cmp.Ordering.TheVariants.{Less, Equal, Greater}
use Rattle.keycode.specs.Tests.{pick}
use Rattle.keycode.specs.Order.{compare_bytes}
use Rattle.keycode.proofs.Basics.{nope}
use Rattle.keycode.proofs.OrderLaws.{compare_equal, compare_flip, compare_trans}
use Rattle.bitcask.specs.keydir.Place.{All, all_none, all_more}
use Rattle.bitcask.specs.recovery.Map.{Pair, Rising, rising_none, rising-more}
use Rattle.bitcask.specs.declared.answers.Bound.{Bound}
use Rattle.bitcask.specs.declared.answers.Bound.TheVariants.{Included, Excluded, Unbounded}
use Rattle.bitcask.specs.read.Ranks.{admits_low, admits_high}
use Rattle.bitcask.specs.declared.engine.spot.Spot.{Spot}
use Rattle.bitcask.specs.engine.Rows.{Row, blank, pairs, rows_in}
use Rattle.bitcask.specs.engine.Spots.{rank, row_at, order_in, from_rank}
use Rattle.bitcask.specs.engine.Ranges.{inside, keep_rows, rows_from, range_of}
use Rattle.bitcask.specs.engine.Walks.{near_rank, from_in}
use Rattle.bitcask.proofs.recovery.FoldLaws.{map-rising}
use Rattle.bitcask.proofs.engine.RowLaws.{in_map}
use Rattle.bitcask.proofs.engine.RangeLaws.{range_in, keep_all}
use Rattle.mvcc.specs.walk.Walks.{up_to, up_from}

-- ---- by its next row

module _ (upper : Bound) (high : List ℕ) (rs : List Row) where
  up_at : (n : ℕ) → n < length rs → up_from upper high rs n ≡ pick (admits_high upper (order_in high rs n)) (get_or rs n blank ∷ up_from upper high rs (suc n)) []
  unfolding up_from up_to order_in
  up_at n h = ap (up_to upper high) (drop-cons rs n blank h)

  up_past : (n : ℕ) → length rs ≤ n → up_from upper high rs n ≡ []
  unfolding up_from up_to
  up_past n h = ap (up_to upper high) (drop_of_length-le rs {i = n} h)

  up_none : (n : ℕ) → None ≡ from_in upper high rs n → up_from upper high rs n ≡ []
  unfolding from_in
  up_none n e = go (dec_lt n (length rs))
    where
      b : Bool
      b = admits_high upper (order_in high rs n)

      by : (x : Bool) (ys : List Row) → None ≡ pick x (Some n) None → pick x ys [] ≡ []
      by true ys q = nope (cc)
      by false ys q = refl

      go : Dec (n < length rs) → up_from upper high rs n ≡ []
      go (yes h) =
          up_at n h ∙ by b (get_or rs n blank ∷ up_from upper high rs (suc n)) (e ∙ ap (λ (x : Bool). pick x (pick b (Some n) None) None) (lt-ltb n (length rs) h))
      go (no h) = up_past n (omega arith)

  up_some : (n i : ℕ) → Some i ≡ from_in upper high rs n → (i ≡ n) × (n < length rs) × (up_from upper high rs n ≡ get_or rs n blank ∷ up_from upper high rs (suc n))
  unfolding from_in
  up_some n i e = go (dec_lt n (length rs))
    where
      b : Bool
      b = admits_high upper (order_in high rs n)

      by : (x : Bool) (ys : List Row) → Some i ≡ pick x (Some n) None → (i ≡ n) × (pick x ys [] ≡ ys)
      by true ys q = (cc, refl)
      by false ys q = nope (cc)

      out : Some i ≡ None → (i ≡ n) × (n < length rs) × (up_from upper high rs n ≡ get_or rs n blank ∷ up_from upper high rs (suc n))
      out q = nope (cc)

      go : Dec (n < length rs) → (i ≡ n) × (n < length rs) × (up_from upper high rs n ≡ get_or rs n blank ∷ up_from upper high rs (suc n))
      go (yes h) =
          let w = by b (get_or rs n blank ∷ up_from upper high rs (suc n)) (e ∙ ap (λ (x : Bool). pick x (pick b (Some n) None) None) (lt-ltb n (length rs) h)) in
          (w.0, h, up_at n h ∙ w.1)
      go (no h) = out (e ∙ ap (λ (x : Bool). pick x (pick b (Some n) None) None) (le-ltb n (length rs) (omega arith)))

module _ (upper : Bound) (high : List ℕ) (rs : List Row) (n : ℕ) (r : Option Spot) (says : near_rank r rs ≡ from_in upper high rs n) where
  pub up_over : r ≡ None → up_from upper high rs n ≡ []
  up_over e = up_none upper high rs n (sym (ap (λ (x : Option Spot). near_rank x rs) e) ∙ says)

  -- the row that was answered stands at the place itself
  pub up_on : (p : Spot) → r ≡ Some p → (rank p rs ≡ n) × (n < length rs) × (up_from upper high rs n ≡ row_at p rs ∷ up_from upper high rs (suc n))
  unfolding row_at
  up_on p e =
      let w = up_some upper high rs n (rank p rs) (sym (ap (λ (x : Option Spot). near_rank x rs) e) ∙ says) in
      (w.0, w.1, w.2 ∙ ap (λ (k : ℕ). get_or rs k blank ∷ up_from upper high rs (suc n)) (sym w.0))

-- ---- rows whose keys rise

pub data Rises : List Row → Type 0 where
  rises-none : Rises []
  rises-more : {r : Row} {rs : List Row} → All (λ (x : Row). compare_bytes r.key x.key ≡ Less) rs → Rises rs → Rises (r ∷ rs)

all_parts : {P : Pair → Type 0} {n m : List Pair} {q : Pair} → All P n → n ≡ q ∷ m → (P q) × (All P m)
all_parts all_none e = nope (cc)
all_parts {P = P} {m = m} {q = q} (all_more {x = x} {xs = xs} h a) e =
    let u : x ≡ q = cc in
    let v : xs ≡ m = cc in
    (subst P u h, subst (All P) v a)

rising_parts : {n m : List Pair} {q : Pair} → Rising n → n ≡ q ∷ m → (All (λ (x : Pair). compare_bytes q.key x.key ≡ Less) m) × (Rising m)
rising_parts rising_none e = nope (cc)
rising_parts {m = m} {q = q} (rising-more {p = p} {m = k} a o) e =
    let u : p ≡ q = cc in
    let v : k ≡ m = cc in
    (subst (λ (z : Pair). All (λ (x : Pair). compare_bytes z.key x.key ≡ Less) m) u (subst (All (λ (x : Pair). compare_bytes p.key x.key ≡ Less)) v a), subst Rising v o)

all-rows : (k : List ℕ) (rs : List Row) → All (λ (x : Pair). compare_bytes k x.key ≡ Less) (pairs rs) → All (λ (x : Row). compare_bytes k x.key ≡ Less) rs
unfolding pairs
all-rows k [] a = all_none
all-rows k (r ∷ rs) a =
    let w = all_parts a refl in
    all_more w.0 (all-rows k rs w.1)

rises_of : (rs : List Row) → Rising (pairs rs) → Rises rs
unfolding pairs
rises_of [] o = rises-none
rises_of (r ∷ rs) o =
    let w = rising_parts o refl in
    rises-more (all-rows r.key rs w.0) (rises_of rs w.1)

-- those of a log do
pub in_rises : (log : List ℕ) (used : ℕ) → Rises (rows_in log used)
in_rises log used = rises_of (rows_in log used) (subst Rising (sym (in_map log used)) (map-rising log used))

-- and those of them that a test admits
pub keep-rises : (p : List ℕ → Bool) {rs : List Row} → Rises rs → Rises (keep_rows p rs)
unfolding keep_rows
keep-rises p rises-none = rises-none
keep-rises p (rises-more {r = r} {rs = rs} a o) = go (p r.key) (keep-rises p o)
  where
    go : (b : Bool) → Rises (keep_rows p rs) → Rises (pick b (r ∷ keep_rows p rs) (keep_rows p rs))
    go true k = rises-more (keep_all p a) k
    go false k = k

-- ---- tests of keys

pub keep_tests : (p q : List ℕ → Bool) → ((k : List ℕ) → p k ≡ q k) → (rs : List Row) → keep_rows p rs ≡ keep_rows q rs
unfolding keep_rows
keep_tests p q f [] = refl
keep_tests p q f (r ∷ rs) = rw (f r.key, keep_tests p q f rs)

keep-keep : (p q : List ℕ → Bool) (rs : List Row) → keep_rows q (keep_rows p rs) ≡ keep_rows (λ (k : List ℕ). pick (p k) (q k) false) rs
unfolding keep_rows
keep-keep p q [] = refl
keep-keep p q (r ∷ rs) = go (p r.key) (keep-keep p q rs)
  where
    go : (b : Bool) → keep_rows q (keep_rows p rs) ≡ keep_rows (λ (k : List ℕ). pick (p k) (q k) false) rs
        → keep_rows q (pick b (r ∷ keep_rows p rs) (keep_rows p rs))
        ≡ pick (pick b (q r.key) false) (r ∷ keep_rows (λ (k : List ℕ). pick (p k) (q k) false) rs) (keep_rows (λ (k : List ℕ). pick (p k) (q k) false) rs)
    go true ih = rw ih
    go false ih = ih

-- ---- the order of keys, taken both ways round

pub greater_less : (a b : List ℕ) → compare_bytes a b ≡ Greater → compare_bytes b a ≡ Less
greater_less a b e = compare_flip a b ∙ rw e

pub less_greater : (a b : List ℕ) → compare_bytes a b ≡ Less → compare_bytes b a ≡ Greater
less_greater a b e = compare_flip a b ∙ rw e

-- a bound that refuses a key refuses the greater ones
high_stops : (upper : Bound) (a b high : List ℕ) → compare_bytes a b ≡ Less → admits_high upper (compare_bytes a high) ≡ false → admits_high upper (compare_bytes b high) ≡ false
high_stops upper a b high l e = go upper (compare_bytes a high) refl e
  where
    over : compare_bytes a high ≡ Greater → compare_bytes b high ≡ Greater
    over q = less_greater high b (compare_trans high a b (greater_less a high q) l)

    same : compare_bytes a high ≡ Equal → compare_bytes b high ≡ Greater
    same q = less_greater high b (ap (λ (x : List ℕ). compare_bytes x b) (sym (compare_equal a high q)) ∙ l)

    go : (u : Bound) (o : Ordering) → compare_bytes a high ≡ o → admits_high u o ≡ false → admits_high u (compare_bytes b high) ≡ false
    go Included Less q f = nope (cc)
    go Included Equal q f = nope (cc)
    go Included Greater q f = ap (admits_high Included) (over q)
    go Excluded Less q f = nope (cc)
    go Excluded Equal q f = ap (admits_high Excluded) (same q)
    go Excluded Greater q f = ap (admits_high Excluded) (over q)
    go Unbounded o q f = nope (cc)

-- ---- the rows that a walk up meets

module _ (upper : Bound) (high : List ℕ) where
  abbrev under : List ℕ → Bool
  under k = admits_high upper (compare_bytes k high)

  none_kept : (k : List ℕ) {rs : List Row} → All (λ (x : Row). compare_bytes k x.key ≡ Less) rs → admits_high upper (compare_bytes k high) ≡ false → keep_rows under rs ≡ []
  unfolding keep_rows
  none_kept k all_none e = refl
  none_kept k (all_more {x = x} l a) e = rw (high_stops upper k x.key high l e) (none_kept k a e)

  up_keep : {rs : List Row} → Rises rs → up_to upper high rs ≡ keep_rows under rs
  unfolding up_to keep_rows
  up_keep rises-none = refl
  up_keep (rises-more {r = r} {rs = rs} a o) = go (admits_high upper (compare_bytes r.key high)) refl (up_keep o)
    where
      go : (b : Bool) → admits_high upper (compare_bytes r.key high) ≡ b → up_to upper high rs ≡ keep_rows under rs
          → pick b (r ∷ up_to upper high rs) [] ≡ pick b (r ∷ keep_rows under rs) (keep_rows under rs)
      go true e ih = ap (λ (x : List Row). r ∷ x) ih
      go false e ih = sym (none_kept r.key a e)

  module _ (lower : Bound) (low : List ℕ) (log : List ℕ) (used : ℕ) where
    abbrev over : List ℕ → Bool
    over k = admits_low lower (compare_bytes k low)

    pick_true : (b : Bool) → pick b true false ≡ b
    pick_true true = refl
    pick_true false = refl

    low-keep : drop (from_rank lower low (rows_in log used)) (rows_in log used) ≡ keep_rows over (rows_in log used)
    unfolding range_of rows_from inside
    low-keep =
        ap (drop (from_rank lower low (rows_in log used))) (sym (take-length (rows_in log used))) ∙ range_in lower low Unbounded [] log used
        ∙ keep_tests (inside lower low Unbounded []) over (λ k. pick_true (admits_low lower (compare_bytes k low))) (rows_in log used)

    pub up_in : up_from upper high (rows_in log used) (from_rank lower low (rows_in log used)) ≡ keep_rows (inside lower low upper high) (rows_in log used)
    unfolding up_from inside
    up_in =
        ap (up_to upper high) low-keep ∙ up_keep (keep-rises over (in_rises log used)) ∙ keep-keep over under (rows_in log used)
        ∙ keep_tests (λ (k : List ℕ). pick (over k) (under k) false) (inside lower low upper high) (λ k. refl) (rows_in log used)
