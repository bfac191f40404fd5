-- The rows of a span counted, and the room that their tombstones leave. Assumes nothing.
use Prim.Native.Nat.{ℕ, suc, ◌+◌, ◌-◌, ◌<◌, ◌≤◌}
use mathlib.Core.Path.{◌≡◌, refl, sym, ap, ◌∙◌}
use mathlib.Core.Bool.{Bool, true, false}
use mathlib.Core.List.{List, [], ◌∷◌}
use native.Mathlib.Omega.{arith}
use native.Mathlib.Decide.{dec_le}
use native.Mathlib.Numerals.{add-one}
use lib.Dec.{leb}
use lib.ListN.{length, take, drop, get_or, drop_of_length-le, length-drop}
use lib.Seq.{drop-cons, get_or-take, length-take-le}
use borrow.Author.Tests.{leb-true, leb-false, le-leb, lt-leb}
use Rattle.std.specs.Prelude.{Option, ℕ, Some, None}
use Rattle.keycode.specs.Tests.{pick}
use Rattle.bitcask.specs.change.Append.{room_after, size_all}
use Rattle.bitcask.specs.declared.engine.mark.Mark.{Mark}
use Rattle.bitcask.specs.declared.engine.spot.Spot.{Spot}
use Rattle.bitcask.specs.engine.Rows.{Row, blank, rows}
use Rattle.bitcask.specs.engine.Spots.{rank, row_at}
use Rattle.bitcask.specs.engine.Ranges.{rows_from, between}
use Rattle.bitcask.specs.engine.Endings.{tombstones, room_tombs}

-- ---- how many

module _ (p q : Spot) (rs : List Row) where
  pub width_is : q.number - p.number ≡ rank q rs - rank p rs
  unfolding rank
  width_is = refl

  pub width_rows : rank q rs ≤ length rs → length (between p q rs) ≡ rank q rs - rank p rs
  unfolding between rows_from
  width_rows h = let l : length (take (rank q rs) rs) ≡ rank q rs = length-take-le (rank q rs) rs h in length-drop (rank p rs) (take (rank q rs) rs) ∙ ap (λ (n : ℕ). n - rank p rs) l

-- ---- their tombstones' room

pub from_next : (rs : List Row) (i to : ℕ) → i < to → to ≤ length rs → rows_from i to rs ≡ get_or rs i blank ∷ rows_from (suc i) to rs
unfolding rows_from
from_next rs i to h k =
    let l : length (take to rs) ≡ to = length-take-le to rs k in
    drop-cons (take to rs) i blank (omega arith) ∙ ap (λ (x : Row). x ∷ drop (suc i) (take to rs)) (get_or-take to rs i blank h)

pub from_end : (rs : List Row) (i to : ℕ) → to ≤ i → to ≤ length rs → rows_from i to rs ≡ []
unfolding rows_from
from_end rs i to h k = let l : length (take to rs) ≡ to = length-take-le to rs k in drop_of_length-le (take to rs) {i = i} (omega arith)

-- the rows from number i on are still to be counted
pub record Counting (rs : List Row) (to : ℕ) (room : Option ℕ) (from : ℕ) (left : Option ℕ) (i : ℕ) : Type 0 where
  pub rest : room_tombs room (rows_from from to rs) ≡ room_tombs left (rows_from i to rs)

pub count_start : (rs : List Row) (to : ℕ) (room : Option ℕ) (from : ℕ) → Counting rs to room from room from
count_start rs to room from = record { rest = refl }

pub to-rows : (log t : List ℕ) (m : Mark) (p : Spot) → rank p (rows log t m) ≤ length (rows log t m) → p.number ≤ length (rows log t m)
unfolding rank
to-rows log t m p h = h

pub here-rows : (rs : List Row) (i to : ℕ) → i < to → to ≤ length rs → rank (record { number = i }) rs < length rs
unfolding rank
here-rows rs i to h k = omega arith

module _ {rs : List Row} {to : ℕ} {room : Option ℕ} {from : ℕ} {left : Option ℕ} {i : ℕ} (w : Counting rs to room from left i) (k : to ≤ length rs) where
  pub count_next : i < to → {key : List ℕ} → key ≡ (row_at (record { number = i }) rs).key → {more : Option ℕ} → more ≡ room_after left (length key) 0 → Counting rs to room from more (i + 1)
  unfolding room_tombs row_at rank
  count_next h {key} e {more} f =
      record {
        rest =
            w.rest ∙ ap (room_tombs left) (from_next rs i to h k)
            ∙ ap (λ (x : Option ℕ). room_tombs x (rows_from (suc i) to rs)) (ap (λ (y : List ℕ). room_after left (length y) 0) (sym e) ∙ sym f)
            ∙ ap (λ (n : ℕ). room_tombs more (rows_from n to rs)) (sym (add-one i));
      }

  pub count_end : to ≤ i → left ≡ room_tombs room (rows_from from to rs)
  unfolding room_tombs
  count_end h = sym (w.rest ∙ ap (room_tombs left) (from_end rs i to h k))

pub counted_is : (p q : Spot) (rs : List Row) (room left : Option ℕ) → left ≡ room_tombs room (rows_from p.number q.number rs) → left ≡ room_tombs room (between p q rs)
unfolding between rank
counted_is p q rs room left e = e

-- there is room for all of them, or not

room-none : (rs : List Row) → room_tombs None rs ≡ None
unfolding room_tombs
room-none [] = refl
room-none (r ∷ rs) = room-none rs

room-over : (a n : ℕ) → n < a → pick (leb a n) (Some (n - a)) None ≡ None
room-over a n h = rw (lt-leb a n h)

room_shift : (a b n : ℕ) → a ≤ n → pick (leb b (n - a)) (Some (n - a - b)) None ≡ pick (leb (a + b) n) (Some (n - (a + b))) None
room_shift a b n h =
    elim (dec_le (a + b) n) [
      | yes k ↦ let e : n - a - b ≡ n - (a + b) = omega arith in rw (le-leb (a + b) n k, le-leb b (n - a) (omega arith), e)
      | no k ↦ rw (lt-leb (a + b) n (omega arith), lt-leb b (n - a) (omega arith))
    ]

pub room_says : (rs : List Row) (n : ℕ) → room_tombs (Some n) rs ≡ pick (leb (size_all (tombstones rs)) n) (Some (n - size_all (tombstones rs))) None
unfolding room_tombs tombstones size_all
room_says [] n = let e : n ≡ n - 0 = omega arith in rw (le-leb 0 n (omega arith)) (ap Some e)
room_says (r ∷ rs) n = go (leb (8 + length r.key + 0) n) refl (room_says rs (n - (8 + length r.key + 0)))
  where
    go : (b : Bool) → leb (8 + length r.key + 0) n ≡ b
        → room_tombs (Some (n - (8 + length r.key + 0))) rs
        ≡ pick (leb (size_all (tombstones rs)) (n - (8 + length r.key + 0))) (Some (n - (8 + length r.key + 0) - size_all (tombstones rs))) None
        → room_tombs (pick b (Some (n - (8 + length r.key + 0))) None) rs ≡ pick (leb (8 + length r.key + 0 + size_all (tombstones rs)) n) (Some (n - (8 + length r.key + 0 + size_all (tombstones rs)))) None
    go true e ih = ih ∙ room_shift (8 + length r.key + 0) (size_all (tombstones rs)) n (leb-true (8 + length r.key + 0) n e)
    go false e ih =
        let h : n < 8 + length r.key + 0 = leb-false (8 + length r.key + 0) n e in
        room-none rs ∙ sym (room-over (8 + length r.key + 0 + size_all (tombstones rs)) n (omega arith))
