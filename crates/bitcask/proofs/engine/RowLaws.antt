-- Rows of any slots, and of a table that agrees. Assumes nothing.
use Prim.Native.Nat.{ℕ, zero, suc, ◌+◌}
use mathlib.Core.Path.{◌≡◌, refl, ap, ◌∙◌}
use mathlib.Core.List.{List, [], ◌∷◌}
use lib.ListN.{length, take, drop, get_or}
use lib.Seq.{drop-drop}
use Rattle.keycode.specs.Order.{compare_bytes}
use Rattle.bitcask.specs.declared.keydir.slots.Slot.{Slot}
use Rattle.bitcask.specs.keydir.Slots.{free_slot, slots_of, key_of, value_of}
use Rattle.bitcask.specs.keydir.Place.{All, all_none, all_more, halved, order_at, place_of}
use Rattle.bitcask.proofs.keydir.SlotLaws.{slots_length}
use Rattle.bitcask.specs.recovery.Map.{Pair}
use Rattle.bitcask.specs.recovery.Recover.{recovered, view, map_of}
use Rattle.bitcask.proofs.recovery.AgreeLaws.{agrees-slots}
use Rattle.bitcask.specs.declared.answers.Bound.{Bound}
use Rattle.bitcask.specs.declared.answers.Bound.TheVariants.{Included, Excluded, Unbounded}
use Rattle.bitcask.specs.read.Ranks.{before_at, through_at, below, upto, from_bound, upto_bound}
use Rattle.bitcask.specs.declared.engine.mark.Mark.{Mark}
use Rattle.bitcask.specs.engine.Rows.{Row, blank, row_of, rows_of, rows, pairs, rows_in, Stands}
use Rattle.bitcask.specs.engine.Marks.{Agreeing}
use Rattle.bitcask.specs.engine.Spots.{order_in, place_by, from_rank, upto_rank}

-- ---- of slots

module _ (log : List ℕ) where
  pub rows-length : (ss : List Slot) → length (rows_of log ss) ≡ length ss
  unfolding rows_of
  rows-length [] = refl
  rows-length (s ∷ ss) = ap suc (rows-length ss)

  pub rows_at : (ss : List Slot) (i : ℕ) → get_or (rows_of log ss) i blank ≡ row_of log (get_or ss i free_slot)
  unfolding rows_of key_of value_of
  rows_at [] i = refl
  rows_at (s ∷ ss) zero = refl
  rows_at (s ∷ ss) (suc i) = rows_at ss i

  pub pairs-view : (ss : List Slot) → pairs (rows_of log ss) ≡ view log ss
  unfolding rows_of pairs view
  pairs-view [] = refl
  pairs-view (s ∷ ss) = ap (λ (m : List Pair). record { key = key_of log s; value = value_of log s } ∷ m) (pairs-view ss)

  module _ (key : List ℕ) (ss : List Slot) where
    pub order-rows : (i : ℕ) → order_in key (rows_of log ss) i ≡ order_at log key ss i
    unfolding order_in order_at
    order-rows i = ap (λ (r : Row). compare_bytes r.key key) (rows_at ss i)

    pub place-rows : place_by key (rows_of log ss) ≡ place_of log key ss
    unfolding place_by place_of
    place-rows = λ j. halved (λ i. order-rows i j) 0 (rows-length ss j)

    pub from-rows : (b : Bound) → from_rank b key (rows_of log ss) ≡ from_bound b log key ss
    unfolding below upto
    from-rows Included = ap before_at place-rows
    from-rows Excluded = ap through_at place-rows
    from-rows Unbounded = refl

    pub upto-rows : (b : Bound) → upto_rank b key (rows_of log ss) ≡ upto_bound b log key ss
    unfolding below upto
    upto-rows Included = ap through_at place-rows
    upto-rows Excluded = ap before_at place-rows
    upto-rows Unbounded = rows-length ss

-- ---- of a log

pub in_map : (log : List ℕ) (used : ℕ) → pairs (rows_in log used) ≡ map_of log used
unfolding map_of rows_in
in_map log used = pairs-view log (recovered log used)

-- ---- rows stand in their log

take_taken : (n : ℕ) (xs : List ℕ) → take (length (take n xs)) xs ≡ take n xs
take_taken zero xs = refl
take_taken (suc n) [] = refl
take_taken (suc n) (x ∷ xs) = ap (λ (ys : List ℕ). x ∷ ys) (take_taken n xs)

-- where the first n bytes are all that there are, none follow
take_behind : (n m : ℕ) (xs : List ℕ) → take (length (take m (drop n xs))) (drop (length (take n xs)) xs) ≡ take m (drop n xs)
take_behind zero m xs = take_taken m xs
take_behind (suc n) zero [] = refl
take_behind (suc n) (suc m) [] = refl
take_behind (suc n) m (x ∷ xs) = take_behind n m xs

module _ (log : List ℕ) where
  stands_of : (s : Slot) → Stands log (row_of log s)
  unfolding key_of value_of
  stands_of s =
      record {
        key = take_taken s.klen (drop (s.place + 7) log);
        value = rw (← drop-drop s.klen (s.place + 7) log, ← drop-drop (length (take s.klen (drop (s.place + 7) log))) (s.place + 7) log)
            (take_behind s.klen s.vlen (drop (s.place + 7) log));
      }

  stand_all : (ss : List Slot) → All (Stands log) (rows_of log ss)
  unfolding rows_of
  stand_all [] = all_none
  stand_all (s ∷ ss) = all_more (stands_of s) (stand_all ss)

  pub rows_stand : (t : List ℕ) (m : Mark) → All (Stands log) (rows log t m)
  unfolding rows
  rows_stand t m = stand_all (slots_of m.count t)

  pub in_stand : (used : ℕ) → All (Stands log) (rows_in log used)
  unfolding rows_in
  in_stand used = stand_all (recovered log used)

-- ---- of a store that was entered

module _ (log t : List ℕ) (m : Mark) where
  pub rows-count : length (rows log t m) ≡ m.count
  unfolding rows
  rows-count = rows-length log (slots_of m.count t) ∙ slots_length m.count t

  module _ (g : Agreeing log t m) where
    -- the rows are those of recovery
    pub rows_agree : rows log t m ≡ rows_in log m.used.len
    unfolding rows rows_in
    rows_agree = ap (rows_of log) (ap (λ (n : ℕ). slots_of n t) g.count ∙ agrees-slots log m.used.len t g.agrees)

    -- and without their places they are the map
    pub rows-map : pairs (rows log t m) ≡ map_of log m.used.len
    rows-map = ap pairs rows_agree ∙ in_map log m.used.len
