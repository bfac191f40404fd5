-- The row of a key: what a caller knows of the place that was found, and in the words of the map. Assumes nothing.
use Prim.Native.Nat.{ℕ, zero, suc, ◌<◌}
use mathlib.Core.Path.{◌≡◌, refl, sym, ap, ◌∙◌, subst}
use mathlib.Core.Bool.{true, false}
use mathlib.Core.List.{List}
use lib.ListN.{length, get_or}
use Rattle.std.specs.Prelude.{Result, ℕ, Ok, Err, None, Some}
use Rattle.keycode.proofs.Basics.{nope}
use Rattle.bitcask.specs.declared.keydir.slots.Slot.{Slot}
use Rattle.bitcask.specs.keydir.Place.{place_in, Among, All, all_none, all_more}
use Rattle.bitcask.proofs.keydir.PlaceLaws.{place-sorted}
use Rattle.bitcask.specs.recovery.Map.{is_some, look_in, live_in}
use Rattle.bitcask.specs.recovery.Recover.{recovered, map_of}
use Rattle.bitcask.proofs.recovery.FoldLaws.{recovered-sorted}
use Rattle.bitcask.proofs.recovery.ViewLaws.{value_at, look-view}
use Rattle.bitcask.specs.declared.engine.spot.Spot.{Spot}
use Rattle.bitcask.specs.engine.Rows.{Row, blank, rows_of, rows_in, Stands}
use Rattle.bitcask.specs.engine.Spots.{rank, row_at, placed, place_by, row_found, look_row, is_found, has_row, row_value}
use Rattle.bitcask.proofs.engine.RowLaws.{rows_at, place-rows, in_stand}
use Rattle.bitcask.proofs.engine.RangeLaws.{place-among}

-- ---- what a caller knows

module _ (key : List ℕ) (rs : List Row) {f : Result Spot Spot} (says : placed f rs ≡ place_by key rs) (p : Spot) where
  -- a key that was found has a row, at a spot that stands
  pub found_stands : f ≡ Ok p → rank p rs < length rs
  found_stands e = among (place_by key rs) (place-among key rs) (sym says ∙ ap (λ (x : Result Spot Spot). placed x rs) e)
    where
      among : (q : Result ℕ ℕ) → Among (length rs) q → q ≡ Ok (rank p rs) → rank p rs < length rs
      among (Ok i) a e = let z : i ≡ rank p rs = cc in subst (λ (j : ℕ). j < length rs) z a
      among (Err i) a e = nope (cc)

  pub found_row : f ≡ Ok p → look_row key rs ≡ Some (row_at p rs)
  unfolding look_row row_at
  found_row e = rw (← says, e)

  pub found_has : f ≡ Ok p → true ≡ has_row key rs
  unfolding has_row
  found_has e = rw (← says, e)

  pub absent_row : f ≡ Err p → look_row key rs ≡ None
  unfolding look_row
  absent_row e = rw (← says, e)

  pub absent_has : f ≡ Err p → false ≡ has_row key rs
  unfolding has_row
  absent_has e = rw (← says, e)

-- ---- of the map

value_found : (log key : List ℕ) (ss : List Slot) (f : Result ℕ ℕ) → row_value (row_found f (rows_of log ss)) ≡ value_at log key ss f
value_found log key ss (Ok i) = ap (λ (r : Row). Some r.value) (rows_at log ss i)
value_found log key ss (Err i) = refl

-- the row of a key holds what the map does
pub look_in_lem : (log : List ℕ) (used : ℕ) (key : List ℕ) → row_value (look_row key (rows_in log used)) ≡ look_in key (map_of log used)
unfolding look_row rows_in map_of
look_in_lem log used key =
    ap (λ (f : Result ℕ ℕ). row_value (row_found f (rows_of log (recovered log used))))
    (place-rows log key (recovered log used) ∙ place-sorted log key (recovered log used) (recovered-sorted log used))
    ∙ value_found log key (recovered log used) (place_in log key (recovered log used)) ∙ look-view log key (recovered log used)

has_found : (f : Result ℕ ℕ) (rs : List Row) → is_found f ≡ is_some (row_value (row_found f rs))
has_found (Ok i) rs = refl
has_found (Err i) rs = refl

pub has_in : (log : List ℕ) (used : ℕ) (key : List ℕ) → has_row key (rows_in log used) ≡ live_in key (map_of log used)
unfolding has_row live_in look_row
has_in log used key = has_found (place_by key (rows_in log used)) (rows_in log used) ∙ ap is_some (look_in_lem log used key)

-- ---- a row that was found stands in its log

stands_at : (log : List ℕ) {rs : List Row} → All (Stands log) rs → (i : ℕ) → Stands log (get_or rs i blank)
stands_at log all_none i = record { key = refl; value = refl }
stands_at log (all_more w a) zero = w
stands_at log (all_more w a) (suc i) = stands_at log a i

pub look_stands : (log : List ℕ) (used : ℕ) (key : List ℕ) (r : Row) → look_row key (rows_in log used) ≡ Some r → Stands log r
unfolding look_row
look_stands log used key r e = go (place_by key (rows_in log used)) e
  where
    go : (f : Result ℕ ℕ) → row_found f (rows_in log used) ≡ Some r → Stands log r
    go (Ok i) q = let z : get_or (rows_in log used) i blank ≡ r = cc in subst (Stands log) z (stands_at log (in_stand log used) i)
    go (Err i) q = nope (cc)
