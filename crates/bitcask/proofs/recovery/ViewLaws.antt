-- Laws of the map that slots of a log stand for: what is done to the slots at the place of a key is what is done to the map.
-- Assumes nothing.
use Prim.Native.Nat.{ℕ, suc}
use mathlib.Core.Path.{◌≡◌, refl, ap}
use mathlib.Core.List.{List, [], ◌∷◌}
use lib.ListN.{length, get_or}
use Rattle.std.specs.Prelude.{Result, ℕ, Ok, Err, Option, None, Some}
use Rattle.std.specs.declared.cmp.Ordering.{Ordering}
use Rattle.std.specs.declared.cmp.Ordering.TheVariants.{Less, Equal, Greater}
use Rattle.keycode.specs.Order.{compare_bytes}
use Rattle.bitcask.specs.declared.keydir.slots.Slot.{Slot}
use Rattle.bitcask.specs.keydir.Slots.{free_slot, insert_at, replace_at, remove_at, key_of, value_of}
use Rattle.bitcask.specs.keydir.Place.{place_in, further, put_at, cut_at, All, all_none, all_more, Sorted, sorted_none, sorted_more}
use Rattle.bitcask.specs.recovery.Map.{Pair, look_in, put_in, cut_in, Rising, rising_none, rising-more}
use Rattle.bitcask.specs.recovery.Recover.{view}
use Rattle.bitcask.proofs.recovery.MapLaws.{Over}

pub view-length : (log : List ℕ) (ss : List Slot) → length (view log ss) ≡ length ss
unfolding view
view-length log [] = refl
view-length log (s ∷ ss) = ap suc (view-length log ss)

-- ---- slots put in and taken out

put-further : (s x : Slot) (ss : List Slot) (f : Result ℕ ℕ) → put_at s (further f) (x ∷ ss) ≡ x ∷ put_at s f ss
unfolding replace_at insert_at
put-further s x ss (Ok i) = refl
put-further s x ss (Err i) = refl

cut_further : (x : Slot) (ss : List Slot) (f : Result ℕ ℕ) → cut_at (further f) (x ∷ ss) ≡ x ∷ cut_at f ss
unfolding remove_at
cut_further x ss (Ok i) = refl
cut_further x ss (Err i) = refl

-- the pair of a slot
abbrev pub pair_of : List ℕ → Slot → Pair
pair_of log s = record { key = key_of log s; value = value_of log s }

module _ (log : List ℕ) (s : Slot) where
  put_view_on : (x : Slot) (ss : List Slot) (o : Ordering) → compare_bytes (key_of log x) (key_of log s) ≡ o
      → view log (put_at s (place_in log (key_of log s) ss) ss) ≡ put_in (pair_of log s) (view log ss)
      → view log (put_at s (place_in log (key_of log s) (x ∷ ss)) (x ∷ ss)) ≡ put_in (pair_of log s) (view log (x ∷ ss))
  unfolding view put_in place_in replace_at insert_at
  put_view_on x ss Less e ih = rw (e, put-further s x ss (place_in log (key_of log s) ss)) (ap (λ (m : List Pair). pair_of log x ∷ m) ih)
  put_view_on x ss Equal e ih = rw e
  put_view_on x ss Greater e ih = rw e

  pub put_view : (ss : List Slot) → view log (put_at s (place_in log (key_of log s) ss) ss) ≡ put_in (pair_of log s) (view log ss)
  unfolding view put_in place_in insert_at
  put_view [] = refl
  put_view (x ∷ ss) = put_view_on x ss (compare_bytes (key_of log x) (key_of log s)) refl (put_view ss)

module _ (log key : List ℕ) where
  cut_view_on : (x : Slot) (ss : List Slot) (o : Ordering) → compare_bytes (key_of log x) key ≡ o
      → view log (cut_at (place_in log key ss) ss) ≡ cut_in key (view log ss)
      → view log (cut_at (place_in log key (x ∷ ss)) (x ∷ ss)) ≡ cut_in key (view log (x ∷ ss))
  unfolding view cut_in place_in remove_at
  cut_view_on x ss Less e ih = rw (e, cut_further x ss (place_in log key ss)) (ap (λ (m : List Pair). pair_of log x ∷ m) ih)
  cut_view_on x ss Equal e ih = rw e
  cut_view_on x ss Greater e ih = rw e

  pub cut_view : (ss : List Slot) → view log (cut_at (place_in log key ss) ss) ≡ cut_in key (view log ss)
  unfolding view cut_in place_in
  cut_view [] = refl
  cut_view (x ∷ ss) = cut_view_on x ss (compare_bytes (key_of log x) key) refl (cut_view ss)

  -- the value of the slot at a place
  abbrev pub value_at : List Slot → Result ℕ ℕ → Option (List ℕ)
  value_at ss (Ok i) = Some (value_of log (get_or ss i free_slot))
  value_at ss (Err i) = None

  value-further : (x : Slot) (ss : List Slot) (f : Result ℕ ℕ) → value_at (x ∷ ss) (further f) ≡ value_at ss f
  value-further x ss (Ok i) = refl
  value-further x ss (Err i) = refl

  look_view_on : (x : Slot) (ss : List Slot) (o : Ordering) → compare_bytes (key_of log x) key ≡ o
      → value_at ss (place_in log key ss) ≡ look_in key (view log ss)
      → value_at (x ∷ ss) (place_in log key (x ∷ ss)) ≡ look_in key (view log (x ∷ ss))
  unfolding view look_in place_in
  look_view_on x ss Less e ih = rw (e, value-further x ss (place_in log key ss)) ih
  look_view_on x ss Equal e ih = rw e
  look_view_on x ss Greater e ih = rw e

  pub look-view : (ss : List Slot) → value_at ss (place_in log key ss) ≡ look_in key (view log ss)
  unfolding view look_in place_in
  look-view [] = refl
  look-view (x ∷ ss) = look_view_on x ss (compare_bytes (key_of log x) key) refl (look-view ss)

-- ---- keys that rise

module _ (log : List ℕ) where
  view-over : (k : List ℕ) {ss : List Slot} → All (λ (x : Slot). compare_bytes k (key_of log x) ≡ Less) ss → Over k (view log ss)
  unfolding view
  view-over k all_none = all_none
  view-over k (all_more e r) = all_more e (view-over k r)

  pub sorted-rising : {ss : List Slot} → Sorted log ss → Rising (view log ss)
  unfolding view
  sorted-rising sorted_none = rising_none
  sorted-rising (sorted_more {s = s} a r) = rising-more (view-over (key_of log s) a) (sorted-rising r)
