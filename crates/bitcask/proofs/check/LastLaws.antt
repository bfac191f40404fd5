-- The slot of a key, and that recovery leaves each key the slot of its last entry, or none after a tombstone. Assumes nothing.
use Prim.Native.Nat.{ℕ}
use mathlib.Core.Path.{◌≡◌, refl, ap, ◌∙◌, subst}
use mathlib.Core.Bool.{Bool, true, false}
use mathlib.Core.List.{List, [], ◌∷◌}
use Rattle.std.specs.Prelude.{Result, ℕ, Ok, Err, Option, None, Some}
use Rattle.std.specs.declared.cmp.Ordering.{Ordering}
use Rattle.std.specs.declared.cmp.Ordering.TheVariants.{Less, Equal, Greater}
use Rattle.keycode.specs.Tests.{pick}
use Rattle.keycode.specs.Order.{compare_bytes, by_order}
use Rattle.keycode.proofs.OrderLaws.{flip, compare_flip, compare_equal, compare_trans}
use Rattle.bitcask.specs.declared.keydir.slots.Slot.{Slot}
use Rattle.bitcask.specs.keydir.Slots.{insert_at, replace_at, remove_at, key_of}
use Rattle.bitcask.specs.keydir.Place.{place_in, further, put_at, cut_at, All, all_none, all_more, Sorted, sorted_none, sorted_more}
use Rattle.keycode.proofs.Basics.{nope}
use Rattle.bitcask.proofs.keydir.SortLaws.{all-turn}
use Rattle.bitcask.proofs.recovery.FoldLaws.{fold-sorted}
use Rattle.bitcask.specs.recovery.Recover.{Item, step_at, step, fold, items, recovered}
use Rattle.bitcask.specs.check.Told.{slot_found}

module _ (log k : List ℕ) where
  -- the slot of a key
  unfoldable pub slot_for : List Slot → Option Slot
  slot_for [] = None
  slot_for (s ∷ ss) = by_order (compare_bytes (key_of log s) k) (slot_for ss) (Some s) None

  abbrev pub leaves : Item → Option Slot
  leaves i = pick i.gone None (Some i.slot)

  -- the slot of the last entry of a key; what went before where none is
  unfoldable pub last_of : List Item → Option Slot → Option Slot
  last_of [] o = o
  last_of (i ∷ is) o = last_of is (by_order (compare_bytes (key_of log i.slot) k) o (leaves i) o)

  over_none : {ss : List Slot} → All (λ (x : Slot). compare_bytes k (key_of log x) ≡ Less) ss → slot_for ss ≡ None
  unfolding slot_for
  over_none all_none = refl
  over_none (all_more {x = x} e r) = rw (compare_flip k (key_of log x), e)

  -- as the search finds it
  found_further : (x : Slot) (ss : List Slot) (f : Result ℕ ℕ) → slot_found (further f) (x ∷ ss) ≡ slot_found f ss
  found_further x ss (Ok i) = refl
  found_further x ss (Err i) = refl

  found_on : (x : Slot) (ss : List Slot) (o : Ordering) → compare_bytes (key_of log x) k ≡ o → slot_found (place_in log k ss) ss ≡ slot_for ss
      → slot_found (place_in log k (x ∷ ss)) (x ∷ ss) ≡ slot_for (x ∷ ss)
  unfolding slot_for place_in
  found_on x ss Less e ih = rw (e, found_further x ss (place_in log k ss)) ih
  found_on x ss Equal e ih = rw e
  found_on x ss Greater e ih = rw e

  pub found_for : (ss : List Slot) → slot_found (place_in log k ss) ss ≡ slot_for ss
  unfolding slot_for place_in
  found_for [] = refl
  found_for (x ∷ ss) = found_on x ss (compare_bytes (key_of log x) k) refl (found_for ss)

-- ---- a slot put in, or a key's taken out

put-further : (s x : Slot) (ss : List Slot) (f : Result ℕ ℕ) → put_at s (further f) (x ∷ ss) ≡ x ∷ put_at s f ss
unfolding replace_at insert_at
put-further s x ss (Ok i) = refl
put-further s x ss (Err i) = refl

cut_further : (x : Slot) (ss : List Slot) (f : Result ℕ ℕ) → cut_at (further f) (x ∷ ss) ≡ x ∷ cut_at f ss
unfolding remove_at
cut_further x ss (Ok i) = refl
cut_further x ss (Err i) = refl

same_arms : {A : Type 0} (o : Ordering) (a : A) → a ≡ by_order o a a a
same_arms Less a = refl
same_arms Equal a = refl
same_arms Greater a = refl

-- what is below a key that is below another
over_below : (a b k : List ℕ) → compare_bytes a b ≡ Less → (compare_bytes a k ≡ Less → ⊥) → compare_bytes b k ≡ Greater
over_below a b k h n = go (compare_bytes a k) refl
  where
    flipped : compare_bytes k b ≡ Less → compare_bytes b k ≡ Greater
    flipped e = compare_flip k b ∙ ap flip e

    go : (o : Ordering) → compare_bytes a k ≡ o → compare_bytes b k ≡ Greater
    go Less e = absurd (n e)
    go Equal e = flipped (subst (λ (x : List ℕ). compare_bytes x b ≡ Less) (compare_equal a k e) h)
    go Greater e = flipped (compare_trans k a b (compare_flip a k ∙ ap flip e) h)

module _ (log k : List ℕ) where
  abbrev for : List Slot → Option Slot
  for ss = slot_for log k ss

  abbrev cmp : Slot → Ordering
  cmp s = compare_bytes (key_of log s) k

  module _ (s x : Slot) (ss : List Slot) where
    -- a slot before or in place of one whose key is not less
    put-here : (o : Ordering) → compare_bytes (key_of log s) (key_of log x) ≡ Less → cmp s ≡ o
        → by_order (cmp s) (for (x ∷ ss)) (Some s) None ≡ by_order (cmp s) (for (x ∷ ss)) (Some s) (for (x ∷ ss))
    unfolding slot_for
    put-here Less h e = rw e
    put-here Equal h e = rw e
    put-here Greater h e = rw (e, over_below (key_of log s) (key_of log x) k h (λ f. nope (cc)))

    put_same : (o : Ordering) → key_of log x ≡ key_of log s → cmp s ≡ o
        → by_order (cmp s) (for ss) (Some s) None ≡ by_order (cmp s) (for (x ∷ ss)) (Some s) (for (x ∷ ss))
    unfolding slot_for
    put_same Less h e = rw (h, e)
    put_same Equal h e = rw (h, e)
    put_same Greater h e = rw (h, e)

    put-past : {r : Option Slot} (o : Ordering) → compare_bytes (key_of log x) (key_of log s) ≡ Less → cmp x ≡ o → r ≡ by_order (cmp s) (for ss) (Some s) (for ss)
        → by_order (cmp x) r (Some x) None ≡ by_order (cmp s) (for (x ∷ ss)) (Some s) (for (x ∷ ss))
    unfolding slot_for
    put-past Less h e ih = rw e ih
    put-past Equal h e ih = rw (e, over_below (key_of log x) (key_of log s) k h (λ f. nope (cc)))
    put-past Greater h e ih = rw (e, over_below (key_of log x) (key_of log s) k h (λ f. nope (cc)))

    put_on : (o : Ordering) → compare_bytes (key_of log x) (key_of log s) ≡ o
        → for (put_at s (place_in log (key_of log s) ss) ss) ≡ by_order (cmp s) (for ss) (Some s) (for ss)
        → for (put_at s (place_in log (key_of log s) (x ∷ ss)) (x ∷ ss)) ≡ by_order (cmp s) (for (x ∷ ss)) (Some s) (for (x ∷ ss))
    unfolding slot_for place_in replace_at insert_at
    put_on Less e ih = rw (e, put-further s x ss (place_in log (key_of log s) ss)) (put-past (cmp x) e refl ih)
    put_on Equal e ih = rw e (put_same (cmp s) (compare_equal (key_of log x) (key_of log s) e) refl)
    put_on Greater e ih = rw e (put-here (cmp s) (compare_flip (key_of log x) (key_of log s) ∙ ap flip e) refl)

  put_for : (s : Slot) (ss : List Slot) → for (put_at s (place_in log (key_of log s) ss) ss) ≡ by_order (cmp s) (for ss) (Some s) (for ss)
  unfolding slot_for place_in insert_at
  put_for s [] = refl
  put_for s (x ∷ ss) = put_on s x ss (compare_bytes (key_of log x) (key_of log s)) refl (put_for s ss)

  module _ (j : List ℕ) (x : Slot) (ss : List Slot) where
    cut_past : {r : Option Slot} (o : Ordering) → compare_bytes (key_of log x) j ≡ Less → cmp x ≡ o → r ≡ by_order (compare_bytes j k) (for ss) None (for ss)
        → by_order (cmp x) r (Some x) None ≡ by_order (compare_bytes j k) (for (x ∷ ss)) None (for (x ∷ ss))
    unfolding slot_for
    cut_past Less h e ih = rw e ih
    cut_past Equal h e ih = rw (e, over_below (key_of log x) j k h (λ f. nope (cc)))
    cut_past Greater h e ih = rw (e, over_below (key_of log x) j k h (λ f. nope (cc)))

    cut_same : (o : Ordering) → All (λ (y : Slot). compare_bytes (key_of log x) (key_of log y) ≡ Less) ss → key_of log x ≡ j → compare_bytes j k ≡ o
        → for ss ≡ by_order (compare_bytes j k) (for (x ∷ ss)) None (for (x ∷ ss))
    unfolding slot_for
    cut_same Less a h e = rw (h, e)
    cut_same Equal a h e = rw (h, e) (over_none log k (subst (λ (y : List ℕ). All (λ (z : Slot). compare_bytes y (key_of log z) ≡ Less) ss) (h ∙ compare_equal j k e) a))
    cut_same Greater a h e =
        rw (h, e) (over_none log k (all-turn (λ z f. compare_trans k (key_of log x) (key_of log z) (ap (compare_bytes k) h ∙ compare_flip j k ∙ ap flip e) f) a))

    cut_here : (o : Ordering) → compare_bytes j (key_of log x) ≡ Less → compare_bytes j k ≡ o → for (x ∷ ss) ≡ by_order (compare_bytes j k) (for (x ∷ ss)) None (for (x ∷ ss))
    unfolding slot_for
    cut_here Less h e = rw e
    cut_here Equal h e = rw (e, over_below j (key_of log x) k h (λ f. nope (cc)))
    cut_here Greater h e = rw e

    cut_on : (o : Ordering) → All (λ (y : Slot). compare_bytes (key_of log x) (key_of log y) ≡ Less) ss → compare_bytes (key_of log x) j ≡ o
        → for (cut_at (place_in log j ss) ss) ≡ by_order (compare_bytes j k) (for ss) None (for ss)
        → for (cut_at (place_in log j (x ∷ ss)) (x ∷ ss)) ≡ by_order (compare_bytes j k) (for (x ∷ ss)) None (for (x ∷ ss))
    unfolding slot_for place_in remove_at
    cut_on Less a e ih = rw (e, cut_further x ss (place_in log j ss)) (cut_past (cmp x) e refl ih)
    cut_on Equal a e ih = rw e (cut_same (compare_bytes j k) a (compare_equal (key_of log x) j e) refl)
    cut_on Greater a e ih = rw e (cut_here (compare_bytes j k) (compare_flip (key_of log x) j ∙ ap flip e) refl)

  cut_for : (j : List ℕ) (ss : List Slot) → Sorted log ss → for (cut_at (place_in log j ss) ss) ≡ by_order (compare_bytes j k) (for ss) None (for ss)
  unfolding slot_for place_in
  cut_for j [] q = same_arms (compare_bytes j k) None
  cut_for j (x ∷ ss) (sorted_more a r) = cut_on j x ss (compare_bytes (key_of log x) j) a refl (cut_for j ss r)

  -- ---- recovery

  step_on_lem : (g : Bool) (s : Slot) (ss : List Slot) → Sorted log ss
      → for (step_at g s (place_in log (key_of log s) ss) ss) ≡ by_order (cmp s) (for ss) (pick g None (Some s)) (for ss)
  step_on_lem false s ss q = put_for s ss
  step_on_lem true s ss q = cut_for (key_of log s) ss q

  fold-last : (is : List Item) (ss : List Slot) → Sorted log ss → for (fold log is ss) ≡ last_of log k is (for ss)
  unfolding fold last_of step
  fold-last [] ss q = refl
  fold-last (i ∷ is) ss q = fold-last is (step log i ss) (fold-sorted log (i ∷ []) ss q) ∙ ap (last_of log k is) (step_on_lem i.gone i.slot ss q)

  pub recovered-last : (used : ℕ) → for (recovered log used) ≡ last_of log k (items log used 0) None
  unfolding recovered slot_for
  recovered-last used = fold-last (items log used 0) [] sorted_none
