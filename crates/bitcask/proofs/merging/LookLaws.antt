-- Laws of the slot of a key: after a slot was put in or taken out at the place of its key, and that slots whose keys rise are decided by
-- it. Assumes nothing.
use Prim.Native.Nat.{ℕ}
use mathlib.Core.Path.{◌≡◌, refl, sym, ap, ◌∙◌, subst}
use mathlib.Core.List.{List, [], ◌∷◌}
use lib.ListN.{get_or}
use Rattle.std.specs.Prelude.{Result, ℕ, Ok, Err, Option, None, Some}
use Rattle.std.specs.declared.cmp.Ordering.{Ordering}
use Rattle.std.specs.declared.cmp.Ordering.TheVariants.{Less, Equal, Greater}
use Rattle.keycode.specs.Order.{compare_bytes, by_order}
use Rattle.keycode.proofs.Basics.{nope}
use Rattle.keycode.proofs.OrderLaws.{flip, compare_flip, compare_refl, compare_equal, compare_trans}
use Rattle.bitcask.specs.declared.keydir.slots.Slot.{Slot}
use Rattle.bitcask.specs.keydir.Slots.{free_slot, insert_at, replace_at, remove_at, key_of}
use Rattle.bitcask.specs.keydir.Place.{place_in, further, put_at, cut_at, All, all_none, all_more, Sorted, sorted_more}
use Rattle.bitcask.specs.merging.Merge.{look}

pub greater_less : (a b : List ℕ) → compare_bytes a b ≡ Greater → compare_bytes b a ≡ Less
greater_less a b e = compare_flip a b ∙ ap flip e

pub less_greater : (a b : List ℕ) → compare_bytes a b ≡ Less → compare_bytes b a ≡ Greater
less_greater a b e = compare_flip a b ∙ ap flip e

pub put-further : (s x : Slot) (ss : List Slot) (f : Result ℕ ℕ) → put_at s (further f) (x ∷ ss) ≡ x ∷ put_at s f ss
unfolding replace_at insert_at
put-further s x ss (Ok i) = refl
put-further s x ss (Err i) = refl

pub cut_further : (x : Slot) (ss : List Slot) (f : Result ℕ ℕ) → cut_at (further f) (x ∷ ss) ≡ x ∷ cut_at f ss
unfolding remove_at
cut_further x ss (Ok i) = refl
cut_further x ss (Err i) = refl

module _ (log : List ℕ) where
  -- every key is greater
  abbrev pub Over : List ℕ → List Slot → Type 0
  Over k ss = All (λ (x : Slot). compare_bytes k (key_of log x) ≡ Less) ss

  pub over-trans : (a b : List ℕ) {ss : List Slot} → compare_bytes a b ≡ Less → Over b ss → Over a ss
  over-trans a b h all_none = all_none
  over-trans a b h (all_more {x = q} e r) = all_more (compare_trans a b (key_of log q) h e) (over-trans a b h r)

  pub over-look : (k : List ℕ) {ss : List Slot} → Over k ss → look log k ss ≡ None
  unfolding look
  over-look k all_none = refl
  over-look k (all_more {x = q} e r) = rw (less_greater k (key_of log q) e)

  -- ---- the place of a key and its slot

  abbrev pub slot_by : List Slot → Result ℕ ℕ → Option Slot
  slot_by ss (Ok i) = Some (get_or ss i free_slot)
  slot_by ss (Err i) = None

  by_further : (x : Slot) (ss : List Slot) (f : Result ℕ ℕ) → slot_by (x ∷ ss) (further f) ≡ slot_by ss f
  by_further x ss (Ok i) = refl
  by_further x ss (Err i) = refl

  look_on : (k : List ℕ) (x : Slot) (ss : List Slot) (o : Ordering) → compare_bytes (key_of log x) k ≡ o → look log k ss ≡ slot_by ss (place_in log k ss)
      → look log k (x ∷ ss) ≡ slot_by (x ∷ ss) (place_in log k (x ∷ ss))
  unfolding look place_in
  look_on k x ss Less e ih = rw (e, by_further x ss (place_in log k ss)) ih
  look_on k x ss Equal e ih = rw e
  look_on k x ss Greater e ih = rw e

  pub look-place : (k : List ℕ) (ss : List Slot) → look log k ss ≡ slot_by ss (place_in log k ss)
  unfolding look place_in
  look-place k [] = refl
  look-place k (x ∷ ss) = look_on k x ss (compare_bytes (key_of log x) k) refl (look-place k ss)

  -- ---- after a slot was put in

  module _ (s : Slot) where
    own_on : (x : Slot) (ss : List Slot) (o : Ordering) → compare_bytes (key_of log x) (key_of log s) ≡ o
        → look log (key_of log s) (put_at s (place_in log (key_of log s) ss) ss) ≡ Some s
        → look log (key_of log s) (put_at s (place_in log (key_of log s) (x ∷ ss)) (x ∷ ss)) ≡ Some s
    unfolding look place_in replace_at insert_at
    own_on x ss Less e ih = rw (e, put-further s x ss (place_in log (key_of log s) ss)) (rw e ih)
    own_on x ss Equal e ih = rw (e, compare_refl (key_of log s))
    own_on x ss Greater e ih = rw (e, compare_refl (key_of log s))

    pub put_own : (ss : List Slot) → look log (key_of log s) (put_at s (place_in log (key_of log s) ss) ss) ≡ Some s
    unfolding look place_in insert_at
    put_own [] = rw (compare_refl (key_of log s))
    put_own (x ∷ ss) = own_on x ss (compare_bytes (key_of log x) (key_of log s)) refl (put_own ss)

  module _ (k : List ℕ) (s : Slot) (n : key_of log s ≡ k → ⊥) where
    -- s before x, whose key is greater
    skip_on : (x : Slot) (ss : List Slot) (o : Ordering) → compare_bytes (key_of log s) k ≡ o → compare_bytes (key_of log x) (key_of log s) ≡ Greater → look log k (s ∷ x ∷ ss) ≡ look log k (x ∷ ss)
    unfolding look
    skip_on x ss Less e h = rw e
    skip_on x ss Equal e h = absurd (n (compare_equal (key_of log s) k e))
    skip_on x ss Greater e h =
        rw (e, less_greater k (key_of log x) (compare_trans k (key_of log s) (key_of log x) (greater_less (key_of log s) k e) (greater_less (key_of log x) (key_of log s) h)))

    -- s in place of x
    swap_on : (x : Slot) (r : Option Slot) (o : Ordering) → compare_bytes (key_of log s) k ≡ o
        → by_order (compare_bytes (key_of log s) k) r (Some s) None ≡ by_order (compare_bytes (key_of log s) k) r (Some x) None
    swap_on x r Less e = rw e
    swap_on x r Equal e = absurd (n (compare_equal (key_of log s) k e))
    swap_on x r Greater e = rw e

    other_on : (x : Slot) (ss : List Slot) (o : Ordering) → compare_bytes (key_of log x) (key_of log s) ≡ o
        → look log k (put_at s (place_in log (key_of log s) ss) ss) ≡ look log k ss
        → look log k (put_at s (place_in log (key_of log s) (x ∷ ss)) (x ∷ ss)) ≡ look log k (x ∷ ss)
    unfolding look place_in replace_at insert_at
    other_on x ss Less e ih = rw (e, put-further s x ss (place_in log (key_of log s) ss)) (rw ih)
    other_on x ss Equal e ih = rw (e, compare_equal (key_of log x) (key_of log s) e) (swap_on x (look log k ss) (compare_bytes (key_of log s) k) refl)
    other_on x ss Greater e ih = rw e (skip_on x ss (compare_bytes (key_of log s) k) refl e)

    alone : (o : Ordering) → compare_bytes (key_of log s) k ≡ o → by_order (compare_bytes (key_of log s) k) None (Some s) None ≡ None
    alone Less e = rw e
    alone Equal e = absurd (n (compare_equal (key_of log s) k e))
    alone Greater e = rw e

    pub put_other : (ss : List Slot) → look log k (put_at s (place_in log (key_of log s) ss) ss) ≡ look log k ss
    unfolding look place_in insert_at
    put_other [] = alone (compare_bytes (key_of log s) k) refl
    put_other (x ∷ ss) = other_on x ss (compare_bytes (key_of log x) (key_of log s)) refl (put_other ss)

  -- ---- after a slot was taken out

  gone_on : (k : List ℕ) (x : Slot) (ss : List Slot) (o : Ordering) → compare_bytes (key_of log x) k ≡ o → Over (key_of log x) ss
      → look log k (cut_at (place_in log k ss) ss) ≡ None → look log k (cut_at (place_in log k (x ∷ ss)) (x ∷ ss)) ≡ None
  unfolding look place_in remove_at
  gone_on k x ss Less e a ih = rw (e, cut_further x ss (place_in log k ss)) (rw e ih)
  gone_on k x ss Equal e a ih = rw e (over-look k (subst (λ (y : List ℕ). Over y ss) (compare_equal (key_of log x) k e) a))
  gone_on k x ss Greater e a ih = rw e (rw e)

  pub cut_own : (k : List ℕ) (ss : List Slot) → Sorted log ss → look log k (cut_at (place_in log k ss) ss) ≡ None
  unfolding look place_in
  cut_own k [] q = refl
  cut_own k (x ∷ ss) (sorted_more a r) = gone_on k x ss (compare_bytes (key_of log x) k) refl a (cut_own k ss r)

  module _ (k j : List ℕ) (n : j ≡ k → ⊥) where
    -- the slot that was taken out is another key's
    cut_away : (x : Slot) (ss : List Slot) (o : Ordering) → compare_bytes (key_of log x) k ≡ o → key_of log x ≡ j → Over (key_of log x) ss → look log k ss ≡ look log k (x ∷ ss)
    unfolding look
    cut_away x ss Less f e a = rw f
    cut_away x ss Equal f e a = absurd (n (sym e ∙ compare_equal (key_of log x) k f))
    cut_away x ss Greater f e a = rw f (over-look k (over-trans k (key_of log x) (greater_less (key_of log x) k f) a))

    cut_other_on : (x : Slot) (ss : List Slot) (o : Ordering) → compare_bytes (key_of log x) j ≡ o → Over (key_of log x) ss
        → look log k (cut_at (place_in log j ss) ss) ≡ look log k ss → look log k (cut_at (place_in log j (x ∷ ss)) (x ∷ ss)) ≡ look log k (x ∷ ss)
    unfolding look place_in remove_at
    cut_other_on x ss Less e a ih = rw (e, cut_further x ss (place_in log j ss)) (rw ih)
    cut_other_on x ss Equal e a ih = rw e (cut_away x ss (compare_bytes (key_of log x) k) refl (compare_equal (key_of log x) j e) a)
    cut_other_on x ss Greater e a ih = rw e

    pub cut_other : (ss : List Slot) → Sorted log ss → look log k (cut_at (place_in log j ss) ss) ≡ look log k ss
    unfolding look place_in
    cut_other [] q = refl
    cut_other (x ∷ ss) (sorted_more a r) = cut_other_on x ss (compare_bytes (key_of log x) j) refl a (cut_other ss r)

  -- ---- slots whose keys rise are decided by the slot of each key

  head_look : (x : Slot) (ss : List Slot) → look log (key_of log x) (x ∷ ss) ≡ Some x
  unfolding look
  head_look x ss = rw (compare_refl (key_of log x))

  -- a key below the first is not there
  low-look : (k : List ℕ) (x : Slot) (ss : List Slot) → compare_bytes k (key_of log x) ≡ Less → look log k (x ∷ ss) ≡ None
  unfolding look
  low-look k x ss h = rw (less_greater k (key_of log x) h)

  tail_on : (k : List ℕ) (x : Slot) (xs ys : List Slot) (o : Ordering) → compare_bytes (key_of log x) k ≡ o → look log k (x ∷ xs) ≡ look log k (x ∷ ys)
      → Over (key_of log x) xs → Over (key_of log x) ys → look log k xs ≡ look log k ys
  unfolding look
  tail_on k x xs ys Less e h a b = rw e at h
  tail_on k x xs ys Equal e h a b =
      let q = compare_equal (key_of log x) k e in
      over-look k (subst (λ (y : List ℕ). Over y xs) q a) ∙ sym (over-look k (subst (λ (y : List ℕ). Over y ys) q b))
  tail_on k x xs ys Greater e h a b =
      let l = greater_less (key_of log x) k e in
      over-look k (over-trans k (key_of log x) l a) ∙ sym (over-look k (over-trans k (key_of log x) l b))

  heads : (x y : Slot) (xs ys : List Slot) (o : Ordering) → compare_bytes (key_of log x) (key_of log y) ≡ o → ((k : List ℕ) → look log k (x ∷ xs) ≡ look log k (y ∷ ys)) → x ≡ y
  heads x y xs ys Less e h = nope (cc (h (key_of log x), head_look x xs, low-look (key_of log x) y ys e))
  heads x y xs ys Equal e h =
      let q = compare_equal (key_of log x) (key_of log y) e in
      let p : look log (key_of log x) (y ∷ ys) ≡ Some y = ap (λ (k : List ℕ). look log k (y ∷ ys)) q ∙ head_look y ys in
      cc (h (key_of log x), head_look x xs)
  heads x y xs ys Greater e h = nope (cc (h (key_of log y), head_look y ys, low-look (key_of log y) x xs (greater_less (key_of log x) (key_of log y) e)))

  pub look_decides : (xs ys : List Slot) → Sorted log xs → Sorted log ys → ((k : List ℕ) → look log k xs ≡ look log k ys) → xs ≡ ys
  look_decides [] [] p q h = refl
  look_decides [] (y ∷ ys) p q h = nope (cc (h (key_of log y), head_look y ys, over-look (key_of log y) all_none))
  look_decides (x ∷ xs) [] p q h = nope (cc (h (key_of log x), head_look x xs, over-look (key_of log x) all_none))
  look_decides (x ∷ xs) (y ∷ ys) (sorted_more a p) (sorted_more b q) h =
      let e : x ≡ y = heads x y xs ys (compare_bytes (key_of log x) (key_of log y)) refl h in
      let b' : Over (key_of log x) ys = subst (λ (z : Slot). Over (key_of log z) ys) (sym e) b in
      let h' : (k : List ℕ) → look log k (x ∷ xs) ≡ look log k (x ∷ ys) = λ k. h k ∙ ap (λ (z : Slot). look log k (z ∷ ys)) (sym e) in
      ap (λ (z : Slot). z ∷ xs) e ∙ ap (λ (zs : List Slot). y ∷ zs) (look_decides xs ys p q (λ k. tail_on k x xs ys (compare_bytes (key_of log x) k) refl (h' k) a b'))
