-- Laws of maps: the value of a key after a pair was put in or a key taken out, and that the keys rise still. Assumes nothing.
use Prim.Native.Nat.{ℕ}
use mathlib.Core.Path.{◌≡◌, refl, sym, ap, ◌∙◌, subst}
use Rattle.std.specs.Prelude.{Option, None, Some}
use mathlib.Core.List.{List, [], ◌∷◌}
use Rattle.std.specs.declared.cmp.Ordering.{Ordering}
use Rattle.std.specs.declared.cmp.Ordering.TheVariants.{Less, Equal, Greater}
use Rattle.keycode.specs.Order.{compare_bytes, by_order}
use Rattle.keycode.proofs.OrderLaws.{flip, compare_flip, compare_refl, compare_equal, compare_trans}
use Rattle.bitcask.specs.keydir.Place.{All, all_none, all_more}
use Rattle.bitcask.specs.recovery.Map.{Pair, look_in, put_in, cut_in, Rising, rising-more}

greater_less : (a b : List ℕ) → compare_bytes a b ≡ Greater → compare_bytes b a ≡ Less
greater_less a b e = compare_flip a b ∙ ap flip e

less_greater : (a b : List ℕ) → compare_bytes a b ≡ Less → compare_bytes b a ≡ Greater
less_greater a b e = compare_flip a b ∙ ap flip e

-- ---- the value of a key after a pair was put in

found_on : (p q : Pair) (m : List Pair) (o : Ordering) → compare_bytes q.key p.key ≡ o → look_in p.key (put_in p m) ≡ Some p.value
    → look_in p.key (put_in p (q ∷ m)) ≡ Some p.value
unfolding put_in look_in
found_on p q m Less e ih = rw e (rw e ih)
found_on p q m Equal e ih = rw (e, compare_refl p.key)
found_on p q m Greater e ih = rw (e, compare_refl p.key)

pub put_found : (p : Pair) (m : List Pair) → look_in p.key (put_in p m) ≡ Some p.value
unfolding put_in look_in
put_found p [] = rw (compare_refl p.key)
put_found p (q ∷ m) = found_on p q m (compare_bytes q.key p.key) refl (put_found p m)

module _ (k : List ℕ) (p : Pair) (n : p.key ≡ k → ⊥) where
  -- p before q, whose key is greater
  skip_on : (q : Pair) (m : List Pair) (o : Ordering) → compare_bytes p.key k ≡ o → compare_bytes q.key p.key ≡ Greater → look_in k (p ∷ q ∷ m) ≡ look_in k (q ∷ m)
  unfolding look_in
  skip_on q m Less e h = rw e
  skip_on q m Equal e h = absurd (n (compare_equal p.key k e))
  skip_on q m Greater e h =
      rw (e, less_greater k q.key (compare_trans k p.key q.key (greater_less p.key k e) (greater_less q.key p.key h)))

  -- p in place of q
  swap_on : (v : List ℕ) (r : Option (List ℕ)) (o : Ordering) → compare_bytes p.key k ≡ o
      → by_order (compare_bytes p.key k) r (Some p.value) None ≡ by_order (compare_bytes p.key k) r (Some v) None
  swap_on v r Less e = rw e
  swap_on v r Equal e = absurd (n (compare_equal p.key k e))
  swap_on v r Greater e = rw e

  other_on : (q : Pair) (m : List Pair) (o : Ordering) → compare_bytes q.key p.key ≡ o → look_in k (put_in p m) ≡ look_in k m → look_in k (put_in p (q ∷ m)) ≡ look_in k (q ∷ m)
  unfolding put_in look_in
  other_on q m Less e ih = rw (e, ih)
  other_on q m Equal e ih = rw (e, compare_equal q.key p.key e) (swap_on q.value (look_in k m) (compare_bytes p.key k) refl)
  other_on q m Greater e ih = rw e (skip_on q m (compare_bytes p.key k) refl e)

  alone : (o : Ordering) → compare_bytes p.key k ≡ o → by_order (compare_bytes p.key k) None (Some p.value) None ≡ None
  alone Less e = rw e
  alone Equal e = absurd (n (compare_equal p.key k e))
  alone Greater e = rw e

  pub put_other : (m : List Pair) → look_in k (put_in p m) ≡ look_in k m
  unfolding put_in look_in
  put_other [] = alone (compare_bytes p.key k) refl
  put_other (q ∷ m) = other_on q m (compare_bytes q.key p.key) refl (put_other m)

-- ---- keys that rise

-- every key of the map is greater
abbrev pub Over : List ℕ → List Pair → Type 0
Over k m = All (λ (q : Pair). compare_bytes k q.key ≡ Less) m

pub over-trans : (a b : List ℕ) {m : List Pair} → compare_bytes a b ≡ Less → Over b m → Over a m
over-trans a b h all_none = all_none
over-trans a b h (all_more {x = q} e r) = all_more (compare_trans a b q.key h e) (over-trans a b h r)

pub over-look : (k : List ℕ) {m : List Pair} → Over k m → look_in k m ≡ None
unfolding look_in
over-look k all_none = refl
over-look k (all_more {x = q} e r) = rw (less_greater k q.key e)

-- ---- the value of a key after one was taken out

gone_on : (k : List ℕ) (q : Pair) (m : List Pair) (o : Ordering) → compare_bytes q.key k ≡ o → Over q.key m → look_in k (cut_in k m) ≡ None → look_in k (cut_in k (q ∷ m)) ≡ None
unfolding cut_in look_in
gone_on k q m Less e a ih = rw e (rw e ih)
gone_on k q m Equal e a ih = rw e (over-look k (subst (λ (x : List ℕ). Over x m) (compare_equal q.key k e) a))
gone_on k q m Greater e a ih = rw e (rw e)

pub cut_gone : (k : List ℕ) (m : List Pair) → Rising m → look_in k (cut_in k m) ≡ None
unfolding cut_in look_in
cut_gone k [] s = refl
cut_gone k (q ∷ m) (rising-more a s) = gone_on k q m (compare_bytes q.key k) refl a (cut_gone k m s)

module _ (k j : List ℕ) (n : j ≡ k → ⊥) where
  -- the pair that was taken out is another key's
  cut_away : (q : Pair) (m : List Pair) (o : Ordering) → compare_bytes q.key k ≡ o → q.key ≡ j → Over q.key m → look_in k m ≡ look_in k (q ∷ m)
  unfolding look_in
  cut_away q m Less f e a = rw f
  cut_away q m Equal f e a = absurd (n (sym e ∙ compare_equal q.key k f))
  cut_away q m Greater f e a = rw f (over-look k (over-trans k q.key (greater_less q.key k f) a))

  cut_other_on : (q : Pair) (m : List Pair) (o : Ordering) → compare_bytes q.key j ≡ o → Over q.key m → look_in k (cut_in j m) ≡ look_in k m → look_in k (cut_in j (q ∷ m)) ≡ look_in k (q ∷ m)
  unfolding cut_in look_in
  cut_other_on q m Less e a ih = rw (e, ih)
  cut_other_on q m Equal e a ih = rw e (cut_away q m (compare_bytes q.key k) refl (compare_equal q.key j e) a)
  cut_other_on q m Greater e a ih = rw e

  pub cut_other : (m : List Pair) → Rising m → look_in k (cut_in j m) ≡ look_in k m
  unfolding cut_in look_in
  cut_other [] s = refl
  cut_other (q ∷ m) (rising-more a s) = cut_other_on q m (compare_bytes q.key j) refl a (cut_other m s)
