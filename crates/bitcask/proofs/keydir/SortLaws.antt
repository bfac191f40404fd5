-- Laws of slots put in and taken out: what holds of each slot stays, and the keys go on rising. Assumes nothing.
use Prim.Native.Nat.{ℕ, zero, suc}
use mathlib.Core.Path.{◌≡◌, refl, ap, ◌∙◌, subst}
use mathlib.Core.List.{List, [], ◌∷◌, ◌++◌}
use lib.ListN.{take, drop}
use Rattle.std.specs.Prelude.{Result, ℕ, Ok, Err}
use Rattle.std.specs.declared.cmp.Ordering.{Ordering}
use Rattle.std.specs.declared.cmp.Ordering.TheVariants.{Less, Equal, Greater}
use Rattle.keycode.specs.Order.{compare_bytes}
use Rattle.keycode.proofs.OrderLaws.{flip, compare_flip, compare_trans, compare_equal}
use Rattle.bitcask.specs.declared.keydir.slots.Slot.{Slot}
use Rattle.bitcask.specs.keydir.Slots.{insert_at, replace_at, remove_at, key_of}
use Rattle.bitcask.specs.keydir.Place.{by_order, further, place_in, put_at, cut_at, All, all_none, all_more, Sorted, sorted_none, sorted_more}

-- ---- what holds of each

module _ {A : Type 0} {P : A → Type 0} where
  pub all_take : {xs : List A} → All P xs → (i : ℕ) → All P (take i xs)
  all_take all_none zero = all_none
  all_take all_none (suc i) = all_none
  all_take (all_more p r) zero = all_none
  all_take (all_more p r) (suc i) = all_more p (all_take r i)

  pub all_drop : {xs : List A} → All P xs → (i : ℕ) → All P (drop i xs)
  all_drop all_none zero = all_none
  all_drop all_none (suc i) = all_none
  all_drop (all_more p r) zero = all_more p r
  all_drop (all_more p r) (suc i) = all_drop r i

  pub all_append : {xs ys : List A} → All P xs → All P ys → All P (xs ++ ys)
  all_append all_none b = b
  all_append (all_more p r) b = all_more p (all_append r b)

  pub all-turn : {Q : A → Type 0} {xs : List A} → ((x : A) → P x → Q x) → All P xs → All Q xs
  all-turn f all_none = all_none
  all-turn f (all_more {x = x} p r) = all_more (f x p) (all-turn f r)

module _ {P : Slot → Type 0} (ss : List Slot) (a : All P ss) where
  pub all-put : (s : Slot) (f : Result ℕ ℕ) → P s → All P (put_at s f ss)
  unfolding replace_at insert_at
  all-put s (Ok i) p = all_append (all_take a i) (all_more p (all_drop a (suc i)))
  all-put s (Err i) p = all_append (all_take a i) (all_more p (all_drop a i))

  pub all_cut : (f : Result ℕ ℕ) → All P (cut_at f ss)
  unfolding remove_at
  all_cut (Ok i) = all_append (all_take a i) (all_drop a (suc i))
  all_cut (Err i) = a

-- ---- the keys rise

put-further : (x s : Slot) (ss : List Slot) (f : Result ℕ ℕ) → put_at s (further f) (x ∷ ss) ≡ x ∷ put_at s f ss
unfolding replace_at insert_at
put-further x s ss (Ok i) = refl
put-further x s ss (Err i) = refl

module _ (log : List ℕ) where
  abbrev Over : List ℕ → Slot → Type 0
  Over k x = compare_bytes k (key_of log x) ≡ Less

  -- what is over a key is over a lesser one
  over_less : (a b : List ℕ) (ss : List Slot) → compare_bytes a b ≡ Less → All (Over b) ss → All (Over a) ss
  over_less a b ss l q = all-turn (λ x h. compare_trans a b (key_of log x) l h) q

  module _ (s x : Slot) (ss : List Slot) (a : All (Over (key_of log x)) ss) (r : Sorted log ss) where
    put_order : (o : Ordering) → compare_bytes (key_of log x) (key_of log s) ≡ o → (f : Result ℕ ℕ) → Sorted log (put_at s f ss) → Sorted log (put_at s (by_order o (further f) (Ok 0) (Err 0)) (x ∷ ss))
    unfolding replace_at insert_at
    put_order Less e f ih = rw (put-further x s ss f) (sorted_more (all-put ss a s f e) ih)
    put_order Equal e f ih = sorted_more (subst (λ (k : List ℕ). All (Over k) ss) (compare_equal (key_of log x) (key_of log s) e) a) r
    put_order Greater e f ih =
        let l : compare_bytes (key_of log s) (key_of log x) ≡ Less = compare_flip (key_of log x) (key_of log s) ∙ ap flip e in
        sorted_more (all_more l (over_less (key_of log s) (key_of log x) ss l a)) (sorted_more a r)

  pub sorted-put : (s : Slot) (ss : List Slot) → Sorted log ss → Sorted log (put_at s (place_in log (key_of log s) ss) ss)
  unfolding place_in insert_at
  sorted-put s [] q = sorted_more all_none sorted_none
  sorted-put s (x ∷ ss) (sorted_more a r) =
      put_order s x ss a r (compare_bytes (key_of log x) (key_of log s)) refl (place_in log (key_of log s) ss) (sorted-put s ss r)

  sorted_remove : (ss : List Slot) (i : ℕ) → Sorted log ss → Sorted log (remove_at i ss)
  unfolding remove_at
  sorted_remove [] zero q = q
  sorted_remove [] (suc i) q = q
  sorted_remove (x ∷ ss) zero (sorted_more a r) = r
  sorted_remove (x ∷ ss) (suc i) (sorted_more a r) = sorted_more (all_append (all_take a i) (all_drop a (suc i))) (sorted_remove ss i r)

  pub sorted_cut : (ss : List Slot) (f : Result ℕ ℕ) → Sorted log ss → Sorted log (cut_at f ss)
  sorted_cut ss (Ok i) q = sorted_remove ss i q
  sorted_cut ss (Err i) q = q

-- ---- another log in which the slots' keys are the same

module _ (log log' : List ℕ) where
  abbrev pub Kept : Slot → Type 0
  Kept s = key_of log' s ≡ key_of log s

  pub place_kept : (key : List ℕ) (ss : List Slot) → All Kept ss → place_in log' key ss ≡ place_in log key ss
  unfolding place_in
  place_kept key [] a = refl
  place_kept key (s ∷ ss) (all_more e a) = rw (e, place_kept key ss a)
