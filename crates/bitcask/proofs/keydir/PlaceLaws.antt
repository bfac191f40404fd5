-- Laws of the place of a key: its bounds for any slots, and on slots whose keys rise that halving finds the first that is not less,
-- with lesser keys before it and greater ones behind. Assumes nothing.
use Prim.Native.Nat.{ℕ, zero, suc, ◌+◌, ◌<◌, ◌≤◌}
use mathlib.Core.Path.{◌≡◌, refl, sym, ap, ◌∙◌, subst}
use mathlib.Core.Logic.{◌⊎◌, inl, inr}
use mathlib.Core.List.{List, [], ◌∷◌}
use native.Mathlib.Omega.{arith}
use lib.ListN.{length, get_or}
use Rattle.std.specs.Prelude.{Result, ℕ, Ok, Err}
use Rattle.std.specs.declared.cmp.Ordering.{Ordering}
use Rattle.std.specs.declared.cmp.Ordering.TheVariants.{Less, Equal, Greater}
use Rattle.keycode.specs.Order.{compare_bytes}
use Rattle.keycode.proofs.OrderLaws.{flip, compare_flip, compare_trans, compare_equal}
use Rattle.bitcask.specs.declared.keydir.slots.Slot.{Slot}
use Rattle.bitcask.specs.keydir.Slots.{free_slot, slot_at, slots_of, key_of}
use Rattle.bitcask.specs.keydir.Place.{halved, order_at, place_of, place_in, further, Sorted, sorted_more, Among}
use Rattle.bitcask.proofs.keydir.SlotLaws.{slot_at_is, slots_length}
use Rattle.bitcask.proofs.keydir.HalveLaws.{halved-among, among-order, among-at, among-before, Parted, Spot, Climbs, halved_spot}
use Rattle.bitcask.proofs.keydir.CountLaws.{all-at}

-- ---- the loop that searches

pub order_is : (log key t : List ℕ) (n i : ℕ) {s : Slot} {k : List ℕ} {o : Ordering} → i < n → s ≡ slot_at t i → k ≡ key_of log s → o ≡ compare_bytes k key
    → o ≡ order_at log key (slots_of n t) i
unfolding order_at
order_is log key t n i h e f g = g ∙ ap (λ (x : List ℕ). compare_bytes x key) (f ∙ ap (key_of log) (e ∙ slot_at_is n t i h))

-- the loop halves up to n, the definition up to the number of slots, which is n
pub place_is : (log key t : List ℕ) (n : ℕ) {r : Result ℕ ℕ} → r ≡ halved (order_at log key (slots_of n t)) 0 n → r ≡ place_of log key (slots_of n t)
unfolding place_of
place_is log key t n e = e ∙ ap (halved (order_at log key (slots_of n t)) 0) (sym (slots_length n t))

-- ---- any slots

module _ (log key : List ℕ) (ss : List Slot) where
  pub place-among : Among (length ss) (place_of log key ss)
  unfolding place_of
  place-among = halved-among (order_at log key ss) (length ss)

  pub place_at : (i : ℕ) → place_of log key ss ≡ Ok i → i < length ss
  place_at i e = among-at (length ss) (place_of log key ss) i place-among e

  pub place-before : (i : ℕ) → place_of log key ss ≡ Err i → i ≤ length ss
  place-before i e = among-before (length ss) (place_of log key ss) i place-among e

among-further : (n : ℕ) (r : Result ℕ ℕ) → Among n r → Among (suc n) (further r)
among-further n (Ok i) a = omega arith
among-further n (Err i) a = omega arith

pub place_in_among : (log key : List ℕ) (ss : List Slot) → Among (length ss) (place_in log key ss)
unfolding place_in
place_in_among log key [] = omega arith
place_in_among log key (s ∷ ss) =
    among-order (suc (length ss)) (compare_bytes (key_of log s) key) (further (place_in log key ss)) (Ok 0) (Err 0)
    (among-further (length ss) (place_in log key ss) (place_in_among log key ss)) (omega arith) (omega arith)

-- ---- slots whose keys rise

pub sorted-at : (log : List ℕ) (ss : List Slot) (i j : ℕ) → Sorted log ss → i < j → j < length ss → compare_bytes (key_of log (get_or ss i free_slot)) (key_of log (get_or ss j free_slot)) ≡ Less
sorted-at log [] i j s h k = absurd (omega arith)
sorted-at log (x ∷ ss) i zero (sorted_more a r) h k = absurd (omega arith)
sorted-at log (x ∷ ss) zero (suc j) (sorted_more a r) h k = all-at a j free_slot (omega arith)
sorted-at log (x ∷ ss) (suc i) (suc j) (sorted_more a r) h k = sorted-at log ss i j r (omega arith) (omega arith)

-- of two keys that rise the first is less than a third, or the second greater
apart : (a b key : List ℕ) (o : Ordering) → compare_bytes a key ≡ o → compare_bytes a b ≡ Less → (compare_bytes a key ≡ Less) ⊎ (compare_bytes b key ≡ Greater)
apart a b key Less e l = inl e
apart a b key Equal e l = inr (compare_flip key b ∙ ap flip (subst (λ (x : List ℕ). compare_bytes x b ≡ Less) (compare_equal a key e) l))
apart a b key Greater e l = inr (compare_flip key b ∙ ap flip (compare_trans key a b (compare_flip a key ∙ ap flip e) l))

module _ (log key : List ℕ) where
  sorted_climbs : (ss : List Slot) → Sorted log ss → Climbs (order_at log key ss) (length ss)
  unfolding order_at
  sorted_climbs ss s i j h k =
      apart (key_of log (get_or ss i free_slot)) (key_of log (get_or ss j free_slot)) key (compare_bytes (key_of log (get_or ss i free_slot)) key) refl (sorted-at log ss i j s h k)

  next : (s : Slot) (ss : List Slot) (low high : ℕ) → Parted (order_at log key (s ∷ ss)) (length (s ∷ ss)) (suc low) (suc high) → Parted (order_at log key ss) (length ss) low high
  unfolding order_at
  next s ss low high p = record { less = λ j h. p.less (suc j) (omega arith); greater = λ j h k. p.greater (suc j) (omega arith) (omega arith) }

  spot_place_lem : (ss : List Slot) (r : Result ℕ ℕ) → Spot (order_at log key ss) (length ss) r → r ≡ place_in log key ss
  unfolding place_in order_at
  spot_place_lem [] (Ok i) q = absurd (omega (arith, q.0))
  spot_place_lem [] (Err zero) q = refl
  spot_place_lem [] (Err (suc i)) q = absurd (omega (arith, q.0))
  spot_place_lem (s ∷ ss) (Ok zero) q = rw q.1
  spot_place_lem (s ∷ ss) (Ok (suc i)) q =
      let e : suc i + 1 ≡ suc (i + 1) = omega arith in
      rw (q.2.less 0 (omega arith)) (ap further (spot_place_lem ss (Ok i) (omega (arith, q.0), q.1, next s ss i (i + 1) (rw e at q.2))))
  spot_place_lem (s ∷ ss) (Err zero) q = rw (q.1.greater 0 (omega arith) (omega arith))
  spot_place_lem (s ∷ ss) (Err (suc i)) q =
      rw (q.1.less 0 (omega arith)) (ap further (spot_place_lem ss (Err i) (omega (arith, q.0), next s ss i i q.1)))

  module _ (ss : List Slot) (s : Sorted log ss) where
    pub place-sorted : place_of log key ss ≡ place_in log key ss
    unfolding place_of
    place-sorted = spot_place_lem ss (place_of log key ss) (halved_spot (order_at log key ss) (length ss) (sorted_climbs ss s))

    -- what the place says of the slots before it, at it and behind it
    pub place_spot : Spot (order_at log key ss) (length ss) (place_in log key ss)
    unfolding place_of
    place_spot = subst (λ (r : Result ℕ ℕ). Spot (order_at log key ss) (length ss) r) place-sorted (halved_spot (order_at log key ss) (length ss) (sorted_climbs ss s))
