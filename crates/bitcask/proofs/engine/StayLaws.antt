-- The place of a key when a greater one was set: it stays. Assumes nothing.
use mathlib.Core.Path.{◌≡◌, refl, ◌∙◌}
use mathlib.Core.List.{List, [], ◌∷◌}
use Prim.Native.Nat.{ℕ}
use Rattle.std.specs.declared.cmp.Ordering.{Ordering}
use Rattle.std.specs.declared.cmp.Ordering.TheVariants.{Less, Equal, Greater}
use Rattle.keycode.specs.Order.{compare_bytes}
use Rattle.keycode.proofs.OrderLaws.{compare_trans, compare_equal, compare_flip}
use Rattle.bitcask.specs.declared.keydir.slots.Slot.{Slot}
use Rattle.bitcask.specs.keydir.Slots.{key_of, insert_at, replace_at}
use Rattle.bitcask.specs.keydir.Place.{place_in, put_at}
use Rattle.bitcask.proofs.engine.SetLaws.{put-further}

module _ (log : List ℕ) (s : Slot) (k : List ℕ) (less : compare_bytes k (key_of log s) ≡ Less) where
  more : compare_bytes (key_of log s) k ≡ Greater
  more = compare_flip k (key_of log s) ∙ rw less

  -- a slot whose key is not the greater one's goes by its own order
  stays_less : (x : Slot) (ss : List Slot) → compare_bytes (key_of log x) (key_of log s) ≡ Less
      → place_in log k (put_at s (place_in log (key_of log s) ss) ss) ≡ place_in log k ss
      → place_in log k (put_at s (place_in log (key_of log s) (x ∷ ss)) (x ∷ ss)) ≡ place_in log k (x ∷ ss)
  unfolding place_in
  stays_less x ss e ih = rw (e, put-further s x ss (place_in log (key_of log s) ss), ih)

  stays-more : (x : Slot) (ss : List Slot) (o : Ordering) → compare_bytes (key_of log x) (key_of log s) ≡ o → compare_bytes (key_of log x) k ≡ Greater
      → place_in log k (put_at s (place_in log (key_of log s) ss) ss) ≡ place_in log k ss
      → place_in log k (put_at s (place_in log (key_of log s) (x ∷ ss)) (x ∷ ss)) ≡ place_in log k (x ∷ ss)
  unfolding place_in replace_at insert_at
  stays-more x ss Less e g ih = stays_less x ss e ih
  stays-more x ss Equal e g ih = rw (e, g, more)
  stays-more x ss Greater e g ih = rw (e, g, more)

  stays_on : (x : Slot) (ss : List Slot) (o : Ordering) → compare_bytes (key_of log x) k ≡ o
      → place_in log k (put_at s (place_in log (key_of log s) ss) ss) ≡ place_in log k ss
      → place_in log k (put_at s (place_in log (key_of log s) (x ∷ ss)) (x ∷ ss)) ≡ place_in log k (x ∷ ss)
  stays_on x ss Less g ih = stays_less x ss (compare_trans (key_of log x) k (key_of log s) g less) ih
  stays_on x ss Equal g ih = stays_less x ss (rw (compare_equal (key_of log x) k g) less) ih
  stays_on x ss Greater g ih = stays-more x ss (compare_bytes (key_of log x) (key_of log s)) refl g ih

  pub place-stays : (ss : List Slot) → place_in log k (put_at s (place_in log (key_of log s) ss) ss) ≡ place_in log k ss
  unfolding place_in insert_at
  place-stays [] = rw more
  place-stays (x ∷ ss) = stays_on x ss (compare_bytes (key_of log x) k) refl (place-stays ss)
