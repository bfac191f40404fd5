-- The map of a store: pairs of a key and its value, the keys strictly rising. Everything above the log speaks of this map and never of
-- the table's words. Assumes nothing.
use Rattle.std.specs.declared.cmp.Ordering.TheVariants.{Less}
use Rattle.std.specs.Prelude.{Bool, true, false, List, [], ◌∷◌, ◌≡◌, ℕ, Option, None, Some}
use Rattle.keycode.specs.Tests.{pick}
use Rattle.keycode.specs.Order.{compare_bytes, by_order}
use Rattle.bitcask.specs.entry.Entry.{Entry, set, del}
use Rattle.bitcask.specs.keydir.Place.{All}

pub record Pair : Type 0 where
  pub key : List ℕ
  pub value : List ℕ

-- the value of a key
unfoldable pub look_in : List ℕ → List Pair → Option (List ℕ)
look_in k [] = None
look_in k (q ∷ m) = by_order (compare_bytes q.key k) (look_in k m) (Some q.value) None

abbrev pub is_some : Option (List ℕ) → Bool
is_some None = false
is_some (Some v) = true

-- whether a key has one
unfoldable pub live_in : List ℕ → List Pair → Bool
live_in key m = is_some (look_in key m)

-- with a pair put in, in place of one of the same key
unfoldable pub put_in : Pair → List Pair → List Pair
put_in p [] = p ∷ []
put_in p (q ∷ m) = by_order (compare_bytes q.key p.key) (q ∷ put_in p m) (p ∷ m) (p ∷ q ∷ m)

-- without a key
unfoldable pub cut_in : List ℕ → List Pair → List Pair
cut_in k [] = []
cut_in k (q ∷ m) = by_order (compare_bytes q.key k) (q ∷ cut_in k m) m (q ∷ m)

-- what an entry makes of the map
unfoldable pub after : Entry → List Pair → List Pair
after (set k v) m = put_in (record { key = k; value = v }) m
after (del k) m = cut_in k m

-- the keys strictly rise
pub data Rising : List Pair → Type 0 where
  rising_none : Rising []
  rising-more : {p : Pair} {m : List Pair} → All (λ (q : Pair). compare_bytes p.key q.key ≡ Less) m → Rising m → Rising (p ∷ m)

-- the pairs of a map whose keys a test admits
unfoldable pub pairs_of : (List ℕ → Bool) → List Pair → List Pair
pairs_of p [] = []
pairs_of p (q ∷ m) = pick (p q.key) (q ∷ pairs_of p m) (pairs_of p m)
