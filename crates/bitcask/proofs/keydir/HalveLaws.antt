-- Laws of halving: one turn of the search, that its answer lies between its ends, and what the answer means where the order climbs.
-- Nothing outside this file speaks of the number of turns. Assumes nothing.
use Prim.Native.Nat.{ℕ, zero, suc, ◌+◌, ◌-◌, ◌<◌, ◌≤◌}
use mathlib.Core.Path.{◌≡◌, refl, sym, ap, ◌∙◌}
use mathlib.Core.Logic.{◌⊎◌, inl, inr}
use native.Mathlib.Omega.{arith}
use native.Mathlib.Decide.{dec_lt}
use borrow.Author.Tests.{lt-ltb, le-ltb}
use Rattle.std.specs.Prelude.{Result, ℕ, Ok, Err}
use Rattle.std.specs.declared.cmp.Ordering.{Ordering}
use Rattle.std.specs.declared.cmp.Ordering.TheVariants.{Less, Equal, Greater}
use Rattle.keycode.proofs.Basics.{nope, Ordered, below, same, above, ordered}
use Rattle.bitcask.specs.keydir.Place.{by_order, middle, halve, halved, Among, index_of}

-- ---- one turn

over : (f : ℕ → Ordering) (n low high : ℕ) → high ≤ low → halve n f low high ≡ Err low
unfolding halve
over f zero low high h = refl
over f (suc n) low high h = rw (le-ltb low high h)

-- more turns than it takes change nothing
enough : (f : ℕ → Ordering) (m n low high : ℕ) → high - low ≤ m → high - low ≤ n → halve m f low high ≡ halve n f low high
unfolding halve
enough f zero n low high h k = sym (over f n low high (omega arith))
enough f (suc m) zero low high h k = over f (suc m) low high (omega arith)
enough f (suc m) (suc n) low high h k =
    elim (dec_lt low high) [
      | yes l ↦ rw (lt-ltb low high l, enough f m n (middle low high + 1) high (omega arith) (omega arith), enough f m n low (middle low high) (omega arith) (omega arith))
      | no l ↦ rw (le-ltb low high (omega arith))
    ]

pub halved_end : (f : ℕ → Ordering) (low high : ℕ) → high ≤ low → halved f low high ≡ Err low
unfolding halved
halved_end f low high h = over f (high - low) low high h

pub halved-turn : (f : ℕ → Ordering) (low high : ℕ) → low < high
    → halved f low high ≡ by_order (f (middle low high)) (halved f (middle low high + 1) high) (Ok (middle low high)) (halved f low (middle low high))
unfolding halved halve
halved-turn f low high h =
    enough f (high - low) (suc (high - low)) low high (omega arith) (omega arith)
    ∙ rw (
      lt-ltb low high h,
      enough f (high - low) (high - (middle low high + 1)) (middle low high + 1) high (omega arith) (omega arith),
      enough f (high - low) (middle low high - low) low (middle low high) (omega arith) (omega arith),
    )

-- ---- a loop that halves

-- what is left to search gives what the whole gives
pub record Halving (f : ℕ → Ordering) (n low high : ℕ) : Type 0 where
  pub order : low ≤ high
  pub within : high ≤ n
  pub same : halved f low high ≡ halved f 0 n

pub halving_start : (f : ℕ → Ordering) (n : ℕ) → Halving f n 0 n
halving_start f n = record { order = omega arith; within = omega arith; same = refl }

module _ {f : ℕ → Ordering} {n low high : ℕ} (w : Halving f n low high) where
  pub halving_end : high ≤ low → Err low ≡ halved f 0 n
  halving_end h = sym (halved_end f low high h) ∙ w.same

  -- the order in the middle is o
  module _ (h : low < high) {o : Ordering} (q : o ≡ f (middle low high)) where
    turn : by_order o (halved f (middle low high + 1) high) (Ok (middle low high)) (halved f low (middle low high)) ≡ halved f 0 n
    turn = rw q (sym (halved-turn f low high h)) ∙ w.same

    pub halving_up : o ≡ Less → Halving f n (middle low high + 1) high
    halving_up e = record { order = omega arith; within = w.within; same = rw e at turn }

    pub halving_at : o ≡ Equal → Ok (middle low high) ≡ halved f 0 n
    halving_at e = rw e at turn

    pub halving_down : o ≡ Greater → Halving f n low (middle low high)
    halving_down e = record { order = omega arith; within = omega (arith, w.within); same = rw e at turn }

-- ---- the answer lies between the ends

pub among-order : (n : ℕ) (o : Ordering) (a b c : Result ℕ ℕ) → Among n a → Among n b → Among n c → Among n (by_order o a b c)
among-order n Less a b c x y z = x
among-order n Equal a b c x y z = y
among-order n Greater a b c x y z = z

halve-among : (f : ℕ → Ordering) (n m low high : ℕ) → low ≤ high → high ≤ n → Among n (halve m f low high)
unfolding halve
halve-among f n zero low high h k = omega arith
halve-among f n (suc m) low high h k =
    elim (dec_lt low high) [
      | yes l ↦ rw (lt-ltb low high l)
          (among-order n (f (middle low high)) (halve m f (middle low high + 1) high) (Ok (middle low high)) (halve m f low (middle low high))
          (halve-among f n m (middle low high + 1) high (omega arith) k) (omega arith) (halve-among f n m low (middle low high) (omega arith) (omega arith)))
      | no l ↦ rw (le-ltb low high (omega arith)) (omega arith)
    ]

pub halved-among : (f : ℕ → Ordering) (n : ℕ) → Among n (halved f 0 n)
unfolding halved
halved-among f n = halve-among f n (n - 0) 0 n (omega arith) (omega arith)

-- of a place that is known
module _ (n : ℕ) (r : Result ℕ ℕ) (i : ℕ) (a : Among n r) where
  pub among-at : r ≡ Ok i → i < n
  among-at e = rw e at a

  pub among-before : r ≡ Err i → i ≤ n
  among-before e = rw e at a

pub among_index : (n : ℕ) (r : Result ℕ ℕ) → Among n r → index_of r ≤ n
among_index n (Ok i) a = omega arith
among_index n (Err i) a = a

-- ---- what the answer means

-- Less below low, Greater from high on
pub record Parted (f : ℕ → Ordering) (n low high : ℕ) : Type 0 where
  pub less : (j : ℕ) → j < low → f j ≡ Less
  pub greater : (j : ℕ) → high ≤ j → j < n → f j ≡ Greater

-- the place of Equal, with Less before it and Greater behind it; or where Less ends and Greater begins
abbrev pub Spot : (ℕ → Ordering) → ℕ → Result ℕ ℕ → Type 0
Spot f n (Ok i) = (i < n) × (f i ≡ Equal) × Parted f n i (i + 1)
Spot f n (Err i) = (i ≤ n) × Parted f n i i

-- Less, then at most one Equal, then Greater
abbrev pub Climbs : (ℕ → Ordering) → ℕ → Type 0
Climbs f n = (i j : ℕ) → i < j → j < n → (f i ≡ Less) ⊎ (f j ≡ Greater)

module _ (f : ℕ → Ordering) (n : ℕ) (climbs : Climbs f n) where
  less_below : (i j : ℕ) → i < j → j < n → (f j ≡ Greater → ⊥) → f i ≡ Less
  less_below i j h k q = go (climbs i j h k)
    where
      go : (f i ≡ Less) ⊎ (f j ≡ Greater) → f i ≡ Less
      go (inl e) = e
      go (inr e) = absurd (q e)

  greater_above : (i j : ℕ) → i < j → j < n → (f i ≡ Less → ⊥) → f j ≡ Greater
  greater_above i j h k q = go (climbs i j h k)
    where
      go : (f i ≡ Less) ⊎ (f j ≡ Greater) → f j ≡ Greater
      go (inl e) = absurd (q e)
      go (inr e) = e

  module _ (low high m : ℕ) (p : Parted f n low high) (h : low ≤ m) (k : m < high) (l : high ≤ n) where
    part_up : f m ≡ Less → Parted f n (m + 1) high
    part_up e = record { less = λ j q. on j (ordered j m) q; greater = p.greater }
      where
        on : (j : ℕ) → Ordered j m → j < m + 1 → f j ≡ Less
        on j (below b) q = less_below j m b (omega arith) (λ g. nope (cc))
        on j (same b) q = ap f b ∙ e
        on j (above b) q = absurd (omega arith)

    part_down : f m ≡ Greater → Parted f n low m
    part_down e = record { less = p.less; greater = λ j q r. on j (ordered j m) q r }
      where
        on : (j : ℕ) → Ordered j m → m ≤ j → j < n → f j ≡ Greater
        on j (below b) q r = absurd (omega arith)
        on j (same b) q r = ap f b ∙ e
        on j (above b) q r = greater_above m j b r (λ g. nope (cc))

    part_at : f m ≡ Equal → Parted f n m (m + 1)
    part_at e = record {
      less = λ j q. less_below j m q (omega arith) (λ g. nope (cc));
      greater = λ j q r. greater_above m j (omega arith) r (λ g. nope (cc));
    }

    spot_order : (o : Ordering) → f m ≡ o → (a c : Result ℕ ℕ) → (Parted f n (m + 1) high → Spot f n a) → (Parted f n low m → Spot f n c) → Spot f n (by_order o a (Ok m) c)
    spot_order Less e a c x y = x (part_up e)
    spot_order Equal e a c x y = (omega arith, e, part_at e)
    spot_order Greater e a c x y = y (part_down e)

  halve_spot : (m low high : ℕ) → low ≤ high → high ≤ n → high - low ≤ m → Parted f n low high → Spot f n (halve m f low high)
  unfolding halve
  halve_spot zero low high h k l p = let e : high ≡ low = omega arith in (omega arith, rw e at p)
  halve_spot (suc m) low high h k l p =
      elim (dec_lt low high) [
        | yes q ↦ rw (lt-ltb low high q)
            (spot_order low high (middle low high) p (omega arith) (omega arith) k (f (middle low high)) refl (halve m f (middle low high + 1) high) (halve m f low (middle low high))
            (λ r. halve_spot m (middle low high + 1) high (omega arith) k (omega arith) r) (λ r. halve_spot m low (middle low high) (omega arith) (omega arith) (omega arith) r))
        | no q ↦ (let e : high ≡ low = omega arith in rw (le-ltb low high (omega arith)) (omega arith, rw e at p))
      ]

  pub halved_spot : Spot f n (halved f 0 n)
  unfolding halved
  halved_spot = halve_spot (n - 0) 0 n (omega arith) (omega arith) (omega arith)
      (record { less = λ j q. absurd (omega arith); greater = λ j q r. absurd (omega arith) })

-- where Less ends and Greater begins there is no other place
pub spot_only : (f : ℕ → Ordering) (n m : ℕ) (r : Result ℕ ℕ) → m ≤ n → Parted f n m m → Spot f n r → r ≡ Err m
spot_only f n m (Ok i) h p s = absurd (go (dec_lt i m))
  where
    go : Dec (i < m) → ⊥
    go (yes l) = cc (p.less i l, s.1)
    go (no l) = cc (p.greater i (omega arith) s.0, s.1)
spot_only f n m (Err i) h p s = ap Err (go (ordered i m))
  where
    go : Ordered i m → i ≡ m
    go (below l) = nope (cc (p.less i l, s.1.greater i (omega arith) (omega arith)))
    go (same e) = e
    go (above l) = nope (cc (s.1.less m l, p.greater m (omega arith) (omega (arith, s.0))))

pub parted_climbs : (f : ℕ → Ordering) (n m : ℕ) → Parted f n m m → Climbs f n
parted_climbs f n m p i j h k = go (dec_lt i m)
  where
    go : Dec (i < m) → (f i ≡ Less) ⊎ (f j ≡ Greater)
    go (yes l) = inl (p.less i l)
    go (no l) = inr (p.greater j (omega arith) k)
