-- A scan step by numbers is the first key that the bounds admit: on sorted slots a bound admits exactly the numbers on its side of the
-- rank that it names. Assumes nothing.
use Prim.Native.Nat.{ℕ, suc, ◌+◌, ◌≤◌, ◌<◌, max}
use mathlib.Core.Path.{◌≡◌, refl, sym, ap, ◌∙◌}
use mathlib.Core.Bool.{Bool, true, false}
use mathlib.Core.List.{List, [], ◌∷◌}
use native.Mathlib.Decide.{dec_lt, dec_le}
use native.Mathlib.Omega.{arith}
use lib.Dec.{leb, ltb}
use lib.ListN.{length, get_or}
use borrow.Author.Tests.{le-leb, lt-leb, lt-ltb, le-ltb}
use Rattle.std.specs.Prelude.{Result, ℕ, Ok, Err, None, Some}
use Rattle.std.specs.declared.cmp.Ordering.{Ordering}
use Rattle.std.specs.declared.cmp.Ordering.TheVariants.{Less, Equal, Greater}
use Rattle.keycode.specs.Tests.{pick}
use Rattle.keycode.proofs.Basics.{Ordered, below as lower, same, above, ordered}
use Rattle.bitcask.specs.declared.keydir.slots.Slot.{Slot}
use Rattle.bitcask.specs.keydir.Slots.{free_slot, key_of}
use Rattle.bitcask.specs.keydir.Place.{order_at, place_of, place_in, Sorted}
use Rattle.bitcask.proofs.keydir.HalveLaws.{Spot}
use Rattle.bitcask.proofs.keydir.PlaceLaws.{place-sorted, place_spot}
use Rattle.bitcask.specs.recovery.Recover.{view}
use Rattle.bitcask.specs.declared.answers.Bound.{Bound}
use Rattle.bitcask.specs.declared.answers.Bound.TheVariants.{Included, Excluded, Unbounded}
use Rattle.bitcask.specs.read.Ranks.{before_at, through_at, below, upto, from_bound, upto_bound, admits_low, admits_high, last_bound, admitted, first_of}

-- ---- the order at a number, by the ranks of a key

pub data Where (o : Ordering) (lo hi j : ℕ) : Type 0 where
  under : o ≡ Less → j < lo → Where o lo hi j
  among : o ≡ Equal → lo ≤ j → j < hi → Where o lo hi j
  over : o ≡ Greater → hi ≤ j → Where o lo hi j

ranks_rise : (f : Result ℕ ℕ) → before_at f ≤ through_at f
ranks_rise (Ok i) = omega arith
ranks_rise (Err i) = omega arith

where_at : (f : ℕ → Ordering) (n j : ℕ) (r : Result ℕ ℕ) → Spot f n r → j < n → Where (f j) (before_at r) (through_at r) j
where_at f n j (Ok i) s h = go (ordered j i)
  where
    go : Ordered j i → Where (f j) i (i + 1) j
    go (lower l) = under (s.2.less j l) l
    go (same e) = among (ap f e ∙ s.1) (omega arith) (omega arith)
    go (above l) = over (s.2.greater j (omega arith) h) (omega arith)
where_at f n j (Err i) s h = go (dec_lt j i)
  where
    go : Dec (j < i) → Where (f j) i i j
    go (yes l) = under (s.1.less j l) l
    go (no l) = over (s.1.greater j (omega arith) h) (omega arith)

module _ (log key : List ℕ) (ss : List Slot) (s : Sorted log ss) where
  pub where_is : (j : ℕ) → j < length ss → Where (order_at log key ss j) (below log key ss) (upto log key ss) j
  unfolding below upto
  where_is j h = rw (place-sorted log key ss s) (where_at (order_at log key ss) (length ss) j (place_in log key ss) (place_spot log key ss s) h)

  rise : below log key ss ≤ upto log key ss
  unfolding below upto
  rise = ranks_rise (place_of log key ss)

  module _ (j : ℕ) (h : j < length ss) where
    pub low_test : (b : Bound) → admits_low b (order_at log key ss j) ≡ leb (from_bound b log key ss) j
    low_test Included = go (where_is j h)
      where
        go : Where (order_at log key ss j) (below log key ss) (upto log key ss) j → admits_low Included (order_at log key ss j) ≡ leb (below log key ss) j
        go (under e l) = rw (e, lt-leb (below log key ss) j l)
        go (among e l k) = rw (e, le-leb (below log key ss) j l)
        go (over e l) = let q : below log key ss ≤ j = omega (arith, rise) in rw (e, le-leb (below log key ss) j q)
    low_test Excluded = go (where_is j h)
      where
        go : Where (order_at log key ss j) (below log key ss) (upto log key ss) j → admits_low Excluded (order_at log key ss j) ≡ leb (upto log key ss) j
        go (under e l) = let q : j < upto log key ss = omega (arith, rise) in rw (e, lt-leb (upto log key ss) j q)
        go (among e l k) = rw (e, lt-leb (upto log key ss) j k)
        go (over e l) = rw (e, le-leb (upto log key ss) j l)
    low_test Unbounded = sym (le-leb 0 j (omega arith))

    pub high_test : (b : Bound) → admits_high b (order_at log key ss j) ≡ ltb j (upto_bound b log key ss)
    high_test Included = go (where_is j h)
      where
        go : Where (order_at log key ss j) (below log key ss) (upto log key ss) j → admits_high Included (order_at log key ss j) ≡ ltb j (upto log key ss)
        go (under e l) = let q : j < upto log key ss = omega (arith, rise) in rw (e, lt-ltb j (upto log key ss) q)
        go (among e l k) = rw (e, lt-ltb j (upto log key ss) k)
        go (over e l) = rw (e, le-ltb j (upto log key ss) l)
    high_test Excluded = go (where_is j h)
      where
        go : Where (order_at log key ss j) (below log key ss) (upto log key ss) j → admits_high Excluded (order_at log key ss j) ≡ ltb j (below log key ss)
        go (under e l) = rw (e, lt-ltb j (below log key ss) l)
        go (among e l k) = rw (e, le-ltb j (below log key ss) l)
        go (over e l) = let q : below log key ss ≤ j = omega (arith, rise) in rw (e, le-ltb j (below log key ss) q)
    high_test Unbounded = sym (lt-ltb j (length ss) h)

-- ---- the first number between two

-- between start, included, and end, excluded
abbrev pub between : ℕ → ℕ → ℕ → Bool
between start end j = pick (leb start j) (ltb j end) false

both_lows : (a b e j : ℕ) → pick (leb a j) (pick (leb b j) (ltb j e) false) false ≡ between (max a b) e j
both_lows a b e j = go (dec_le a j) (dec_le b j)
  where
    go : Dec (a ≤ j) → Dec (b ≤ j) → pick (leb a j) (pick (leb b j) (ltb j e) false) false ≡ between (max a b) e j
    go (yes h) (yes g) = let m : max a b ≤ j = omega arith in rw (le-leb a j h, le-leb b j g, le-leb (max a b) j m)
    go (yes h) (no g) = let l : j < b = omega arith in let m : j < max a b = omega arith in rw (le-leb a j h, lt-leb b j l, lt-leb (max a b) j m)
    go (no h) d = let l : j < a = omega arith in let m : j < max a b = omega arith in rw (lt-leb a j l, lt-leb (max a b) j m)

module _ (log : List ℕ) (p : List ℕ → Bool) (start end : ℕ) where
  none_from : (i : ℕ) (ss : List Slot) → end ≤ i → ((j : ℕ) → j < length ss → p (key_of log (get_or ss j free_slot)) ≡ between start end (i + j)) → first_of p i (view log ss) ≡ None
  unfolding first_of view
  none_from i [] h q = refl
  none_from i (s ∷ ss) h q =
      let e : p (key_of log s) ≡ false = q 0 (omega arith) ∙ outside (i + 0) (omega arith) in
      rw e (none_from (suc i) ss (omega arith) (λ j l. q (suc j) (omega arith) ∙ moved j))
    where
      outside : (x : ℕ) → end ≤ x → between start end x ≡ false
      outside x g = rw (le-ltb x end g) (pick_false (leb start x))
        where
          pick_false : (t : Bool) → pick t false false ≡ false
          pick_false true = refl
          pick_false false = refl

      moved : (j : ℕ) → between start end (i + suc j) ≡ between start end (suc i + j)
      moved j = let z : i + suc j ≡ suc i + j = omega arith in ap (between start end) z

  first-from : (i : ℕ) (ss : List Slot) → i ≤ start → end ≤ i + length ss → ((j : ℕ) → j < length ss → p (key_of log (get_or ss j free_slot)) ≡ between start end (i + j))
      → first_of p i (view log ss) ≡ pick (ltb start end) (Some start) None
  unfolding first_of view
  first-from i [] h g q = let l : end ≤ start = omega arith in rw (le-ltb start end l)
  first-from i (s ∷ ss) h g q = go (dec_lt i start) (dec_lt i end) (λ a b r. first-from (suc i) ss a b r)
    where
      moved : (j : ℕ) → between start end (i + suc j) ≡ between start end (suc i + j)
      moved j = let z : i + suc j ≡ suc i + j = omega arith in ap (between start end) z

      here : p (key_of log s) ≡ between start end i
      here = let z : i + 0 ≡ i = omega arith in q 0 (omega arith) ∙ ap (between start end) z

      go : Dec (i < start) → Dec (i < end)
          → (suc i ≤ start → end ≤ suc i + length ss → ((j : ℕ) → j < length ss → p (key_of log (get_or ss j free_slot)) ≡ between start end (suc i + j)) → first_of p (suc i) (view log ss) ≡ pick (ltb start end) (Some start) None)
          → pick (p (key_of log s)) (Some i) (first_of p (suc i) (view log ss)) ≡ pick (ltb start end) (Some start) None
      go (yes a) d ih = rw (here, lt-leb start i a) (ih (omega arith) (omega arith) (λ j l. q (suc j) (omega arith) ∙ moved j))
      go (no a) (yes b) ih =
          let e : start ≡ i = omega arith in
          rw (here, e, le-leb i i (omega arith), lt-ltb i end b)
      go (no a) (no b) ih =
          let e : start ≡ i = omega arith in
          let k : end ≤ i = omega arith in
          rw (here, le-leb start i (omega arith), le-ltb i end k, e) (none_from (suc i) ss (omega arith) (λ j l. q (suc j) (omega arith) ∙ moved j) ∙ rw (le-ltb i end k))

-- ---- the step

module _ (log : List ℕ) (ss : List Slot) (s : Sorted log ss) (lower : Bound) (low : List ℕ) (upper : Bound) (high : List ℕ) (given : Bool) (last : List ℕ) where
  abbrev start_of : ℕ
  start_of = max (from_bound lower log low ss) (from_bound (last_bound given) log last ss)

  admitted-at : (j : ℕ) → j < length ss → admitted lower low upper high given last (key_of log (get_or ss j free_slot)) ≡ between start_of (upto_bound upper log high ss) (0 + j)
  unfolding admitted order_at
  admitted-at j h =
      let z : 0 + j ≡ j = omega arith in
      rw (z, low_test log low ss s j h lower, low_test log last ss s j h (last_bound given), high_test log high ss s j h upper)
      (both_lows (from_bound lower log low ss) (from_bound (last_bound given) log last ss) (upto_bound upper log high ss) j)

  pub first-is : upto_bound upper log high ss ≤ length ss
      → first_of (admitted lower low upper high given last) 0 (view log ss) ≡ pick (ltb start_of (upto_bound upper log high ss)) (Some start_of) None
  first-is h = first-from log (admitted lower low upper high given last) start_of (upto_bound upper log high ss) 0 ss (omega arith) (omega arith) admitted-at
