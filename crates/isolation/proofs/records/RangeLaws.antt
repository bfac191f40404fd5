-- A range from one version of a key to another holds, of a map of records, exactly the key's version records between the two. The get and
-- a write's search both read such a range. Assumes nothing.
use Prim.Native.Nat.{ℕ, ◌^◌, ◌<◌}
use mathlib.Core.Path.{◌≡◌, refl, sym, ap, ◌∙◌}
use mathlib.Core.Bool.{Bool, true, false, ◌&&◌}
use mathlib.Core.Logic.{◌≢◌, if_pos, if_neg, by_cases}
use Rattle.std.specs.Prelude.{Option}
use mathlib.Core.List.{List, ◌∷◌}
use native.Mathlib.Omega.{arith}
use lib.Dec.{leb}
use borrow.Author.Tests.{le-leb, lt-leb}
use Rattle.std.specs.declared.cmp.Ordering.{Ordering}
use Rattle.std.specs.declared.cmp.Ordering.TheVariants.{Less, Equal, Greater}
use Rattle.keycode.specs.Tests.{pick}
use Rattle.keycode.specs.Order.{compare_nat, compare_bytes, and_then}
use Rattle.keycode.proofs.Basics.{Ordered, below, same, above, ordered}
use Rattle.keycode.proofs.OrderLaws.{nat_less, nat_equal, nat_greater, compare_equal, compare_refl}
use Rattle.keycode.specs.key.Keys.{encode, version}
use Rattle.keycode.proofs.key.KeyOrder.{order-version}
use Rattle.bitcask.specs.keydir.Place.{All, all_none, all_more}
use Rattle.bitcask.specs.declared.answers.Bound.TheVariants.{Included}
use Rattle.bitcask.specs.read.Ranks.{admits_low, admits_high}
use Rattle.bitcask.specs.engine.Ranges.{inside}
use Rattle.bitcask.specs.recovery.Map.{pairs_of}
use Rattle.isolation.specs.history.History.{key≟}
use Rattle.isolation.specs.history.Records.{Rec, next_rec, active_rec, snap_rec, wrote_rec, ver_rec, plain_rec, key_of, Map}
use Rattle.isolation.specs.history.Calls.{versions_of}
use Rattle.isolation.specs.records.Stored.{pair_of, pairs_in, Fine}

-- ---- a map's records one by one

module _ (p : List ℕ → Bool) (r : Rec) (m : Map) where
  pub pairs_yes : p (encode (key_of r)) ≡ true → pairs_of p (pairs_in (r ∷ m)) ≡ pair_of r ∷ pairs_of p (pairs_in m)
  unfolding pairs_of pairs_in
  pairs_yes e = rw e

  pub pairs_no : p (encode (key_of r)) ≡ false → pairs_of p (pairs_in (r ∷ m)) ≡ pairs_of p (pairs_in m)
  unfolding pairs_of pairs_in
  pairs_no e = rw e

module _ (p : ℕ → Bool) {k j : List ℕ} (v : ℕ) (o : Option (List ℕ)) (m : Map) where
  pub version_yes : j ≡ k → p v ≡ true → versions_of p k (ver_rec j v o ∷ m) ≡ ver_rec j v o ∷ versions_of p k m
  unfolding versions_of
  version_yes e i = if_pos (key≟ j k) e _ _ ∙ rw i

  pub version_no : j ≡ k → p v ≡ false → versions_of p k (ver_rec j v o ∷ m) ≡ versions_of p k m
  unfolding versions_of
  version_no e i = if_pos (key≟ j k) e _ _ ∙ rw i

  pub version-other : j ≢ k → versions_of p k (ver_rec j v o ∷ m) ≡ versions_of p k m
  unfolding versions_of
  version-other n = if_neg (key≟ j k) n _ _

pairs_cons : (r : Rec) (m : Map) → pairs_in (r ∷ m) ≡ pair_of r ∷ pairs_in m
unfolding pairs_in
pairs_cons r m = refl

-- ---- the range

-- the test by the two orders that it asks for
tested : Ordering → Ordering → Bool
tested a b = pick (admits_low Included a) (admits_high Included b) false

numbers : (a b v : ℕ) → tested (compare_nat v a) (compare_nat v b) ≡ leb a v && leb v b
unfolding tested
numbers a b v = go (ordered v a) (ordered v b)
  where
    high : Ordered v b → admits_high Included (compare_nat v b) ≡ leb v b
    high (below h) = rw (nat_less v b h, le-leb v b (omega arith))
    high (same e) = rw (nat_equal v b e, le-leb v b (omega arith))
    high (above h) = rw (nat_greater v b h, lt-leb v b h)

    go : Ordered v a → Ordered v b → pick (admits_low Included (compare_nat v a)) (admits_high Included (compare_nat v b)) false ≡ leb a v && leb v b
    go (below h) d = rw (nat_less v a h, lt-leb a v h)
    go (same e) d = rw (nat_equal v a e, le-leb a v (omega arith)) (high d)
    go (above h) d = rw (nat_greater v a h, le-leb a v (omega arith)) (high d)

-- the versions and the keys from one version to another, both included
abbrev pub between : ℕ → ℕ → ℕ → Bool
between a b x = leb a x && leb x b

abbrev pub version_range : List ℕ → ℕ → ℕ → List ℕ → Bool
version_range k a b = inside Included (encode (version k a)) Included (encode (version k b))

module _ (k : List ℕ) (a b : ℕ) (ha : a < 2 ^ 64) (hb : b < 2 ^ 64) where
  range_version : (j : List ℕ) (v : ℕ) → v < 2 ^ 64
      → version_range k a b (encode (version j v)) ≡ tested (and_then (compare_bytes j k) (compare_nat v a)) (and_then (compare_bytes j k) (compare_nat v b))
  unfolding inside tested
  range_version j v h = rw (order-version j k v a h ha, order-version j k v b h hb)

  range_same : (v : ℕ) → v < 2 ^ 64 → version_range k a b (encode (version k v)) ≡ between a b v
  range_same v h = range_version k v h ∙ rw (compare_refl k) (numbers a b v)

  range_other : (j : List ℕ) (v : ℕ) → v < 2 ^ 64 → j ≢ k → version_range k a b (encode (version j v)) ≡ false
  unfolding tested
  range_other j v h n = range_version j v h ∙ go (compare_bytes j k) refl
    where
      go : (o : Ordering) → compare_bytes j k ≡ o → tested (and_then o (compare_nat v a)) (and_then o (compare_nat v b)) ≡ false
      go Less e = refl
      go Equal e = absurd (n (compare_equal j k e))
      go Greater e = refl

  range_ver : (j : List ℕ) (v : ℕ) (o : Option (List ℕ)) (m : Map) → v < 2 ^ 64 → pairs_of (version_range k a b) (pairs_in m) ≡ pairs_in (versions_of (between a b) k m)
      → pairs_of (version_range k a b) (pairs_in (ver_rec j v o ∷ m)) ≡ pairs_in (versions_of (between a b) k (ver_rec j v o ∷ m))
  range_ver j v o m h i =
      by_cases (key≟ j k)
      (λ e. own e (between a b v) refl)
      (λ n. pairs_no (version_range k a b) (ver_rec j v o) m (range_other j v h n) ∙ i ∙ ap pairs_in (sym (version-other (between a b) v o m n)))
    where
      own : j ≡ k → (t : Bool) → between a b v ≡ t → pairs_of (version_range k a b) (pairs_in (ver_rec j v o ∷ m)) ≡ pairs_in (versions_of (between a b) k (ver_rec j v o ∷ m))
      own e true q =
          pairs_yes (version_range k a b) (ver_rec j v o) m (rw e (range_same v h ∙ q)) ∙ ap (λ z. pair_of (ver_rec j v o) ∷ z) i
          ∙ sym (pairs_cons (ver_rec j v o) (versions_of (between a b) k m)) ∙ ap pairs_in (sym (version_yes (between a b) v o m e q))
      own e false q = pairs_no (version_range k a b) (ver_rec j v o) m (rw e (range_same v h ∙ q)) ∙ i ∙ ap pairs_in (sym (version_no (between a b) v o m e q))

  pub range_pairs : {m : Map} → All Fine m → pairs_of (version_range k a b) (pairs_in m) ≡ pairs_in (versions_of (between a b) k m)
  unfolding pairs_of pairs_in versions_of inside compare_bytes compare_nat
  range_pairs all_none = refl
  range_pairs (all_more {x = next_rec n} f w) = range_pairs w
  range_pairs (all_more {x = active_rec v} f w) = range_pairs w
  range_pairs (all_more {x = snap_rec v s} f w) = range_pairs w
  range_pairs (all_more {x = wrote_rec v j} f w) = range_pairs w
  range_pairs (all_more {x = ver_rec j v o} {xs = m} f w) = range_ver j v o m f.0 (range_pairs w)
  range_pairs (all_more {x = plain_rec j y} f w) = range_pairs w
