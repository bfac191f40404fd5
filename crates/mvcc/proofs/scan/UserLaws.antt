-- The steps' tests of a Version key are tests of its user key alone: within the bounds, or beginning with the prefix, and past the last
-- given key. So a step reads all versions of a user key or none. Assumes nothing.
use Prim.Native.Nat.{ℕ, ◌^◌, ◌≤◌, ◌<◌}
use mathlib.Core.Path.{◌≡◌, refl, sym, ap, ◌∙◌}
use mathlib.Core.Bool.{Bool, true, false}
use mathlib.Core.List.{List, [], ◌∷◌}
use native.Mathlib.Omega.{arith}
use Rattle.std.specs.declared.cmp.Ordering.{Ordering}
use Rattle.std.specs.declared.cmp.Ordering.TheVariants.{Less, Equal, Greater}
use Rattle.keycode.specs.Tests.{pick}
use Rattle.keycode.specs.Order.{compare_nat, compare_bytes, and_then}
use Rattle.keycode.specs.key.Keys.{encode, version}
use Rattle.keycode.specs.Prefix.{searched}
use Rattle.keycode.proofs.Basics.{Ordered, below, same, above, ordered}
use Rattle.keycode.proofs.OrderLaws.{nat_less, nat_equal, nat_greater}
use Rattle.keycode.proofs.key.KeyOrder.{order-version}
use Rattle.keycode.proofs.key.PrefixKeys.{searched-begins, searched_only}
use Rattle.bitcask.specs.declared.answers.Bound.{Bound}
use Rattle.bitcask.specs.declared.answers.Bound.TheVariants.{Included, Excluded, Unbounded}
use Rattle.bitcask.specs.read.Ranks.{admits_low, admits_high, last_bound, admitted}
use Rattle.bitcask.specs.engine.Prefixes.{begins}
use Rattle.bitcask.proofs.engine.PrefixLaws.{begins-append, begins-split, same_tests}
use Rattle.mvcc.specs.scan.Bounds.{last_version, low_kind, low_bytes, high_kind, high_bytes, scanned, prefixed}

-- ---- versions do not decide

module _ (o : Ordering) where
  from_first : (v : ℕ) → (admits_low Included (and_then o (compare_nat v 0)) ≡ admits_low Included o) × (admits_high Excluded (and_then o (compare_nat v 0)) ≡ admits_high Excluded o)
  from_first v = go o (ordered v 0)
    where
      go : (x : Ordering) → Ordered v 0 → (admits_low Included (and_then x (compare_nat v 0)) ≡ admits_low Included x) × (admits_high Excluded (and_then x (compare_nat v 0)) ≡ admits_high Excluded x)
      go Less d = (refl, refl)
      go Greater d = (refl, refl)
      go Equal (below h) = absurd (omega arith)
      go Equal (same e) = rw (nat_equal v 0 e) (refl, refl)
      go Equal (above h) = rw (nat_greater v 0 h) (refl, refl)

  to_last : (v : ℕ) → v ≤ last_version → (admits_low Excluded (and_then o (compare_nat v last_version)) ≡ admits_low Excluded o) × (admits_high Included (and_then o (compare_nat v last_version)) ≡ admits_high Included o)
  to_last v l = go o (ordered v last_version)
    where
      go : (x : Ordering) → Ordered v last_version
          → (admits_low Excluded (and_then x (compare_nat v last_version)) ≡ admits_low Excluded x) × (admits_high Included (and_then x (compare_nat v last_version)) ≡ admits_high Included x)
      go Less d = (refl, refl)
      go Greater d = (refl, refl)
      go Equal (below h) = rw (nat_less v last_version h) (refl, refl)
      go Equal (same e) = rw (nat_equal v last_version e) (refl, refl)
      go Equal (above h) = absurd (omega arith)

not_before : (s : List ℕ) → admits_low Included (compare_bytes s []) ≡ true
unfolding compare_bytes
not_before [] = refl
not_before (x ∷ s) = refl

-- ---- the tests

module _ (s : List ℕ) (v : ℕ) (h : v < 256 ^ 8) where
  low-user : (b : Bound) (low : List ℕ) → admits_low (low_kind b) (compare_bytes (encode (version s v)) (low_bytes b low)) ≡ admits_low b (compare_bytes s low)
  low-user Included low = ap (admits_low Included) (order-version s low v 0 h (omega arith)) ∙ (from_first (compare_bytes s low) v).0
  low-user Excluded low = ap (admits_low Excluded) (order-version s low v last_version h (omega arith)) ∙ (to_last (compare_bytes s low) v (omega arith)).0
  low-user Unbounded low = ap (admits_low Included) (order-version s [] v 0 h (omega arith)) ∙ (from_first (compare_bytes s []) v).0 ∙ not_before s

  high-user : (b : Bound) (high : List ℕ) → admits_high (high_kind b) (compare_bytes (encode (version s v)) (high_bytes b high)) ≡ admits_high b (compare_bytes s high)
  unfolding compare_bytes compare_nat
  high-user Included high = ap (admits_high Included) (order-version s high v last_version h (omega arith)) ∙ (to_last (compare_bytes s high) v (omega arith)).1
  high-user Excluded high = ap (admits_high Excluded) (order-version s high v 0 h (omega arith)) ∙ (from_first (compare_bytes s high) v).1
  high-user Unbounded high = refl

  last-user : (given : Bool) (last : List ℕ) → admits_low (last_bound given) (compare_bytes (encode (version s v)) (low_bytes Excluded last)) ≡ admits_low (last_bound given) (compare_bytes s last)
  last-user true last = low-user Excluded last
  last-user false last = refl

  pub scanned-user : (lower : Bound) (low : List ℕ) (upper : Bound) (high : List ℕ) (given : Bool) (last : List ℕ)
      → scanned lower low upper high given last (encode (version s v)) ≡ admitted lower low upper high given last s
  unfolding admitted
  scanned-user lower low upper high given last = λ j. pick (low-user lower low j) (pick (last-user given last j) (high-user upper high j) false) false

  begins-user : (p : List ℕ) → begins (searched p) (encode (version s v)) ≡ begins p s
  begins-user p =
      same_tests (begins (searched p) (encode (version s v))) (begins p s)
      (λ e. let r = begins-split (searched p) (encode (version s v)) e in let q = searched_only p s r.0 v (sym r.1) in ap (begins p) q.1 ∙ begins-append p q.0)
      (λ e. let r = begins-split p s e in ap (λ (x : List ℕ). begins (searched p) (encode (version x v))) r.1 ∙ ap (begins (searched p)) (searched-begins p r.0 v) ∙ begins-append (searched p) _)

  pub prefixed-user : (p : List ℕ) (given : Bool) (last : List ℕ) → prefixed p given last (encode (version s v)) ≡ pick (begins p s) (admits_low (last_bound given) (compare_bytes s last)) false
  unfolding prefixed
  prefixed-user p given last = λ j. pick (begins-user p j) (last-user given last j) false
