-- The two scan steps of a map of records, by their bounds and by a prefix; and what the first key is in the order of the bytes.
-- Assumes nothing.
use Prim.Native.Nat.{ℕ, zero, suc, ◌<◌}
use mathlib.Core.Path.{◌≡◌, refl, sym, ap, ◌∙◌}
use mathlib.Core.Bool.{Bool, true, false}
use mathlib.Core.Logic.{◌≢◌}
use Rattle.std.specs.Prelude.{Option, None, Some}
use mathlib.Core.List.{List, [], ◌∷◌}
use native.Mathlib.Omega.{arith}
use Rattle.std.specs.declared.cmp.Ordering.TheVariants.{Less}
use Rattle.keycode.specs.Tests.{pick}
use Rattle.keycode.specs.Strings.{escape_byte, escape_body, escape}
use Rattle.keycode.specs.Order.{compare_nat, compare_bytes}
use Rattle.keycode.proofs.Basics.{nope}
use Rattle.keycode.proofs.OrderLaws.{and_then_equal, compare_flip, compare_refl}
use Rattle.keycode.specs.key.Keys.{Fields, next_version, txn_active, txn_active_snapshot, txn_write, version, unversioned, tag_of, encode}
use Rattle.keycode.proofs.key.KeyOrder.{order_tags, order-version}
use Rattle.bitcask.specs.keydir.Place.{All}
use Rattle.bitcask.specs.declared.answers.Bound.{Bound}
use Rattle.bitcask.specs.declared.answers.Bound.TheVariants.{Included, Excluded, Unbounded}
use Rattle.bitcask.specs.read.Ranks.{admits_low, admits_high, last_bound, admitted}
use Rattle.bitcask.specs.engine.Prefixes.{begins}
use Rattle.bitcask.specs.recovery.Map.{pairs_of}
use Rattle.mvcc.specs.declared.handle.Handle.{Handle}
use Rattle.mvcc.specs.scan.Bounds.{low_kind, low_bytes, high_kind, high_bytes, scanned, prefixed}
use Rattle.mvcc.specs.scan.Steps.{step_pairs}
use Rattle.mvcc.proofs.scan.UserLaws.{scanned-user, prefixed-user}
use Rattle.isolation.specs.history.History.{Key, Bytes}
use Rattle.isolation.specs.history.Records.{Map, Before}
use Rattle.isolation.specs.history.Calls.{scan_step}
use Rattle.isolation.proofs.history.StepLaws.{Step, at_end, at_key}
use Rattle.isolation.specs.records.Stored.{pairs_in, key_order, Fine, sight_of}
use Rattle.isolation.specs.records.Scans.{ByUser, prefix_past, given_of, First, none-shows, first-shows}
use Rattle.isolation.proofs.records.OrderLaws.{key_less}
use Rattle.isolation.proofs.records.StepLaws.{step-pairs}

-- ---- other keys than Versions lie outside

below-low : (b : Bound) (low : List ℕ) (K : Fields) → tag_of K < 4 → admits_low (low_kind b) (compare_bytes (encode K) (low_bytes b low)) ≡ false
below-low Included low K l = rw (order_tags K (version low 0) l)
below-low Excluded low K l = rw (order_tags K (version low _) l)
below-low Unbounded low K l = rw (order_tags K (version [] 0) l)

above_high : (b : Bound) (high k : List ℕ) → admits_high (high_kind b) (compare_bytes (encode (unversioned k)) (high_bytes b high)) ≡ false
unfolding compare_bytes compare_nat escape escape_body escape_byte
above_high Included high k = refl
above_high Excluded high k = refl
above_high Unbounded high [] = refl
above_high Unbounded high (zero ∷ k) = refl
above_high Unbounded high (suc x ∷ k) = refl

-- ---- the two tests

module _ (lower : Bound) (low : List ℕ) (upper : Bound) (high : List ℕ) (given : Bool) (last : List ℕ) where
  bounds_only : (K : Fields) → ((k : List ℕ) (v : ℕ) → K ≢ version k v) → scanned lower low upper high given last (encode K) ≡ false
  unfolding admitted
  bounds_only next_version n = rw (below-low lower low next_version (omega arith))
  bounds_only (txn_active v) n = rw (below-low lower low (txn_active v) (omega arith))
  bounds_only (txn_active_snapshot v) n = rw (below-low lower low (txn_active_snapshot v) (omega arith))
  bounds_only (txn_write v k) n = rw (below-low lower low (txn_write v k) (omega arith))
  bounds_only (version k v) n = absurd (n k v refl)
  bounds_only (unversioned k) n = rw (above_high upper high k) (go (admits_low (low_kind lower) (compare_bytes (encode (unversioned k)) (low_bytes lower low))) (admits_low (last_bound given) (compare_bytes (encode (unversioned k)) (low_bytes Excluded last))))
    where
      go : (a b : Bool) → pick a (pick b false false) false ≡ false
      go true true = refl
      go true false = refl
      go false b = refl

  by_bounds : ByUser (scanned lower low upper high given last) (admitted lower low upper high given last)
  by_bounds = record { versions = λ k v h. scanned-user k v h lower low upper high given last; others = bounds_only }

  pub scan_pairs : (h : Handle) {m : Map} → All Fine m
      → step_pairs h (pairs_of (scanned lower low upper high given last) (pairs_in m)) ≡ Some (given_of (scan_step m (sight_of h) (admitted lower low upper high given last)))
  scan_pairs h a = step-pairs h by_bounds a

module _ (prefix : List ℕ) (given : Bool) (last : List ℕ) where
  prefix_only : (K : Fields) → ((k : List ℕ) (v : ℕ) → K ≢ version k v) → prefixed prefix given last (encode K) ≡ false
  unfolding prefixed begins
  prefix_only next_version n = refl
  prefix_only (txn_active v) n = refl
  prefix_only (txn_active_snapshot v) n = refl
  prefix_only (txn_write v k) n = refl
  prefix_only (version k v) n = absurd (n k v refl)
  prefix_only (unversioned k) n = refl

  by_prefix : ByUser (prefixed prefix given last) (prefix_past prefix given last)
  by_prefix = record { versions = λ k v h. prefixed-user k v h prefix given last; others = prefix_only }

  pub prefix_pairs : (h : Handle) {m : Map} → All Fine m
      → step_pairs h (pairs_of (prefixed prefix given last) (pairs_in m)) ≡ Some (given_of (scan_step m (sight_of h) (prefix_past prefix given last)))
  prefix_pairs h a = step-pairs h by_prefix a

-- ---- first in the order of the bytes

before_less : (k j : Key) → Before key_order k j → compare_bytes k j ≡ Less
unfolding Before compare_nat
before_less k j b = sym (order-version k j 0 0 (omega arith) (omega arith) ∙ and_then_equal (compare_bytes k j)) ∙ key_less (version k 0) (version j 0) (b 0 0)

pub step-first : {f : Key → Option Bytes} {p : Key → Bool} {r : Option (Key × Bytes)} → Step key_order f p r → First f p r
step-first (at_end e a) = none-shows e a
step-first {f} {p} (at_key k x e t q a) = first-shows k x e t q (λ j i l. go j i l (f j) refl)
  where
    go : (j : Key) → p j ≡ true → compare_bytes j k ≡ Less → (z : Option Bytes) → f j ≡ z → f j ≡ None
    go j i l None c = c
    go j i l (Some y) c =
        let n : j ≢ k = λ u. nope (cc (compare_refl k, ap (λ (w : Key). compare_bytes w k) u)) in
        nope (cc (compare_flip k j, before_less k j (a j i (λ u. nope (cc)) n)))
