-- The range that get reads holds, of all keys of the store, exactly the versions of the key up to the handle's own. What else lies there
-- is no key of the store, and get answers 12 for it. Assumes nothing.
use Prim.Native.Nat.{ℕ, suc, ◌/◌, ◌%◌, ◌^◌, ◌≤◌, ◌<◌}
use mathlib.Core.Path.{◌≡◌, refl, sym, ap, ◌∙◌}
use mathlib.Core.Bool.{Bool, true, false}
use mathlib.Core.List.{List, [], ◌∷◌, ◌++◌}
use native.Mathlib.Omega.{arith}
use native.Mathlib.Nat.{div-add-mod', mod-lt}
use lib.ListN.{length, take, drop, get_or}
use Rattle.std.specs.Prelude.{Result, Ok, Err, Some}
use Rattle.keycode.specs.declared.refusal.Refusal.{Refusal}
use Rattle.keycode.specs.declared.strings.Fault.{Fault}
use Rattle.std.specs.declared.cmp.Ordering.{Ordering}
use Rattle.std.specs.declared.cmp.Ordering.TheVariants.{Less, Equal, Greater}
use Rattle.keycode.specs.Tests.{pick}
use Rattle.keycode.specs.Limits.{max_key}
use Rattle.keycode.specs.Number.{be}
use Rattle.keycode.specs.Strings.{escape, unescaped}
use Rattle.keycode.specs.Order.{compare_nat, compare_bytes, and_then}
use Rattle.keycode.specs.key.Keys.{Fields, next_version, txn_active, txn_active_snapshot, txn_write, version, unversioned, encode, tag_of, decode_why, forget}
use Rattle.keycode.specs.declared.parts.Part.{Part}
use Rattle.keycode.specs.declared.key.Key.{Key}
use Rattle.keycode.specs.declared.key.Key.TheVariants as Keys
use Rattle.keycode.proofs.Basics.{nope, Ordered, below, same, above, ordered}
use Rattle.keycode.proofs.OrderLaws.{nat_less, nat_equal, nat_greater, flip, compare_flip, compare_equal, compare_refl}
use Rattle.keycode.proofs.NumberLaws.{Bytes}
use Rattle.keycode.proofs.key.KeyLaws.{Sound, decode_encode, encode_decode}
use Rattle.keycode.proofs.key.KeyOrder.{order_tags, order-version}
use Rattle.bitcask.specs.declared.answers.Bound.TheVariants.{Included}
use Rattle.bitcask.specs.read.Ranks.{admits_low, admits_high}
use Rattle.bitcask.specs.engine.Ranges.{inside}
use Rattle.mvcc.specs.version.Seen.{version_of, version_test}

-- the test by the two orders that it asks for
test_by : Ordering → Ordering → Bool
test_by a b = pick (admits_low Included a) (admits_high Included b) false

module _ (key : List ℕ) (v : ℕ) (hv : v < 256 ^ 8) where
  test_is : (k : List ℕ) {a b : Ordering} → compare_bytes k (encode (version key 0)) ≡ a → compare_bytes k (encode (version key v)) ≡ b → version_test key v k ≡ test_by a b
  unfolding inside test_by
  test_is k p q = rw (p, q)

  -- ---- keys of another kind

  lower : (f : Fields) → tag_of f < 4 → version_test key v (encode f) ≡ true → ⊥
  unfolding test_by
  lower f h e =
      let q : test_by Less Less ≡ true = sym (test_is (encode f) (order_tags f (version key 0) h) (order_tags f (version key v) h)) ∙ e in
      nope (cc)

  higher : (f : Fields) → 4 < tag_of f → version_test key v (encode f) ≡ true → ⊥
  unfolding test_by
  higher f h e =
      let over : (u : ℕ) → compare_bytes (encode f) (encode (version key u)) ≡ Greater = λ u. compare_flip (encode (version key u)) (encode f) ∙ ap flip (order_tags (version key u) f h) in
      let q : test_by Greater Greater ≡ true = sym (test_is (encode f) (over 0) (over v)) ∙ e in
      nope (cc)

  -- ---- versions

  version_test_lem : (s : List ℕ) (u : ℕ) → u < 256 ^ 8
      → version_test key v (encode (version s u)) ≡ test_by (and_then (compare_bytes s key) (compare_nat u 0)) (and_then (compare_bytes s key) (compare_nat u v))
  version_test_lem s u h = test_is (encode (version s u)) (order-version s key u 0 h (omega arith)) (order-version s key u v h hv)

  module _ (u : ℕ) where
    low-order : test_by (compare_nat u 0) (compare_nat u v) ≡ test_by Equal (compare_nat u v)
    unfolding test_by
    low-order = go (ordered u 0)
      where
        go : Ordered u 0 → test_by (compare_nat u 0) (compare_nat u v) ≡ test_by Equal (compare_nat u v)
        go (below h) = absurd (omega arith)
        go (same e) = rw (nat_equal u 0 e)
        go (above h) = rw (nat_greater u 0 h)

    up_to : test_by Equal (compare_nat u v) ≡ true → u ≤ v
    unfolding test_by
    up_to e = go (ordered u v)
      where
        go : Ordered u v → u ≤ v
        go (below h) = omega arith
        go (same q) = omega arith
        go (above h) = let z : compare_nat u v ≡ Greater = nat_greater u v h in nope (cc)

    within : u ≤ v → test_by Equal (compare_nat u v) ≡ true
    unfolding test_by
    within l = go (ordered u v)
      where
        go : Ordered u v → test_by Equal (compare_nat u v) ≡ true
        go (below h) = rw (nat_less u v h)
        go (same q) = rw (nat_equal u v q)
        go (above h) = absurd (omega arith)

  -- the key's versions up to v are in the range
  pub version-inside : (u : ℕ) → u ≤ v → version_test key v (encode (version key u)) ≡ true
  version-inside u l = version_test_lem key u (omega arith) ∙ rw (compare_refl key) (low-order u ∙ within u l)

  by_string : (s : List ℕ) (u : ℕ) (o : Ordering) → compare_bytes s key ≡ o → test_by (and_then o (compare_nat u 0)) (and_then o (compare_nat u v)) ≡ true → (version s u ≡ version key u) × (u ≤ v)
  unfolding test_by
  by_string s u Less q e = nope (cc)
  by_string s u Equal q e = (ap (λ (x : List ℕ). version x u) (compare_equal s key q), up_to u (sym (low-order u) ∙ e))
  by_string s u Greater q e = nope (cc)

  -- and no other key of the store is
  pub inside-version : (f : Fields) → Sound f → version_test key v (encode f) ≡ true → (u : ℕ) × ((f ≡ version key u) × (u ≤ v))
  inside-version next_version w e = absurd (lower next_version (omega arith) e)
  inside-version (txn_active u) w e = absurd (lower (txn_active u) (omega arith) e)
  inside-version (txn_active_snapshot u) w e = absurd (lower (txn_active_snapshot u) (omega arith) e)
  inside-version (txn_write u s) w e = absurd (lower (txn_write u s) (omega arith) e)
  inside-version (version s u) w e = (u, by_string s u (compare_bytes s key) refl (sym (version_test_lem s u w) ∙ e))
  inside-version (unversioned s) w e = absurd (higher (unversioned s) (omega arith) e)

-- ---- the same by decoding: a byte string that get takes for a version of the key is that version's key, and back

-- the version in bytes is one
version-fits : (s : List ℕ) (u : ℕ) (k : List ℕ) → Bytes k → encode (version s u) ≡ k → u < 256 ^ 8
unfolding be
version-fits s u k b e =
    let h : get_or (encode (version s u)) (suc (length (escape s))) 0 < 256 = rw e (b (suc (length (escape s)))) in
    let q : get_or (escape s ++ be 8 u) (length (escape s)) 0 ≡ u / 256 ^ 7 = top (escape s) in
    let l : u / 256 ^ 7 < 256 = rw q at h in
    let m : u % 256 ^ 7 < 256 ^ 7 = mod-lt u (omega arith) in
    omega (arith, div-add-mod' u (256 ^ 7))
  where
    top : (x : List ℕ) → get_or (x ++ be 8 u) (length x) 0 ≡ u / 256 ^ 7
    top [] = refl
    top (y ∷ x) = top x

read_whole : (d : Result Key Refusal) (u : ℕ) → version_of d ≡ Some u → (p : Part) × (d ≡ Ok (Keys.Version p u))
read_whole (Ok Keys.NextVersion) u e = nope (cc)
read_whole (Ok (Keys.TxnActive v)) u e = nope (cc)
read_whole (Ok (Keys.TxnActiveSnapshot v)) u e = nope (cc)
read_whole (Ok (Keys.TxnWrite v p)) u e = nope (cc)
read_whole (Ok (Keys.Version p v)) u e = let z : v ≡ u = cc in (p, rw z)
read_whole (Ok (Keys.Unversioned p)) u e = nope (cc)
read_whole (Err r) u e = nope (cc)

whole_read : (r : Result Key Fault) (d : Key) → forget r ≡ Ok d → r ≡ Ok d
whole_read (Ok x) d e = let z : x ≡ d = cc in rw z
whole_read (Err w) d e = nope (cc)

module _ (key : List ℕ) (v : ℕ) (hv : v < 256 ^ 8) where
  pub among-versions : (k : List ℕ) → Bytes k → version_test key v k ≡ true → (u : ℕ) → version_of (forget (decode_why max_key k)) ≡ Some u → (k ≡ encode (version key u)) × (u ≤ v)
  among-versions k b e u q =
      let d = read_whole (forget (decode_why max_key k)) u q in
      let s : List ℕ = unescaped (take d.0.len (drop d.0.at k)) in
      let w : encode (version s u) ≡ k = (encode_decode max_key k (Keys.Version d.0 u) b (whole_read (decode_why max_key k) (Keys.Version d.0 u) d.1)).bytes in
      found s u k w (inside-version key v hv (version s u) (version-fits s u k b w) (ap (version_test key v) w ∙ e))
    where
      found : (s : List ℕ) (u : ℕ) (k : List ℕ) → encode (version s u) ≡ k → (x : ℕ) × ((version s u ≡ version key x) × (x ≤ v)) → (k ≡ encode (version key u)) × (u ≤ v)
      found s u k w (x, (f, l)) = let z : u ≡ x = cc in let y : s ≡ key = cc in (sym w ∙ rw y, rw z l)

  pub version_read : (u : ℕ) → u ≤ v → length key ≤ max_key → version_of (forget (decode_why max_key (encode (version key u)))) ≡ Some u
  version_read u l h = ap (λ (r : Result Key Fault). version_of (forget r)) (decode_encode max_key (version key u) (omega arith) h)
