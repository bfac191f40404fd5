-- A get of a map of records: of the key's range, the last record that the handle sees has the value that the history shows. Assumes nothing.
use Prim.Native.Nat.{ℕ, ◌^◌, ◌<◌, ◌≤◌}
use mathlib.Core.Path.{◌≡◌, refl, ap, ◌∙◌}
use mathlib.Core.Bool.{Bool, true, false, not, ◌&&◌, cond}
use mathlib.Core.Logic.{by_cases}
use Rattle.std.specs.Prelude.{Option, None, Some}
use mathlib.Core.List.{List, ◌∷◌}
use native.Mathlib.Omega.{arith}
use lib.Dec.{leb, ltb}
use lib.ListN.{length}
use borrow.Author.Tests.{le-leb, ltb-true}
use Rattle.keycode.specs.Tests.{pick}
use Rattle.keycode.specs.Limits.{max_key}
use Rattle.keycode.proofs.Basics.{nope}
use Rattle.keycode.specs.key.Keys.{version}
use Rattle.keycode.proofs.key.KeyLaws.{decode_encode}
use Rattle.bitcask.specs.keydir.Place.{All, all_none, all_more}
use Rattle.bitcask.specs.recovery.Map.{Pair, pairs_of}
use Rattle.mvcc.specs.declared.handle.Handle.{Handle}
use Rattle.mvcc.specs.handle.Handles.{set_of, sees}
use Rattle.mvcc.proofs.payload.PayloadLaws.{first_reads}
use Rattle.mvcc.specs.version.Seen.{version_test, pair_says, or_pair, last_pair, or_gone, value_for}
use Rattle.isolation.specs.history.History.{is_in, key≟}
use Rattle.isolation.specs.history.Records.{Rec, next_rec, active_rec, snap_rec, wrote_rec, ver_rec, plain_rec, Map}
use Rattle.isolation.specs.history.Calls.{item_of, versions_of, back, last_of, flat, visible, shown}
use Rattle.isolation.specs.records.Stored.{payload_of, pair_of, pairs_in, Fine, sight_of}
use Rattle.isolation.proofs.records.SightLaws.{sees-visible}
use Rattle.isolation.proofs.records.RangeLaws.{between, version_yes, version_no, version-other, range_pairs}

-- ---- one record

module _ (h : Handle) (k : List ℕ) (v : ℕ) (o : Option (List ℕ)) (hv : v < 2 ^ 64) (hk : length k ≤ max_key) where
  record_says : pair_says h (pair_of (ver_rec k v o)) ≡ pick (sees h v) (Some (Some o)) None
  unfolding pair_says payload_of
  record_says = rw (decode_encode max_key (version k v) hv hk, first_reads.value o)

-- ---- the last that is seen

-- what the records say where one is the last that is seen
abbrev said : Option Rec → Option (Option (Option (List ℕ)))
said None = None
said (Some r) = Some (Some (flat (item_of (Some r))))

said_back : (z : Option Rec) (k : List ℕ) (v : ℕ) (o : Option (List ℕ)) → or_pair (said z) (Some (Some o)) ≡ said (back z (ver_rec k v o))
said_back None k v o = refl
said_back (Some r) k v o = refl

said_none : (z : Option Rec) → or_pair (said z) None ≡ said z
said_none None = refl
said_none (Some r) = refl

said_shown : (z : Option Rec) → or_gone (said z) ≡ Some (flat (item_of z))
said_shown None = refl
said_shown (Some r) = refl

pub last_cons : (r : Rec) (m : Map) → last_of (r ∷ m) ≡ back (last_of m) r
unfolding last_of
last_cons r m = refl

pair_cons : (h : Handle) (r : Rec) (m : Map) → last_pair h (pairs_in (r ∷ m)) ≡ or_pair (last_pair h (pairs_in m)) (pair_says h (pair_of r))
unfolding last_pair pairs_in
pair_cons h r m = refl

-- what is seen is not above the handle's version
visible-within : (h : Handle) (v : ℕ) → visible (sight_of h) v ≡ true → between 0 h.version v ≡ true
unfolding visible
visible-within h v e = rw (le-leb 0 v (omega arith)) (go h.read_only (is_in v (set_of h)) e)
  where
    go : (ro i : Bool) → cond ro (not i && ltb v h.version) (not i && leb v h.version) ≡ true → leb v h.version ≡ true
    go true true q = nope (cc)
    go true false q = le-leb v h.version (omega (arith, ltb-true v h.version q))
    go false true q = nope (cc)
    go false false q = q

module _ (h : Handle) (k : List ℕ) where
  seen_ver : (j : List ℕ) (v : ℕ) (o : Option (List ℕ)) (m : Map) → v < 2 ^ 64 → length j ≤ max_key
      → last_pair h (pairs_in (versions_of (between 0 h.version) k m)) ≡ said (last_of (versions_of (visible (sight_of h)) k m))
      → last_pair h (pairs_in (versions_of (between 0 h.version) k (ver_rec j v o ∷ m))) ≡ said (last_of (versions_of (visible (sight_of h)) k (ver_rec j v o ∷ m)))
  seen_ver j v o m hv hj i =
      by_cases (key≟ j k)
      (λ e. own e (visible (sight_of h) v) refl (between 0 h.version v) refl)
      (λ n. rw (version-other (between 0 h.version) v o m n, version-other (visible (sight_of h)) v o m n) i)
    where
      says : (b : Bool) → visible (sight_of h) v ≡ b → pair_says h (pair_of (ver_rec j v o)) ≡ pick b (Some (Some o)) None
      says b e = record_says h j v o hv hj ∙ rw (sees-visible h v, e)

      own : j ≡ k → (b : Bool) → visible (sight_of h) v ≡ b → (c : Bool) → between 0 h.version v ≡ c
          → last_pair h (pairs_in (versions_of (between 0 h.version) k (ver_rec j v o ∷ m))) ≡ said (last_of (versions_of (visible (sight_of h)) k (ver_rec j v o ∷ m)))
      own e true p true q =
          rw (version_yes (between 0 h.version) v o m e q, version_yes (visible (sight_of h)) v o m e p)
          (rw (pair_cons h (ver_rec j v o) (versions_of (between 0 h.version) k m), says true p, i, last_cons (ver_rec j v o) (versions_of (visible (sight_of h)) k m))
          (said_back (last_of (versions_of (visible (sight_of h)) k m)) j v o))
      own e true p false q = nope (cc (visible-within h v p, q))
      own e false p true q =
          rw (version_yes (between 0 h.version) v o m e q, version_no (visible (sight_of h)) v o m e p, pair_cons h (ver_rec j v o) (versions_of (between 0 h.version) k m), says false p, i)
          (said_none (last_of (versions_of (visible (sight_of h)) k m)))
      own e false p false q = rw (version_no (between 0 h.version) v o m e q, version_no (visible (sight_of h)) v o m e p) i

  seen_last : {m : Map} → All Fine m → last_pair h (pairs_in (versions_of (between 0 h.version) k m)) ≡ said (last_of (versions_of (visible (sight_of h)) k m))
  unfolding versions_of last_of pairs_in last_pair
  seen_last all_none = refl
  seen_last (all_more {x = next_rec n} f a) = seen_last a
  seen_last (all_more {x = active_rec v} f a) = seen_last a
  seen_last (all_more {x = snap_rec v s} f a) = seen_last a
  seen_last (all_more {x = wrote_rec v j} f a) = seen_last a
  seen_last (all_more {x = ver_rec j v o} {xs = m} f a) = seen_ver j v o m f.0 f.1 (seen_last a)
  seen_last (all_more {x = plain_rec j b} f a) = seen_last a

  pub value-pairs : h.version < 2 ^ 64 → {m : Map} → All Fine m → value_for h (pairs_of (version_test k h.version) (pairs_in m)) ≡ Some (shown m (sight_of h) k)
  unfolding value_for shown
  value-pairs hv {m} a =
      ap (λ (l : List Pair). or_gone (last_pair h l)) (range_pairs k 0 h.version (omega arith) hv a) ∙ ap or_gone (seen_last a)
      ∙ said_shown (last_of (versions_of (visible (sight_of h)) k m))
