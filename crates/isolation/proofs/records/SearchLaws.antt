-- A write's search of a map of records: the last record of its range is refused where the history has a conflict. Assumes nothing.
use Prim.Native.Nat.{ℕ, ◌-◌, ◌^◌, ◌<◌, ◌≤◌}
use mathlib.Core.Path.{◌≡◌, refl, ap, ◌∙◌}
use mathlib.Core.Bool.{Bool, true, false, not}
use mathlib.Core.Logic.{by_cases}
use mathlib.Core.List.{List, [], ◌∷◌}
use native.Mathlib.Omega.{arith}
use lib.ListN.{length}
use Rattle.std.specs.Prelude.{Result, ⊤, Option, None, Some, Ok, Err}
use Rattle.keycode.specs.declared.refusal.Refusal.{Refusal}
use Rattle.keycode.specs.Tests.{pick}
use Rattle.keycode.specs.Limits.{max_key}
use Rattle.keycode.specs.declared.refusal.Refusal.TheVariants.{Conflict}
use Rattle.keycode.specs.key.Keys.{encode, version}
use Rattle.keycode.proofs.key.KeyLaws.{decode_encode}
use Rattle.bitcask.specs.keydir.Place.{All, all_none, all_more}
use Rattle.mvcc.specs.declared.handle.Handle.{Handle}
use Rattle.mvcc.specs.handle.Handles.{set_of, sees}
use Rattle.mvcc.specs.payload.Payloads.{Versions}
use Rattle.bitcask.specs.recovery.Map.{pairs_of}
use Rattle.mvcc.specs.conflict.Conflicts.{seen_bytes, search_by, searched}
use Rattle.isolation.specs.history.History.{key≟, lowest, up_to}
use Rattle.isolation.specs.history.Records.{Rec, next_rec, active_rec, snap_rec, wrote_rec, ver_rec, plain_rec, key_of, Map}
use Rattle.isolation.specs.history.Calls.{versions_of, back, last_of, visible, hides, last_version, conflict}
use Rattle.isolation.specs.history.Calls as Calls
use Rattle.isolation.specs.records.Stored.{pairs_in, Fine, sight_of}
use Rattle.isolation.proofs.records.SightLaws.{sees-visible, lowest_of_lem}
use Rattle.isolation.proofs.records.RangeLaws.{version_range, version_yes, version_no, version-other, range_pairs}

-- ---- the last record of any

abbrev judged : Handle → Option Rec → Result ⊤ Refusal
judged h None = (Ok tt)
judged h (Some r) = seen_bytes h (encode (key_of r))

search_last : (h : Handle) (m : Map) → search_by h (pairs_in m) ≡ judged h (last_of m)
unfolding search_by pairs_in last_of
search_last h [] = refl
search_last h (r ∷ []) = refl
search_last h (r ∷ s ∷ m) = search_last h (s ∷ m) ∙ go (last_of m)
  where
    go : (z : Option Rec) → judged h (back z s) ≡ judged h (back (back z s) r)
    go None = refl
    go (Some x) = refl

-- ---- of a key's versions

module _ (h : Handle) (writes : h.read_only ≡ false) where
  sees-upto : (v : ℕ) → sees h v ≡ up_to h.version (set_of h) v
  unfolding visible
  sees-upto v = sees-visible h v ∙ rw writes

  turned : (b : Bool) → ◌≡◌ {A = Result ⊤ Refusal} (pick b (Ok tt) (Err Conflict)) (pick (not b) (Err Conflict) (Ok tt))
  turned true = refl
  turned false = refl

  record_judged : (k : List ℕ) (v : ℕ) (o : Option (List ℕ)) → v < 2 ^ 64 → length k ≤ max_key
      → judged h (Some (ver_rec k v o)) ≡ pick (hides (sight_of h) (Some (ver_rec k v o))) (Err Conflict) (Ok tt)
  unfolding seen_bytes
  record_judged k v o hv hk = rw (decode_encode max_key (version k v) hv hk, sees-upto v) (turned (up_to h.version (set_of h) v))

  module _ (j : List ℕ) (v : ℕ) (o : Option (List ℕ)) (hv : v < 2 ^ 64) (hj : length j ≤ max_key) where
    back-judged : (z : Option Rec) → judged h z ≡ pick (hides (sight_of h) z) (Err Conflict) (Ok tt)
        → judged h (back z (ver_rec j v o)) ≡ pick (hides (sight_of h) (back z (ver_rec j v o))) (Err Conflict) (Ok tt)
    back-judged None i = record_judged j v o hv hj
    back-judged (Some r) i = i

    version-judged : (p : ℕ → Bool) (k : List ℕ) (m : Map)
        → judged h (last_of (versions_of p k m)) ≡ pick (hides (sight_of h) (last_of (versions_of p k m))) (Err Conflict) (Ok tt)
        → judged h (last_of (versions_of p k (ver_rec j v o ∷ m))) ≡ pick (hides (sight_of h) (last_of (versions_of p k (ver_rec j v o ∷ m)))) (Err Conflict) (Ok tt)
    unfolding last_of
    version-judged p k m i = by_cases (key≟ j k) (λ e. own e (p v) refl) (λ n. rw (version-other p v o m n) i)
      where
        own : j ≡ k → (b : Bool) → p v ≡ b
            → judged h (last_of (versions_of p k (ver_rec j v o ∷ m))) ≡ pick (hides (sight_of h) (last_of (versions_of p k (ver_rec j v o ∷ m)))) (Err Conflict) (Ok tt)
        own e true q = rw (version_yes p v o m e q) (back-judged (last_of (versions_of p k m)) i)
        own e false q = rw (version_no p v o m e q) i

  last-judged : (p : ℕ → Bool) (k : List ℕ) {m : Map} → All Fine m
      → judged h (last_of (versions_of p k m)) ≡ pick (hides (sight_of h) (last_of (versions_of p k m))) (Err Conflict) (Ok tt)
  unfolding versions_of last_of
  last-judged p k all_none = refl
  last-judged p k (all_more {x = next_rec n} f a) = last-judged p k a
  last-judged p k (all_more {x = active_rec v} f a) = last-judged p k a
  last-judged p k (all_more {x = snap_rec v s} f a) = last-judged p k a
  last-judged p k (all_more {x = wrote_rec v j} f a) = last-judged p k a
  last-judged p k (all_more {x = ver_rec j v o} {xs = m} f a) = version-judged j v o f.0 f.1 p k m (last-judged p k a)
  last-judged p k (all_more {x = plain_rec j b} f a) = last-judged p k a

  module _ (below : h.version < 2 ^ 64 - 1) (fits : Versions (set_of h)) where
    low_fits : lowest (set_of h) h.version < 2 ^ 64
    low_fits = go (set_of h) fits
      where
        go : (s : List ℕ) → Versions s → lowest s h.version < 2 ^ 64
        go [] w = omega arith
        go (x ∷ s) w = w 0

    pub search_pairs : (k : List ℕ) {m : Map} → All Fine m → search_by h (pairs_of (searched h k) (pairs_in m)) ≡ pick (conflict m (sight_of h) k) (Err Conflict) (Ok tt)
    unfolding searched conflict
    search_pairs k {m} a =
        ap (λ (n : ℕ). search_by h (pairs_of (version_range k n last_version) (pairs_in m))) (lowest_of_lem h below)
        ∙ ap (search_by h) (range_pairs k (lowest (set_of h) h.version) last_version low_fits (omega arith) a)
        ∙ search_last h (versions_of (Calls.searched (sight_of h)) k m) ∙ last-judged (Calls.searched (sight_of h)) k a
