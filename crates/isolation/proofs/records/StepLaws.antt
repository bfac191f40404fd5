-- A scan's step over a map of records is the history's: the first key that passes and shows a value. Assumes nothing.
use Prim.Native.Nat.{ℕ, ◌^◌, ◌<◌, ◌≤◌}
use mathlib.Core.Path.{◌≡◌, refl, sym, ap, ◌∙◌}
use mathlib.Core.Bool.{Bool, true, false, cond}
use mathlib.Core.Logic.{◌≢◌, by_cases}
use Rattle.std.specs.Prelude.{Option, None, Some}
use mathlib.Core.List.{List, [], ◌∷◌}
use lib.ListN.{length}
use Rattle.keycode.specs.Tests.{pick}
use Rattle.keycode.specs.Limits.{max_key}
use Rattle.keycode.proofs.Basics.{nope}
use Rattle.keycode.proofs.OrderLaws.{compare_refl}
use Rattle.keycode.specs.key.Keys.{version, user_key, encode}
use Rattle.keycode.proofs.key.KeyLaws.{decode_encode, fields_placed}
use Rattle.bitcask.specs.keydir.Place.{All, all_none, all_more}
use Rattle.bitcask.specs.recovery.Map.{Pair, pairs_of}
use Rattle.mvcc.specs.declared.handle.Handle.{Handle}
use Rattle.mvcc.proofs.payload.PayloadLaws.{first_reads}
use Rattle.mvcc.specs.scan.Steps.{Stamp, stamp_of, Sight, hidden, sight_by, same_user, sight_for, or_sight, highest, clean_to, clean_by, any_of, step_by, step_on, step_pairs}
use Rattle.mvcc.specs.scan.Steps as Steps
use Rattle.mvcc.specs.walk.Walks.{is_equal}
use Rattle.mvcc.proofs.scan.GroupLaws.{user-same}
use Rattle.isolation.specs.history.History.{Key, Bytes, key≟}
use Rattle.isolation.specs.history.History as History
use Rattle.isolation.specs.history.Records.{Rec, next_rec, active_rec, snap_rec, wrote_rec, ver_rec, plain_rec, key_of, Map}
use Rattle.isolation.specs.history.Calls.{item_of, versions_of, back, last_of, flat, visible, shown, keys_in, or_later, first_shown, scan_step}
use Rattle.isolation.specs.records.Stored.{payload_of, pair_of, pairs_in, Fine, sight_of}
use Rattle.isolation.specs.records.Scans.{ByUser, given_of}
use Rattle.isolation.proofs.records.SightLaws.{sees-visible}
use Rattle.isolation.proofs.records.SeenLaws.{last_cons}
use Rattle.isolation.proofs.records.RangeLaws.{pairs_yes, pairs_no, version_yes, version_no, version-other}

-- ---- what a key shows, with a record more in front

module _ (h : History.Sight) (k : Key) (v : ℕ) (o : Option Bytes) (m : Map) where
  shown-other : (j : Key) → k ≢ j → shown (ver_rec k v o ∷ m) h j ≡ shown m h j
  unfolding shown
  shown-other j n = ap (λ (l : List Rec). flat (item_of (last_of l))) (version-other (visible h) v o m n)

  -- a later version decides
  shown-later : shown (ver_rec k v o ∷ m) h k ≡ None → shown m h k ≡ None
  unfolding shown last_of
  shown-later = go (visible h v) refl
    where
      by : (z : Option Rec) → flat (item_of (back z (ver_rec k v o))) ≡ None → flat (item_of z) ≡ None
      by None e = refl
      by (Some r) e = e

      go : (b : Bool) → visible h v ≡ b → flat (item_of (last_of (versions_of (visible h) k (ver_rec k v o ∷ m)))) ≡ None → flat (item_of (last_of (versions_of (visible h) k m))) ≡ None
      go true q e = by (last_of (versions_of (visible h) k m)) (ap (λ (l : List Rec). flat (item_of (last_of l))) (sym (version_yes (visible h) v o m refl q)) ∙ e)
      go false q e = ap (λ (l : List Rec). flat (item_of (last_of l))) (sym (version_no (visible h) v o m refl q)) ∙ e

first-same : (f g : Key → Option Bytes) (p : Key → Bool) → ((k : Key) → p k ≡ true → f k ≡ g k) → (m : Map) → first_shown f (keys_in p m) ≡ first_shown g (keys_in p m)
unfolding first_shown keys_in
first-same f g p q [] = refl
first-same f g p q (next_rec n ∷ m) = first-same f g p q m
first-same f g p q (active_rec v ∷ m) = first-same f g p q m
first-same f g p q (snap_rec v s ∷ m) = first-same f g p q m
first-same f g p q (wrote_rec v k ∷ m) = first-same f g p q m
first-same f g p q (ver_rec k v o ∷ m) = go (p k) refl (first-same f g p q m)
  where
    go : (b : Bool) → p k ≡ b → first_shown f (keys_in p m) ≡ first_shown g (keys_in p m) → first_shown f (cond b (k ∷ keys_in p m) (keys_in p m)) ≡ first_shown g (cond b (k ∷ keys_in p m) (keys_in p m))
    go true e i = rw (q k e, i)
    go false e i = i
first-same f g p q (plain_rec k b ∷ m) = first-same f g p q m

-- ---- one record

stamp_version : (k : List ℕ) (v : ℕ) → v < 2 ^ 64 → length k ≤ max_key → stamp_of (encode (version k v)) ≡ Some (record { user = k; version = v })
unfolding stamp_of
stamp_version k v hv hk = rw (decode_encode max_key (version k v) hv hk) (ap (λ (u : List ℕ). Some (record { user = u; version = v })) (ap user_key (fields_placed (version k v))))

-- a version's record is to a handle what the history sees
record_sight : (h : Handle) (k : List ℕ) (v : ℕ) (o : Option (List ℕ)) → Steps.sight_of h (record { user = k; version = v }) (payload_of (ver_rec k v o)) ≡ pick (visible (sight_of h) v) (sight_by k (Some o)) hidden
unfolding Steps.sight_of payload_of
record_sight h k v o = rw (sees-visible h v, first_reads.value o)

-- ---- the records that pass

-- what the last version that is seen says of its key
abbrev held : List ℕ → Option Rec → Sight
held k None = hidden
held k (Some r) = sight_by k (Some (flat (item_of (Some r))))

held_back : (k : List ℕ) (z : Option Rec) (j : List ℕ) (v : ℕ) (o : Option (List ℕ)) → or_sight (held k z) (sight_by k (Some o)) ≡ held k (back z (ver_rec j v o))
held_back k None j v o = refl
held_back k (Some r) j v o = go (flat (item_of (Some r)))
  where
    go : (x : Option (List ℕ)) → or_sight (sight_by k (Some x)) (sight_by k (Some o)) ≡ sight_by k (Some x)
    go None = refl
    go (Some y) = refl

held_hidden : (k : List ℕ) (z : Option Rec) → or_sight (held k z) hidden ≡ held k z
held_hidden k None = refl
held_hidden k (Some r) = go (flat (item_of (Some r)))
  where
    go : (x : Option (List ℕ)) → or_sight (sight_by k (Some x)) hidden ≡ sight_by k (Some x)
    go None = refl
    go (Some y) = refl

held_gives : (k : List ℕ) (z : Option Rec) (r : Option (Key × Bytes)) → step_by true (held k z) (Some (given_of r)) ≡ Some (given_of (or_later k (flat (item_of z)) r))
held_gives k None r = refl
held_gives k (Some s) r = go (flat (item_of (Some s)))
  where
    go : (x : Option (List ℕ)) → step_by true (sight_by k (Some x)) (Some (given_of r)) ≡ Some (given_of (or_later k x r))
    go None = refl
    go (Some y) = refl

module _ (h : Handle) (k : List ℕ) (l : List Pair) (j : List ℕ) (v : ℕ) (o : Option (List ℕ)) (hv : v < 2 ^ 64) (hj : length j ≤ max_key) where
  high_cons : (b : Bool) → same_user k j ≡ b → highest h k (pair_of (ver_rec j v o) ∷ l) ≡ or_sight (highest h k l) (pick b (pick (visible (sight_of h) v) (sight_by j (Some o)) hidden) hidden)
  unfolding highest
  high_cons b e =
      ap (λ (s : Option Stamp). or_sight (highest h k l) (sight_for h k (payload_of (ver_rec j v o)) s)) (stamp_version j v hv hj)
      ∙ (λ i. or_sight (highest h k l) (pick (e i) (record_sight h j v o i) hidden))

  clean_cons : clean_to k (pair_of (ver_rec j v o) ∷ l) ≡ clean_to k l
  unfolding clean_to
  clean_cons = ap (λ (s : Option Stamp). clean_by s (any_of k l) (clean_to k l)) (stamp_version j v hv hj)

  step_cons : step_pairs h (pair_of (ver_rec j v o) ∷ l) ≡ step_by (clean_to j l) (highest h j (pair_of (ver_rec j v o) ∷ l)) (step_pairs h l)
  unfolding step_pairs
  step_cons = ap (λ (s : Option Stamp). step_on h (pair_of (ver_rec j v o)) l s (step_pairs h l)) (stamp_version j v hv hj)

module _ (h : Handle) {test p : List ℕ → Bool} (t : ByUser test p) where
  abbrev passing : Map → List Pair
  passing m = pairs_of test (pairs_in m)

  pass_other : (r : Rec) (m : Map) → ((k : List ℕ) (v : ℕ) → key_of r ≢ version k v) → passing (r ∷ m) ≡ passing m
  pass_other r m n = pairs_no test r m (t.others (key_of r) n)

  pass_version : (k : List ℕ) (v : ℕ) (o : Option (List ℕ)) (m : Map) → v < 2 ^ 64 → p k ≡ true → passing (ver_rec k v o ∷ m) ≡ pair_of (ver_rec k v o) ∷ passing m
  pass_version k v o m hv e = pairs_yes test (ver_rec k v o) m (t.versions k v hv ∙ e)

  pass_not : (k : List ℕ) (v : ℕ) (o : Option (List ℕ)) (m : Map) → v < 2 ^ 64 → p k ≡ false → passing (ver_rec k v o ∷ m) ≡ passing m
  pass_not k v o m hv e = pairs_no test (ver_rec k v o) m (t.versions k v hv ∙ e)

  clean-ver : (k j : List ℕ) (v : ℕ) (o : Option (List ℕ)) (m : Map) → v < 2 ^ 64 → length j ≤ max_key → clean_to k (passing m) ≡ true → clean_to k (passing (ver_rec j v o ∷ m)) ≡ true
  clean-ver k j v o m hv hj i = go (p j) refl
    where
      go : (b : Bool) → p j ≡ b → clean_to k (passing (ver_rec j v o ∷ m)) ≡ true
      go true e = ap (clean_to k) (pass_version j v o m hv e) ∙ clean_cons h k (passing m) j v o hv hj ∙ i
      go false e = ap (clean_to k) (pass_not j v o m hv e) ∙ i

  clean-pairs : (k : List ℕ) {m : Map} → All Fine m → clean_to k (passing m) ≡ true
  unfolding clean_to pairs_of pairs_in
  clean-pairs k all_none = refl
  clean-pairs k (all_more {x = next_rec n} {xs = m} f a) = ap (clean_to k) (pass_other (next_rec n) m (λ j x e. nope (cc))) ∙ clean-pairs k a
  clean-pairs k (all_more {x = active_rec v} {xs = m} f a) = ap (clean_to k) (pass_other (active_rec v) m (λ j x e. nope (cc))) ∙ clean-pairs k a
  clean-pairs k (all_more {x = snap_rec v s} {xs = m} f a) = ap (clean_to k) (pass_other (snap_rec v s) m (λ j x e. nope (cc))) ∙ clean-pairs k a
  clean-pairs k (all_more {x = wrote_rec v j} {xs = m} f a) = ap (clean_to k) (pass_other (wrote_rec v j) m (λ j x e. nope (cc))) ∙ clean-pairs k a
  clean-pairs k (all_more {x = ver_rec j v o} {xs = m} f a) = clean-ver k j v o m f.0 f.1 (clean-pairs k a)
  clean-pairs k (all_more {x = plain_rec j b} {xs = m} f a) = ap (clean_to k) (pass_other (plain_rec j b) m (λ j x e. nope (cc))) ∙ clean-pairs k a

  abbrev seen : List ℕ → Map → Option Rec
  seen k m = last_of (versions_of (visible (sight_of h)) k m)

  module _ (k : List ℕ) (pass : p k ≡ true) where
    high_own : (v : ℕ) (o : Option (List ℕ)) (m : Map) → v < 2 ^ 64 → length k ≤ max_key → highest h k (passing m) ≡ held k (seen k m)
        → highest h k (passing (ver_rec k v o ∷ m)) ≡ held k (seen k (ver_rec k v o ∷ m))
    high_own v o m hv hk i =
        ap (highest h k) (pass_version k v o m hv pass) ∙ high_cons h k (passing m) k v o hv hk true (ap is_equal (compare_refl k))
        ∙ ap (λ (x : Sight). or_sight x (pick (visible (sight_of h) v) (sight_by k (Some o)) hidden)) i ∙ go (visible (sight_of h) v) refl
      where
        go : (b : Bool) → visible (sight_of h) v ≡ b → or_sight (held k (seen k m)) (pick b (sight_by k (Some o)) hidden) ≡ held k (seen k (ver_rec k v o ∷ m))
        go true q = held_back k (seen k m) k v o ∙ ap (held k) (sym (last_cons (ver_rec k v o) (versions_of (visible (sight_of h)) k m)) ∙ ap last_of (sym (version_yes (visible (sight_of h)) v o m refl q)))
        go false q = held_hidden k (seen k m) ∙ ap (λ (l : List Rec). held k (last_of l)) (sym (version_no (visible (sight_of h)) v o m refl q))

    high-other : (j : List ℕ) (v : ℕ) (o : Option (List ℕ)) (m : Map) → j ≢ k → v < 2 ^ 64 → length j ≤ max_key → highest h k (passing m) ≡ held k (seen k m)
        → highest h k (passing (ver_rec j v o ∷ m)) ≡ held k (seen k (ver_rec j v o ∷ m))
    high-other j v o m n hv hj i = go (p j) refl ∙ i ∙ ap (λ (l : List Rec). held k (last_of l)) (sym (version-other (visible (sight_of h)) v o m n))
      where
        apart : (b : Bool) → same_user k j ≡ b → same_user k j ≡ false
        apart true e = absurd (n (sym (user-same k j e)))
        apart false e = e

        go : (b : Bool) → p j ≡ b → highest h k (passing (ver_rec j v o ∷ m)) ≡ highest h k (passing m)
        go true e =
            ap (highest h k) (pass_version j v o m hv e) ∙ high_cons h k (passing m) j v o hv hj false (apart (same_user k j) refl)
            ∙ ap (λ (x : Sight). or_sight x hidden) i ∙ held_hidden k (seen k m) ∙ sym i
        go false e = ap (highest h k) (pass_not j v o m hv e)

    high-ver : (j : List ℕ) (v : ℕ) (o : Option (List ℕ)) (m : Map) → v < 2 ^ 64 → length j ≤ max_key → highest h k (passing m) ≡ held k (seen k m)
        → highest h k (passing (ver_rec j v o ∷ m)) ≡ held k (seen k (ver_rec j v o ∷ m))
    high-ver j v o m hv hj i =
        by_cases (key≟ j k)
        (λ e. rw e (high_own v o m hv (rw e at hj) i))
        (λ n. high-other j v o m n hv hj i)

    high-pairs : {m : Map} → All Fine m → highest h k (passing m) ≡ held k (seen k m)
    unfolding highest pairs_of pairs_in versions_of last_of
    high-pairs all_none = refl
    high-pairs (all_more {x = next_rec n} {xs = m} f a) = ap (highest h k) (pass_other (next_rec n) m (λ j x e. nope (cc))) ∙ high-pairs a
    high-pairs (all_more {x = active_rec v} {xs = m} f a) = ap (highest h k) (pass_other (active_rec v) m (λ j x e. nope (cc))) ∙ high-pairs a
    high-pairs (all_more {x = snap_rec v s} {xs = m} f a) = ap (highest h k) (pass_other (snap_rec v s) m (λ j x e. nope (cc))) ∙ high-pairs a
    high-pairs (all_more {x = wrote_rec v j} {xs = m} f a) = ap (highest h k) (pass_other (wrote_rec v j) m (λ j x e. nope (cc))) ∙ high-pairs a
    high-pairs (all_more {x = ver_rec j v o} {xs = m} f a) = high-ver j v o m f.0 f.1 (high-pairs a)
    high-pairs (all_more {x = plain_rec j b} {xs = m} f a) = ap (highest h k) (pass_other (plain_rec j b) m (λ j x e. nope (cc))) ∙ high-pairs a

  module _ (k : List ℕ) (v : ℕ) (o : Option (List ℕ)) {m : Map} (f : Fine (ver_rec k v o)) (a : All Fine m) where
    -- a version that passes is given where its key shows a value
    step_own : (r : Option (Key × Bytes)) → p k ≡ true → step_pairs h (passing m) ≡ Some (given_of r)
        → step_pairs h (passing (ver_rec k v o ∷ m)) ≡ Some (given_of (or_later k (shown (ver_rec k v o ∷ m) (sight_of h) k) r))
    unfolding shown
    step_own r e i =
        let l : passing (ver_rec k v o ∷ m) ≡ pair_of (ver_rec k v o) ∷ passing m = pass_version k v o m f.0 e in
        let q : highest h k (pair_of (ver_rec k v o) ∷ passing m) ≡ held k (seen k (ver_rec k v o ∷ m)) = ap (highest h k) (sym l) ∙ high-pairs k e (all_more f a) in
        ap (step_pairs h) l ∙ step_cons h k (passing m) k v o f.0 f.1 ∙ (λ x. step_by (clean-pairs k a x) (q x) (i x)) ∙ held_gives k (seen k (ver_rec k v o ∷ m)) r

    abbrev after : Key → Option Bytes
    after = shown m (sight_of h)

    abbrev whole : Key → Option Bytes
    whole = shown (ver_rec k v o ∷ m) (sight_of h)

    rest_same : whole k ≡ None → first_shown after (keys_in p m) ≡ first_shown whole (keys_in p m)
    rest_same e = first-same after whole p (λ j q. by_cases (key≟ k j) (λ c. rw (← c) (shown-later (sight_of h) k v o m e ∙ sym e)) (λ n. sym (shown-other (sight_of h) k v o m j n))) m

    rest_past : p k ≡ false → first_shown after (keys_in p m) ≡ first_shown whole (keys_in p m)
    rest_past e = first-same after whole p (λ j q. sym (shown-other (sight_of h) k v o m j (λ c. nope (cc)))) m

    step-ver : step_pairs h (passing m) ≡ Some (given_of (scan_step m (sight_of h) p)) → step_pairs h (passing (ver_rec k v o ∷ m)) ≡ Some (given_of (scan_step (ver_rec k v o ∷ m) (sight_of h) p))
    unfolding scan_step first_shown keys_in
    step-ver i = go (p k) refl
      where
        rest : (z : Option Bytes) → whole k ≡ z → or_later k z (first_shown after (keys_in p m)) ≡ or_later k z (first_shown whole (keys_in p m))
        rest None e = rest_same e
        rest (Some x) e = refl

        go : (b : Bool) → p k ≡ b → step_pairs h (passing (ver_rec k v o ∷ m)) ≡ Some (given_of (first_shown whole (cond b (k ∷ keys_in p m) (keys_in p m))))
        go true e = step_own (first_shown after (keys_in p m)) e i ∙ ap (λ (r : Option (Key × Bytes)). Some (given_of r)) (rest (whole k) refl)
        go false e = ap (step_pairs h) (pass_not k v o m f.0 e) ∙ i ∙ ap (λ (r : Option (Key × Bytes)). Some (given_of r)) (rest_past e)

  step_other : (r : Rec) (m : Map) → ((k : List ℕ) (v : ℕ) → key_of r ≢ version k v) → ((k : Key) → shown m (sight_of h) k ≡ shown (r ∷ m) (sight_of h) k) → keys_in p (r ∷ m) ≡ keys_in p m
      → step_pairs h (passing m) ≡ Some (given_of (scan_step m (sight_of h) p)) → step_pairs h (passing (r ∷ m)) ≡ Some (given_of (scan_step (r ∷ m) (sight_of h) p))
  unfolding scan_step
  step_other r m n q e i =
      ap (step_pairs h) (pass_other r m n) ∙ i ∙ ap (λ (z : Option (Key × Bytes)). Some (given_of z)) (first-same (shown m (sight_of h)) (shown (r ∷ m) (sight_of h)) p (λ k c. q k) m)
      ∙ ap (λ (ks : List Key). Some (given_of (first_shown (shown (r ∷ m) (sight_of h)) ks))) (sym e)

  pub step-pairs : {m : Map} → All Fine m → step_pairs h (pairs_of test (pairs_in m)) ≡ Some (given_of (scan_step m (sight_of h) p))
  unfolding step_pairs pairs_of pairs_in scan_step first_shown keys_in shown versions_of
  step-pairs all_none = refl
  step-pairs (all_more {x = next_rec n} {xs = m} f a) = step_other (next_rec n) m (λ k x e. nope (cc)) (λ k. refl) refl (step-pairs a)
  step-pairs (all_more {x = active_rec v} {xs = m} f a) = step_other (active_rec v) m (λ k x e. nope (cc)) (λ k. refl) refl (step-pairs a)
  step-pairs (all_more {x = snap_rec v s} {xs = m} f a) = step_other (snap_rec v s) m (λ k x e. nope (cc)) (λ k. refl) refl (step-pairs a)
  step-pairs (all_more {x = wrote_rec v j} {xs = m} f a) = step_other (wrote_rec v j) m (λ k x e. nope (cc)) (λ k. refl) refl (step-pairs a)
  step-pairs (all_more {x = ver_rec j v o} {xs = m} f a) = step-ver j v o f a (step-pairs a)
  step-pairs (all_more {x = plain_rec j b} {xs = m} f a) = step_other (plain_rec j b) m (λ k x e. nope (cc)) (λ k. refl) refl (step-pairs a)
