-- What the calls make of a map of records is what Store says that they do, record by record. Assumes nothing.
use Prim.Native.Nat.{ℕ, suc, ◌≤◌, ◌<◌, Ordering}
use native.Mathlib.Omega.{arith}
use mathlib.Core.Path.{◌≡◌, refl, sym, ◌∙◌, ap}
use mathlib.Core.Bool.{Bool, true, false, not, ◌&&◌, ◌||◌, cond}
use mathlib.Core.Logic.{◌≢◌, if_pos, if_neg}
use Rattle.std.specs.Prelude.{Option, None, Some}
use mathlib.Core.List.{List, [], ◌∷◌}
use native.Mathlib.Decide.{ℕ_discrete}
use Rattle.keycode.specs.key.Keys.{Fields, next_version, txn_active, txn_active_snapshot, txn_write, version, unversioned}
use Rattle.isolation.specs.history.History.{Key, Bytes, key≟}
use Rattle.isolation.specs.history.Records.{fields≟, Rec, next_rec, active_rec, snap_rec, wrote_rec, ver_rec, plain_rec, Map, look, put, is_yes, del_all, Above, above_nil, above_cons, Sorted, sorted_nil, sorted_cons, Order}
use Rattle.isolation.specs.history.History.{keep}
use Rattle.isolation.proofs.history.FactLaws.{nope}
use lib.Dec.{eqb}
use borrow.Author.Tests.{eq-eqb, ne_eqb}
use Rattle.isolation.specs.history.History.{is_in, lowest}
use Rattle.isolation.specs.history.Store.{kept, is_some, Empty, Begins, Writes, Commits, Undoes, Unseen}
use Rattle.isolation.specs.history.Calls.{next_of, set_of, item_of, view, actives, put_snap, begin_handle, begin_map, write_map, written_by, commit_keys, undo_keys, commit_map, rollback_map}
use Rattle.isolation.proofs.history.MapLaws.{mem_k, look-del_all, is_no, is_yes_lem, look-here, look-past, look-put, look_put_other, sorted-put}

pub empty : Empty (view [])
unfolding look
empty = record { next = refl; act = λ x. refl; snap = λ x. refl; txw = λ x k. refl; vers = λ k x. refl }

look_none : (K : Fields) → look [] K ≡ None
unfolding look
look_none K = refl

is_in_cons : (x v : ℕ) (S : List ℕ) → x ≢ v → is_in x (v ∷ S) ≡ is_in x S
unfolding is_in
is_in_cons x v S n = if_neg (ℕ_discrete v x) (λ e. n (sym e)) true (is_in x S)

is_in_head : (v : ℕ) (S : List ℕ) → is_in v (v ∷ S) ≡ true
unfolding is_in
is_in_head v S = if_pos (ℕ_discrete v v) refl true (is_in v S)

none_in : (x : ℕ) → is_in x [] ≡ false
unfolding is_in
none_in x = refl

in_nil : (x : ℕ) → is_in x [] ≡ is_some (look [] (txn_active x))
unfolding is_in look
in_nil x = refl

pub in_actives : (m : Map) (x : ℕ) → is_in x (actives m) ≡ is_some (look m (txn_active x))
unfolding actives
in_actives [] x = in_nil x
in_actives (next_rec n ∷ m) x = rw (look-past (next_rec n) m {K = txn_active x} (λ e. nope (cc))) (in_actives m x)
in_actives (active_rec v ∷ m) x = go (ℕ_discrete x v) (in_actives m x)
  where
    go : Dec (x ≡ v) → is_in x (actives m) ≡ is_some (look m (txn_active x)) → is_in x (v ∷ actives m) ≡ is_some (look (active_rec v ∷ m) (txn_active x))
    go (yes p) i = rw (p, is_in_head v (actives m), look-here (active_rec v) m)
    go (no n) i = rw (is_in_cons x v (actives m) n, look-past (active_rec v) m {K = txn_active x} (λ e. n (cc))) i
in_actives (snap_rec v s ∷ m) x = rw (look-past (snap_rec v s) m {K = txn_active x} (λ e. nope (cc))) (in_actives m x)
in_actives (wrote_rec v k ∷ m) x = rw (look-past (wrote_rec v k) m {K = txn_active x} (λ e. nope (cc))) (in_actives m x)
in_actives (ver_rec k v o ∷ m) x = rw (look-past (ver_rec k v o) m {K = txn_active x} (λ e. nope (cc))) (in_actives m x)
in_actives (plain_rec k b ∷ m) x = rw (look-past (plain_rec k b) m {K = txn_active x} (λ e. nope (cc))) (in_actives m x)

module _ {cmp : Fields → Fields → Ordering} (L : Order cmp) where
  pub writes : (m : Map) (t : ℕ) (k : Key) (o : Option Bytes) → Writes (view m) t k o (view (write_map cmp t k o m))
  unfolding write_map
  writes m t k o = record {
    next = ap next_of (other next_version (λ e. nope (cc)) (λ e. nope (cc)));
    act = λ x. ap is_some (other (txn_active x) (λ e. nope (cc)) (λ e. nope (cc)));
    snap = λ x. ap set_of (other (txn_active_snapshot x) (λ e. nope (cc)) (λ e. nope (cc)));
    txw_own = ap is_some own_w;
    txw-other = λ x j n. ap is_some (other (txn_write x j) (λ e. nope (cc)) (λ e. n (cc, cc)));
    vers_own = ap item_of own_v;
    vers-other = λ j x n. ap item_of (other (version j x) (λ e. n (cc, cc)) (λ e. nope (cc)));
  }
    where
      other : (K : Fields) → version k t ≢ K → txn_write t k ≢ K → look (write_map cmp t k o m) K ≡ look m K
      other K a b = look_put_other L (ver_rec k t o) (put cmp (wrote_rec t k) m) a ∙ look_put_other L (wrote_rec t k) m b

      own_w : look (write_map cmp t k o m) (txn_write t k) ≡ Some (wrote_rec t k)
      own_w = look_put_other L (ver_rec k t o) (put cmp (wrote_rec t k) m) (λ e. nope (cc)) ∙ look-put L (wrote_rec t k) m

      own_v : look (write_map cmp t k o m) (version k t) ≡ Some (ver_rec k t o)
      own_v = look-put L (ver_rec k t o) (put cmp (wrote_rec t k) m)

  pub plain_unseen : (m : Map) (k : Key) (b : Bytes) → Unseen (view m) (view (put cmp (plain_rec k b) m))
  plain_unseen m k b = record {
    next = ap next_of (other next_version (λ e. nope (cc)));
    act = λ x. ap is_some (other (txn_active x) (λ e. nope (cc)));
    snap = λ x. ap set_of (other (txn_active_snapshot x) (λ e. nope (cc)));
    txw = λ x j. ap is_some (other (txn_write x j) (λ e. nope (cc)));
    vers = λ j x. ap item_of (other (version j x) (λ e. nope (cc)));
  }
    where
      other : (K : Fields) → unversioned k ≢ K → look (put cmp (plain_rec k b) m) K ≡ look m K
      other K n = look_put_other L (plain_rec k b) m n

  snap-other : (n : ℕ) (S : List ℕ) (m : Map) {K : Fields} → txn_active_snapshot n ≢ K → look (put_snap cmp n S m) K ≡ look m K
  snap-other n [] m a = refl
  snap-other n (x ∷ xs) m a = look_put_other L (snap_rec n (x ∷ xs)) m a

  snap_own : (n : ℕ) (S : List ℕ) (m : Map) → set_of (look (put_snap cmp n S m) (txn_active_snapshot n)) ≡ kept S (set_of (look m (txn_active_snapshot n)))
  snap_own n [] m = refl
  snap_own n (x ∷ xs) m = ap set_of (look-put L (snap_rec n (x ∷ xs)) m)

  above_actives : (v : ℕ) {m : Map} → Above cmp (txn_active v) m → (x : ℕ) → is_in x (actives m) ≡ true → v < x
  unfolding actives
  above_actives v above_nil x i = nope (cc (none_in x))
  above_actives v (above_cons {r = next_rec n} q a) x i = above_actives v a x i
  above_actives v (above_cons {r = active_rec w} {m = m} q a) x i = go (ℕ_discrete x w) (above_actives v a x)
    where
      go : Dec (x ≡ w) → (is_in x (actives m) ≡ true → v < x) → v < x
      go (yes p) rec = rw p (L.by_active v w q)
      go (no n) rec = rec (sym (is_in_cons x w (actives m) n) ∙ i)
  above_actives v (above_cons {r = snap_rec w s} q a) x i = above_actives v a x i
  above_actives v (above_cons {r = wrote_rec w k} q a) x i = above_actives v a x i
  above_actives v (above_cons {r = ver_rec k w o} q a) x i = above_actives v a x i
  above_actives v (above_cons {r = plain_rec k b} q a) x i = above_actives v a x i

  low-actives : {m : Map} → Sorted cmp m → (t x : ℕ) → is_in x (actives m) ≡ true → lowest (actives m) t ≤ x
  unfolding actives
  low-actives sorted_nil t x i = nope (cc (none_in x))
  low-actives (sorted_cons {r = next_rec n} a s) t x i = low-actives s t x i
  low-actives (sorted_cons {r = active_rec w} {m = m} a s) t x i = go (ℕ_discrete x w)
    where
      go : Dec (x ≡ w) → w ≤ x
      go (yes p) = omega arith
      go (no n) = omega (arith, above_actives w a x (sym (is_in_cons x w (actives m) n) ∙ i))
  low-actives (sorted_cons {r = snap_rec w z} a s) t x i = low-actives s t x i
  low-actives (sorted_cons {r = wrote_rec w k} a s) t x i = low-actives s t x i
  low-actives (sorted_cons {r = ver_rec k w o} a s) t x i = low-actives s t x i
  low-actives (sorted_cons {r = plain_rec k b} a s) t x i = low-actives s t x i

  pub begins-map : (m : Map) → Sorted cmp m → Begins (view m) (begin_handle m) (view (begin_map cmp m))
  unfolding begin_map
  begins-map m s = record {
    number = refl;
    set = in_actives m;
    low = low-actives s n;
    next = ap next_of (look_put_other L (active_rec n) m2 {K = next_version} (λ e. nope (cc)) ∙ snap-other n (actives m) m1 (λ e. nope (cc)) ∙ look-put L (next_rec (suc n)) m);
    act_own = ap is_some (look-put L (active_rec n) m2);
    act-other = λ x d. ap is_some (other (txn_active x) (λ e. d (cc)) (λ e. nope (cc)) (λ e. nope (cc)));
    snap_own = ap set_of (look_put_other L (active_rec n) m2 {K = txn_active_snapshot n} (λ e. nope (cc))) ∙ snap_own n (actives m) m1 ∙ ap (λ z. kept (actives m) (set_of z)) (look_put_other L (next_rec (suc n)) m {K = txn_active_snapshot n} (λ e. nope (cc)));
    snap-other = λ x d. ap set_of (other (txn_active_snapshot x) (λ e. nope (cc)) (λ e. d (cc)) (λ e. nope (cc)));
    txw = λ x k. ap is_some (other (txn_write x k) (λ e. nope (cc)) (λ e. nope (cc)) (λ e. nope (cc)));
    vers = λ k x. ap item_of (other (version k x) (λ e. nope (cc)) (λ e. nope (cc)) (λ e. nope (cc)));
  }
    where
      n : ℕ
      n = next_of (look m next_version)

      m1 : Map
      m1 = put cmp (next_rec (suc n)) m

      m2 : Map
      m2 = put_snap cmp n (actives m) m1

      other : (K : Fields) → txn_active n ≢ K → txn_active_snapshot n ≢ K → next_version ≢ K → look (put cmp (active_rec n) m2) K ≡ look m K
      other K a b c = look_put_other L (active_rec n) m2 a ∙ snap-other n (actives m) m1 b ∙ look_put_other L (next_rec (suc n)) m c

  pub sorted_begin : (m : Map) → Sorted cmp m → Sorted cmp (begin_map cmp m)
  unfolding begin_map
  sorted_begin m s = sorted-put L _ _ (go (actives m))
    where
      go : (S : List ℕ) → Sorted cmp (put_snap cmp (next_of (look m next_version)) S (put cmp (next_rec (suc (next_of (look m next_version)))) m))
      go [] = sorted-put L _ m s
      go (x ∷ xs) = sorted-put L _ _ (sorted-put L _ m s)

  pub sorted_write : (m : Map) (t : ℕ) (k : Key) (o : Option Bytes) → Sorted cmp m → Sorted cmp (write_map cmp t k o m)
  unfolding write_map
  sorted_write m t k o s = sorted-put L _ _ (sorted-put L _ m s)

eqb_self : (t : ℕ) → eqb t t ≡ true
eqb_self t = eq-eqb t t refl

abbrev pub mem_key : Key → List Key → Bool
mem_key k [] = false
mem_key k (j ∷ js) = is_yes (key≟ j k) || mem_key k js

-- which keys a commit and a rollback delete
is-written : (t x : ℕ) (j k : Key) → is_yes (fields≟ (txn_write x k) (txn_write t j)) ≡ eqb t x && is_yes (key≟ j k)
is-written t x j k = go (ℕ_discrete t x) (key≟ j k)
  where
    go : Dec (t ≡ x) → (d : Dec (j ≡ k)) → is_yes (fields≟ (txn_write x k) (txn_write t j)) ≡ eqb t x && is_yes d
    go (yes p) (yes q) = rw (p, q, is_yes_lem (txn_write x k), eqb_self x)
    go (yes p) (no n) = rw (is_no (txn_write x k) (txn_write t j) (λ e. n (cc)), eq-eqb t x p)
    go (no n) d = rw (is_no (txn_write x k) (txn_write t j) (λ e. n (cc)), ne_eqb t x n)

and_or : (a b c : Bool) → (a && b) || (a && c) ≡ a && (b || c)
and_or true b c = refl
and_or false b c = refl

is-version : (t x : ℕ) (j k : Key) → is_yes (fields≟ (version k x) (version j t)) ≡ eqb t x && is_yes (key≟ j k)
is-version t x j k = go (ℕ_discrete t x) (key≟ j k)
  where
    go : Dec (t ≡ x) → (d : Dec (j ≡ k)) → is_yes (fields≟ (version k x) (version j t)) ≡ eqb t x && is_yes d
    go (yes p) (yes q) = rw (p, q, is_yes_lem (version k x), eqb_self x)
    go (yes p) (no n) = rw (is_no (version k x) (version j t) (λ e. n (cc)), eq-eqb t x p)
    go (no n) d = rw (is_no (version k x) (version j t) (λ e. n (cc)), ne_eqb t x n)

is_active : (t x : ℕ) → is_yes (fields≟ (txn_active x) (txn_active t)) ≡ eqb t x
is_active t x = go (ℕ_discrete t x)
  where
    go : Dec (t ≡ x) → is_yes (fields≟ (txn_active x) (txn_active t)) ≡ eqb t x
    go (yes p) = rw (p, is_yes_lem (txn_active x), eqb_self x)
    go (no n) = rw (is_no (txn_active x) (txn_active t) (λ e. n (cc)), ne_eqb t x n)

or_false : (b : Bool) → b || false ≡ b
or_false true = refl
or_false false = refl

and_false : (b : Bool) → b && false ≡ false
and_false true = refl
and_false false = refl

commit_written : (t x : ℕ) (ks : List Key) (k : Key) → mem_k (txn_write x k) (commit_keys t ks) ≡ eqb t x && mem_key k ks
unfolding commit_keys
commit_written t x [] k = rw (is_no (txn_write x k) (txn_active t) (λ e. nope (cc))) (sym (and_false (eqb t x)))
commit_written t x (j ∷ ks) k = rw (is-written t x j k, commit_written t x ks k) (and_or (eqb t x) (is_yes (key≟ j k)) (mem_key k ks))

commit_active : (t x : ℕ) (ks : List Key) → mem_k (txn_active x) (commit_keys t ks) ≡ eqb t x
unfolding commit_keys
commit_active t x [] = rw (is_active t x) (or_false (eqb t x))
commit_active t x (j ∷ ks) = rw (is_no (txn_active x) (txn_write t j) (λ e. nope (cc))) (commit_active t x ks)

commit_other : (t : ℕ) (ks : List Key) (K : Fields) → ((x : ℕ) → K ≢ txn_active x) → ((x : ℕ) (k : Key) → K ≢ txn_write x k) → mem_k K (commit_keys t ks) ≡ false
unfolding commit_keys
commit_other t [] K a b = rw (is_no K (txn_active t) (a t))
commit_other t (j ∷ ks) K a b = rw (is_no K (txn_write t j) (b t j)) (commit_other t ks K a b)

undo_written : (t x : ℕ) (ks : List Key) (k : Key) → mem_k (txn_write x k) (undo_keys t ks) ≡ eqb t x && mem_key k ks
unfolding undo_keys
undo_written t x [] k = rw (is_no (txn_write x k) (txn_active t) (λ e. nope (cc))) (sym (and_false (eqb t x)))
undo_written t x (j ∷ ks) k = rw (is_no (txn_write x k) (version j t) (λ e. nope (cc)), is-written t x j k, undo_written t x ks k) (and_or (eqb t x) (is_yes (key≟ j k)) (mem_key k ks))

undo_version : (t x : ℕ) (ks : List Key) (k : Key) → mem_k (version k x) (undo_keys t ks) ≡ eqb t x && mem_key k ks
unfolding undo_keys
undo_version t x [] k = rw (is_no (version k x) (txn_active t) (λ e. nope (cc))) (sym (and_false (eqb t x)))
undo_version t x (j ∷ ks) k = rw (is-version t x j k, is_no (version k x) (txn_write t j) (λ e. nope (cc)), undo_version t x ks k) (and_or (eqb t x) (is_yes (key≟ j k)) (mem_key k ks))

undo_active : (t x : ℕ) (ks : List Key) → mem_k (txn_active x) (undo_keys t ks) ≡ eqb t x
unfolding undo_keys
undo_active t x [] = rw (is_active t x) (or_false (eqb t x))
undo_active t x (j ∷ ks) = rw (is_no (txn_active x) (version j t) (λ e. nope (cc)), is_no (txn_active x) (txn_write t j) (λ e. nope (cc))) (undo_active t x ks)

undo_other : (t : ℕ) (ks : List Key) (K : Fields) → ((x : ℕ) → K ≢ txn_active x) → ((x : ℕ) (k : Key) → K ≢ txn_write x k) → ((x : ℕ) (k : Key) → K ≢ version k x) → mem_k K (undo_keys t ks) ≡ false
unfolding undo_keys
undo_other t [] K a b c = rw (is_no K (txn_active t) (a t))
undo_other t (j ∷ ks) K a b c = rw (is_no K (version j t) (c t j), is_no K (txn_write t j) (b t j)) (undo_other t ks K a b c)

-- the scan of the TxnWrite records finds just the keys that have one
pub in_written : (t : ℕ) (m : Map) (k : Key) → mem_key k (written_by t m) ≡ is_some (look m (txn_write t k))
unfolding written_by
in_written t [] k = none_written t k
  where
    none_written : (t : ℕ) (k : Key) → false ≡ is_some (look [] (txn_write t k))
    none_written t k = sym (ap is_some (look_none (txn_write t k)))
in_written t (next_rec n ∷ m) k = rw (look-past (next_rec n) m {K = txn_write t k} (λ e. nope (cc))) (in_written t m k)
in_written t (active_rec v ∷ m) k = rw (look-past (active_rec v) m {K = txn_write t k} (λ e. nope (cc))) (in_written t m k)
in_written t (snap_rec v s ∷ m) k = rw (look-past (snap_rec v s) m {K = txn_write t k} (λ e. nope (cc))) (in_written t m k)
in_written t (wrote_rec v j ∷ m) k = go (ℕ_discrete t v) (key≟ j k) (in_written t m k)
  where
    go : Dec (t ≡ v) → (d : Dec (j ≡ k)) → mem_key k (written_by t m) ≡ is_some (look m (txn_write t k)) → mem_key k (cond (eqb t v) (j ∷ written_by t m) (written_by t m)) ≡ is_some (look (wrote_rec v j ∷ m) (txn_write t k))
    go (yes p) (yes q) i = rw (p, q, eqb_self v, look-here (wrote_rec v k) m) (one k)
      where
        one : (k : Key) → is_yes (key≟ k k) || mem_key k (written_by v m) ≡ true
        one k = sure (key≟ k k)
          where
            sure : (d : Dec (k ≡ k)) → is_yes d || mem_key k (written_by v m) ≡ true
            sure (yes p) = refl
            sure (no n) = absurd (n refl)
    go (yes p) (no n) i = rw (eq-eqb t v p, look-past (wrote_rec v j) m {K = txn_write t k} (λ e. n (cc))) (skip (key≟ j k))
      where
        skip : (d : Dec (j ≡ k)) → is_yes d || mem_key k (written_by t m) ≡ is_some (look m (txn_write t k))
        skip (yes p) = absurd (n p)
        skip (no q) = i
    go (no n) d i = rw (ne_eqb t v n, look-past (wrote_rec v j) m {K = txn_write t k} (λ e. n (cc))) i
in_written t (ver_rec j v o ∷ m) k = rw (look-past (ver_rec j v o) m {K = txn_write t k} (λ e. nope (cc))) (in_written t m k)
in_written t (plain_rec j b ∷ m) k = rw (look-past (plain_rec j b) m {K = txn_write t k} (λ e. nope (cc))) (in_written t m k)

gone : (y : Option Rec) → is_some (keep (not (is_some y)) y) ≡ false
gone None = refl
gone (Some r) = refl

pub commits : (m : Map) (t : ℕ) → Commits (view m) t (view (commit_map t m))
unfolding commit_map
commits m t = record {
  ends = record {
    next = rw (at next_version, commit_other t ks next_version (λ x e. nope (cc)) (λ x k e. nope (cc)));
    snap = λ x. rw (at (txn_active_snapshot x), commit_other t ks (txn_active_snapshot x) (λ y e. nope (cc)) (λ y k e. nope (cc)));
    act_own = rw (at (txn_active t), commit_active t t ks, eqb_self t);
    act-other = λ x n. rw (at (txn_active x), commit_active t x ks, ne_eqb t x n);
    txw_own = λ k. rw (at (txn_write t k), commit_written t t ks k, eqb_self t, in_written t m k) (gone (look m (txn_write t k)));
    txw-other = λ x k n. rw (at (txn_write x k), commit_written t x ks k, ne_eqb t x n);
  };
  vers = λ k x. rw (at (version k x), commit_other t ks (version k x) (λ y e. nope (cc)) (λ y j e. nope (cc)));
}
  where
    ks : List Key
    ks = written_by t m

    at : (K : Fields) → look (del_all (commit_keys t (written_by t m)) m) K ≡ keep (not (mem_k K (commit_keys t (written_by t m)))) (look m K)
    at K = look-del_all (commit_keys t (written_by t m)) m K

pub undoes : (m : Map) (t : ℕ) → Undoes (view m) t (view (rollback_map t m))
unfolding rollback_map
undoes m t = record {
  ends = record {
    next = rw (at next_version, undo_other t ks next_version (λ x e. nope (cc)) (λ x k e. nope (cc)) (λ x k e. nope (cc)));
    snap = λ x. rw (at (txn_active_snapshot x), undo_other t ks (txn_active_snapshot x) (λ y e. nope (cc)) (λ y k e. nope (cc)) (λ y k e. nope (cc)));
    act_own = rw (at (txn_active t), undo_active t t ks, eqb_self t);
    act-other = λ x n. rw (at (txn_active x), undo_active t x ks, ne_eqb t x n);
    txw_own = λ k. rw (at (txn_write t k), undo_written t t ks k, eqb_self t, in_written t m k) (gone (look m (txn_write t k)));
    txw-other = λ x k n. rw (at (txn_write x k), undo_written t x ks k, ne_eqb t x n);
  };
  vers_own = λ k. rw (at (version k t), undo_version t t ks k, eqb_self t, in_written t m k) (item_keep (not (is_some (look m (txn_write t k)))) (look m (version k t)));
  vers-other = λ k x n. rw (at (version k x), undo_version t x ks k, ne_eqb t x n);
}
  where
    ks : List Key
    ks = written_by t m

    at : (K : Fields) → look (del_all (undo_keys t (written_by t m)) m) K ≡ keep (not (mem_k K (undo_keys t (written_by t m)))) (look m K)
    at K = look-del_all (undo_keys t (written_by t m)) m K

    item_keep : (b : Bool) (y : Option Rec) → item_of (keep b y) ≡ keep b (item_of y)
    item_keep true y = refl
    item_keep false y = refl
