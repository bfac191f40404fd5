-- What commit and rollback append makes of a map's pairs what these calls make of its records; of a read-only handle they append
-- nothing. The keys of a version's writes are read back from their bytes. Assumes nothing.
use Prim.Native.Nat.{ℕ}
use mathlib.Core.Path.{◌≡◌, refl, sym, ap, ◌∙◌}
use mathlib.Core.Bool.{true, false, cond}
use Rattle.std.specs.Prelude.{Some}
use mathlib.Core.List.{List, [], ◌∷◌, ◌++◌}
use native.Mathlib.Decide.{ℕ_discrete}
use lib.Dec.{eqb}
use borrow.Author.Tests.{eq-eqb, ne_eqb}
use Rattle.keycode.specs.Tests.{pick}
use Rattle.keycode.specs.Limits.{max_key}
use Rattle.keycode.specs.key.Keys.{Fields, txn_active, txn_write, version, encode, user_key}
use Rattle.keycode.proofs.key.KeyLaws.{decode_encode, fields_placed}
use Rattle.bitcask.specs.entry.Entry.{Entry, del}
use Rattle.bitcask.specs.keydir.Place.{All, all_none, all_more}
use Rattle.bitcask.specs.recovery.Map.{Pair, after, pairs_of}
use Rattle.bitcask.specs.change.Append.{after_all}
use Rattle.mvcc.specs.declared.handle.Handle.{Handle}
use Rattle.mvcc.proofs.request.RecordLaws.{written_by as is_write, write_begins}
use Rattle.mvcc.specs.delete_range.Plans.{cuts_of}
use Rattle.mvcc.specs.undo.Plans.{user_in, undos_of, all_users}
use Rattle.mvcc.specs.end.Plans.{writes_of, commit_plan, rollback_plan}
use Rattle.isolation.specs.history.History.{Key}
use Rattle.isolation.specs.history.Records.{Rec, next_rec, active_rec, snap_rec, wrote_rec, ver_rec, plain_rec, key_of, Map, del_all, Sorted}
use Rattle.isolation.specs.history.Calls.{written_by, commit_keys, undo_keys, commit_map, rollback_map}
use Rattle.isolation.proofs.history.MapLaws.{sorted-without}
use Rattle.isolation.specs.records.Stored.{pair_of, pairs_in, key_order, Fine}
use Rattle.isolation.proofs.records.OrderLaws.{order}
use Rattle.isolation.proofs.records.PairLaws.{is_key, cut_pairs}

-- ---- keys deleted one after the other

tombs_of : List Fields → List Entry
tombs_of [] = []
tombs_of (K ∷ Ks) = del (encode K) ∷ tombs_of Ks

tombs_pairs : (Ks : List Fields) {m : Map} → Sorted key_order m → after_all (tombs_of Ks) (pairs_in m) ≡ pairs_in (del_all Ks m)
unfolding tombs_of after_all after del_all
tombs_pairs [] s = refl
tombs_pairs (K ∷ Ks) s = ap (after_all (tombs_of Ks)) (cut_pairs K s) ∙ tombs_pairs Ks (sorted-without order (is_key K) s)

-- ---- the records of a version's writes

wrotes_of : ℕ → List Key → Map
wrotes_of v [] = []
wrotes_of v (k ∷ ks) = wrote_rec v k ∷ wrotes_of v ks

writes-first : (v : ℕ) (r : Rec) (m : Map) → writes_of v (pairs_in (r ∷ m)) ≡ pick (is_write v (key_of r)) (pair_of r ∷ writes_of v (pairs_in m)) (writes_of v (pairs_in m))
unfolding writes_of pairs_of pairs_in
writes-first v r m = rw (write_begins v (key_of r))

wrote-first : (v w : ℕ) (k : Key) (ks : List Key) → pick (eqb w v) (pair_of (wrote_rec w k) ∷ pairs_in (wrotes_of v ks)) (pairs_in (wrotes_of v ks)) ≡ pairs_in (wrotes_of v (cond (eqb v w) (k ∷ ks) ks))
unfolding wrotes_of pairs_in
wrote-first v w k ks = go (ℕ_discrete v w)
  where
    go : Dec (v ≡ w) → pick (eqb w v) (pair_of (wrote_rec w k) ∷ pairs_in (wrotes_of v ks)) (pairs_in (wrotes_of v ks)) ≡ pairs_in (wrotes_of v (cond (eqb v w) (k ∷ ks) ks))
    go (yes p) = rw (eq-eqb v w p, eq-eqb w v (sym p)) (ap (λ (u : ℕ). pair_of (wrote_rec u k) ∷ pairs_in (wrotes_of v ks)) (sym p))
    go (no n) = rw (ne_eqb v w n, ne_eqb w v (λ q. n (sym q)))

writes-pairs : (v : ℕ) (m : Map) → writes_of v (pairs_in m) ≡ pairs_in (wrotes_of v (written_by v m))
unfolding written_by
writes-pairs v [] = unfold writes_of pairs_of pairs_in wrotes_of in refl
writes-pairs v (next_rec n ∷ m) = writes-first v (next_rec n) m ∙ writes-pairs v m
writes-pairs v (active_rec w ∷ m) = writes-first v (active_rec w) m ∙ writes-pairs v m
writes-pairs v (snap_rec w s ∷ m) = writes-first v (snap_rec w s) m ∙ writes-pairs v m
writes-pairs v (wrote_rec w k ∷ m) = writes-first v (wrote_rec w k) m ∙ rw (writes-pairs v m) (wrote-first v w k (written_by v m))
writes-pairs v (ver_rec k w o ∷ m) = writes-first v (ver_rec k w o) m ∙ writes-pairs v m
writes-pairs v (plain_rec k b ∷ m) = writes-first v (plain_rec k b) m ∙ writes-pairs v m

-- ---- the keys that they name

-- a write of v within the limits
abbrev Wrote : ℕ → Key → Type 0
Wrote v k = Fine (wrote_rec v k)

wrote_fine : (v w : ℕ) (k : Key) {ks : List Key} → Wrote w k → All (Wrote v) ks → All (Wrote v) (cond (eqb v w) (k ∷ ks) ks)
wrote_fine v w k {ks} f a = go (ℕ_discrete v w)
  where
    go : Dec (v ≡ w) → All (Wrote v) (cond (eqb v w) (k ∷ ks) ks)
    go (yes p) = rw (eq-eqb v w p) (all_more {x = k} (rw p f) a)
    go (no n) = rw (ne_eqb v w n) a

written_fine : (v : ℕ) {m : Map} → All Fine m → All (Wrote v) (written_by v m)
unfolding written_by
written_fine v all_none = all_none
written_fine v (all_more {x = next_rec n} f a) = written_fine v a
written_fine v (all_more {x = active_rec w} f a) = written_fine v a
written_fine v (all_more {x = snap_rec w s} f a) = written_fine v a
written_fine v (all_more {x = wrote_rec w k} f a) = wrote_fine v w k f (written_fine v a)
written_fine v (all_more {x = ver_rec k w o} f a) = written_fine v a
written_fine v (all_more {x = plain_rec k b} f a) = written_fine v a

user-back : (v : ℕ) (k : Key) → Wrote v k → user_in (encode (txn_write v k)) ≡ Some k
unfolding user_in
user-back v k f = rw (decode_encode max_key (txn_write v k) f.0 f.1) (ap (λ (F : Fields). Some (user_key F)) (fields_placed (txn_write v k)))

-- ---- what is appended, as keys deleted

commit_tombs : (v : ℕ) (ks : List Key) → cuts_of (pairs_in (wrotes_of v ks)) ++ (del (encode (txn_active v)) ∷ []) ≡ tombs_of (commit_keys v ks)
unfolding cuts_of pairs_in wrotes_of tombs_of commit_keys
commit_tombs v [] = refl
commit_tombs v (k ∷ ks) = ap (λ (es : List Entry). del (encode (txn_write v k)) ∷ es) (commit_tombs v ks)

undo_tombs : (v : ℕ) {ks : List Key} → All (Wrote v) ks → undos_of v (pairs_in (wrotes_of v ks)) ++ (del (encode (txn_active v)) ∷ []) ≡ tombs_of (undo_keys v ks)
unfolding undos_of pairs_in wrotes_of tombs_of undo_keys
undo_tombs v all_none = refl
undo_tombs v (all_more {x = k} f a) = rw (user-back v k f) (ap (λ (es : List Entry). del (encode (version k v)) ∷ del (encode (txn_write v k)) ∷ es) (undo_tombs v a))

all_read : (v : ℕ) {ks : List Key} → All (Wrote v) ks → all_users (pairs_in (wrotes_of v ks)) ≡ true
unfolding all_users pairs_in wrotes_of
all_read v all_none = refl
all_read v (all_more {x = k} f a) = rw (user-back v k f) (all_read v a)

-- ---- a read-write handle

module _ {m : Map} (h : Handle) where
  pub users_pairs : All Fine m → all_users (writes_of h.version (pairs_in m)) ≡ true
  users_pairs a = rw (writes-pairs h.version m) (all_read h.version (written_fine h.version a))

  module _ (s : Sorted key_order m) (w : h.read_only ≡ false) where
    pub commit_pairs : after_all (commit_plan h (pairs_in m)) (pairs_in m) ≡ pairs_in (commit_map h.version m)
    unfolding commit_plan commit_map
    commit_pairs = rw (w, writes-pairs h.version m, commit_tombs h.version (written_by h.version m)) (tombs_pairs (commit_keys h.version (written_by h.version m)) s)

    pub rollback_pairs : All Fine m → after_all (rollback_plan h (pairs_in m)) (pairs_in m) ≡ pairs_in (rollback_map h.version m)
    unfolding rollback_plan rollback_map
    rollback_pairs a = rw (w, writes-pairs h.version m, undo_tombs h.version (written_fine h.version a)) (tombs_pairs (undo_keys h.version (written_by h.version m)) s)

-- ---- a read-only handle

module _ (h : Handle) (p : List Pair) (r : h.read_only ≡ true) where
  pub commit_none : commit_plan h p ≡ []
  unfolding commit_plan
  commit_none = rw r

  pub rollback_none : rollback_plan h p ≡ []
  unfolding rollback_plan
  rollback_none = rw r
