-- Every record stays within the limits: put in, deleted, and after each call on the records. Assumes nothing.
use Prim.Native.Nat.{ℕ, suc, ◌+◌, ◌^◌, ◌<◌, ◌≤◌, Ordering}
use mathlib.Core.Path.{◌≡◌}
use mathlib.Core.Bool.{Bool, true, false}
use Rattle.std.specs.Prelude.{Option}
use mathlib.Core.List.{List, [], ◌∷◌}
use native.Mathlib.Omega.{arith}
use lib.ListN.{length}
use Rattle.keycode.specs.Limits.{max_key, max_open}
use Rattle.keycode.specs.key.Keys.{Fields, next_version}
use Rattle.bitcask.specs.keydir.Place.{All, all_none, all_more}
use Rattle.mvcc.specs.handle.Handles.{rising}
use Rattle.mvcc.specs.payload.Payloads.{Versions}
use Rattle.isolation.specs.history.History.{Key, Bytes}
use Rattle.isolation.specs.history.Records.{Rec, next_rec, active_rec, snap_rec, wrote_rec, ver_rec, plain_rec, key_of, Map, look, without, del_all, place, put, Sorted}
use Rattle.isolation.specs.history.Calls.{next_of, actives, put_snap, begin_map, write_map, written_by, commit_keys, undo_keys, commit_map, rollback_map}
use Rattle.isolation.specs.records.Stored.{key_order, Fine}
use Rattle.isolation.proofs.records.PairLaws.{is_key}
use Rattle.isolation.proofs.records.ActiveLaws.{actives-fit, actives_rise}

-- ---- put and delete

pub fine_put : (r : Rec) {m : Map} → Fine r → All Fine m → All Fine (put key_order r m)
unfolding put
fine_put r f all_none = all_more f all_none
fine_put r f (all_more {x = e} {xs = m} g a) = go (key_order (key_of r) (key_of e)) (fine_put r f a)
  where
    go : (o : Ordering) → All Fine (put key_order r m) → All Fine (place o r e m (put key_order r m))
    go Ordering.lt ih = all_more f (all_more g a)
    go Ordering.eq ih = all_more f a
    go Ordering.gt ih = all_more g ih

pub fine_without : (p : Fields → Bool) {m : Map} → All Fine m → All Fine (without p m)
unfolding without
fine_without p all_none = all_none
fine_without p (all_more {x = r} {xs = m} g a) = go (p (key_of r)) (fine_without p a)
  where
    go : (b : Bool) → All Fine (without p m) → All Fine (elim b [ true ↦ without p m | false ↦ r ∷ without p m ])
    go true ih = ih
    go false ih = all_more g ih

pub fine_del_all : (Ks : List Fields) {m : Map} → All Fine m → All Fine (del_all Ks m)
unfolding del_all
fine_del_all [] a = a
fine_del_all (K ∷ Ks) a = fine_del_all Ks (fine_without (is_key K) a)

-- ---- the calls

fine_snap : (v : ℕ) (vs : List ℕ) {m : Map} → v < 2 ^ 64 → length vs ≤ max_open → rising vs ≡ true → Versions vs → All Fine m → All Fine (put_snap key_order v vs m)
fine_snap v [] h l r w a = a
fine_snap v (x ∷ xs) h l r w a = fine_put (snap_rec v (x ∷ xs)) (h, l, r, w) a

-- the versions open rise and are versions, as the records stand in order
pub fine_begin : {m : Map} → Sorted key_order m → All Fine m → next_of (look m next_version) + 1 < 2 ^ 64 → length (actives m) ≤ max_open → All Fine (begin_map key_order m)
unfolding begin_map
fine_begin {m} s a h l =
    let v = next_of (look m next_version) in
    fine_put (active_rec v) (omega arith)
    (fine_snap v (actives m) (omega arith) l (actives_rise s) (actives-fit a) (fine_put (next_rec (suc v)) (omega arith, omega arith) a))

pub fine_write : (v : ℕ) (k : Key) (o : Option Bytes) {m : Map} → v < 2 ^ 64 → length k ≤ max_key → All Fine m → All Fine (write_map key_order v k o m)
unfolding write_map
fine_write v k o h l a = fine_put (ver_rec k v o) (h, l) (fine_put (wrote_rec v k) (h, l) a)

pub fine_plain : (k : Key) (b : Bytes) {m : Map} → length k ≤ max_key → All Fine m → All Fine (put key_order (plain_rec k b) m)
fine_plain k b l a = fine_put (plain_rec k b) l a

pub fine_commit : (v : ℕ) {m : Map} → All Fine m → All Fine (commit_map v m)
unfolding commit_map
fine_commit v {m} a = fine_del_all (commit_keys v (written_by v m)) a

pub fine_rollback : (v : ℕ) {m : Map} → All Fine m → All Fine (rollback_map v m)
unfolding rollback_map
fine_rollback v {m} a = fine_del_all (undo_keys v (written_by v m)) a
