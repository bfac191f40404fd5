-- The versions open, as a begin and the status read them: of a map of records they are its active records', and they rise. Assumes nothing.
use Prim.Native.Nat.{ℕ, zero, suc, ◌^◌, ◌<◌}
use mathlib.Core.Path.{◌≡◌, refl, ap}
use mathlib.Core.Bool.{true}
use mathlib.Core.List.{[], ◌∷◌}
use native.Mathlib.Omega.{arith}
use lib.ListN.{length}
use lib.Seq.{take_all}
use borrow.Author.Tests.{lt-ltb}
use Rattle.std.specs.Prelude.{Some}
use Rattle.keycode.specs.Number.{be}
use Rattle.keycode.proofs.NumberLaws.{num-be, length-be}
use Rattle.keycode.specs.key.Keys.{encode, txn_active}
use Rattle.bitcask.specs.keydir.Place.{All, all_none, all_more}
use Rattle.mvcc.specs.handle.Handles.{rising, rising_from}
use Rattle.mvcc.specs.payload.Payloads.{Versions}
use Rattle.bitcask.specs.engine.Prefixes.{begins}
use Rattle.bitcask.specs.recovery.Map.{pairs_of}
use Rattle.mvcc.specs.snapshot.Active.{active_in, versions_in, keys_of, active_keys, active_at}
use Rattle.isolation.specs.history.Records.{next_rec, active_rec, snap_rec, wrote_rec, ver_rec, plain_rec, Map, Above, above_cons, Sorted, sorted_nil, sorted_cons}
use Rattle.isolation.specs.history.Calls.{actives}
use Rattle.isolation.specs.records.Stored.{pairs_in, key_order, Fine}
use Rattle.isolation.proofs.records.OrderLaws.{order}

-- ---- their keys

active_read : (v : ℕ) → v < 2 ^ 64 → active_in (encode (txn_active v)) ≡ Some v
unfolding active_in
active_read v h = rw (length-be 8 v, take_all 8 (be 8 v) (omega (arith, length-be 8 v)), num-be 8 v h)

pub active_count : (m : Map) → length (active_keys (pairs_in m)) ≡ length (actives m)
unfolding active_keys pairs_of keys_of begins pairs_in actives
active_count [] = refl
active_count (next_rec n ∷ m) = active_count m
active_count (active_rec v ∷ m) = ap suc (active_count m)
active_count (snap_rec v s ∷ m) = active_count m
active_count (wrote_rec v k ∷ m) = active_count m
active_count (ver_rec k v o ∷ m) = active_count m
active_count (plain_rec k b ∷ m) = active_count m

pub active_pairs : {m : Map} → All Fine m → active_at (pairs_in m) ≡ Some (actives m)
unfolding active_at active_keys versions_in pairs_of keys_of begins pairs_in actives
active_pairs all_none = refl
active_pairs (all_more {x = next_rec n} f a) = active_pairs a
active_pairs (all_more {x = active_rec v} {xs = m} f a) = rw (active_read v f, active_pairs a)
active_pairs (all_more {x = snap_rec v s} f a) = active_pairs a
active_pairs (all_more {x = wrote_rec v k} f a) = active_pairs a
active_pairs (all_more {x = ver_rec k v o} f a) = active_pairs a
active_pairs (all_more {x = plain_rec k b} f a) = active_pairs a

-- ---- versions that rise

pub actives-fit : {m : Map} → All Fine m → Versions (actives m)
unfolding actives
actives-fit all_none i = omega arith
actives-fit (all_more {x = next_rec n} f a) i = actives-fit a i
actives-fit (all_more {x = active_rec v} f a) zero = f
actives-fit (all_more {x = active_rec v} f a) (suc i) = actives-fit a i
actives-fit (all_more {x = snap_rec v s} f a) i = actives-fit a i
actives-fit (all_more {x = wrote_rec v k} f a) i = actives-fit a i
actives-fit (all_more {x = ver_rec k v o} f a) i = actives-fit a i
actives-fit (all_more {x = plain_rec k b} f a) i = actives-fit a i

rising_above : {m : Map} → Sorted key_order m → (v : ℕ) → Above key_order (txn_active v) m → rising_from v (actives m) ≡ true
unfolding rising_from actives
rising_above sorted_nil v b = refl
rising_above (sorted_cons {r = next_rec n} c s) v (above_cons q b) = rising_above s v b
rising_above (sorted_cons {r = active_rec w} c s) v (above_cons q b) = rw (lt-ltb v w (order.by_active v w q)) (rising_above s w c)
rising_above (sorted_cons {r = snap_rec w z} c s) v (above_cons q b) = rising_above s v b
rising_above (sorted_cons {r = wrote_rec w k} c s) v (above_cons q b) = rising_above s v b
rising_above (sorted_cons {r = ver_rec k w o} c s) v (above_cons q b) = rising_above s v b
rising_above (sorted_cons {r = plain_rec k z} c s) v (above_cons q b) = rising_above s v b

pub actives_rise : {m : Map} → Sorted key_order m → rising (actives m) ≡ true
unfolding rising actives
actives_rise sorted_nil = refl
actives_rise (sorted_cons {r = next_rec n} c s) = actives_rise s
actives_rise (sorted_cons {r = active_rec v} c s) = rising_above s v c
actives_rise (sorted_cons {r = snap_rec v z} c s) = actives_rise s
actives_rise (sorted_cons {r = wrote_rec v k} c s) = actives_rise s
actives_rise (sorted_cons {r = ver_rec k v o} c s) = actives_rise s
actives_rise (sorted_cons {r = plain_rec k z} c s) = actives_rise s
