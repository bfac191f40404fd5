-- What begin, the writes and the unversioned set append makes of a map's pairs what these calls make of its records. Assumes nothing.
use Prim.Native.Nat.{ℕ, suc}
use mathlib.Core.Path.{◌≡◌}
use Rattle.std.specs.Prelude.{Option}
use mathlib.Core.List.{List, [], ◌∷◌}
use native.Mathlib.Numerals.{add-one}
use Rattle.keycode.specs.key.Keys.{encode, next_version, txn_active_snapshot}
use Rattle.bitcask.specs.entry.Entry.{set}
use Rattle.bitcask.specs.recovery.Map.{after}
use Rattle.bitcask.specs.change.Append.{after_all}
use Rattle.mvcc.specs.payload.Payloads.{set_bytes, value_bytes}
use Rattle.mvcc.specs.start.Plan.{next_entry, own_entry, snapshot_by, plan_by, begin_plan}
use Rattle.mvcc.specs.write.Writes.{plan}
use Rattle.mvcc.specs.unversioned.Promises.{plain_plan}
use Rattle.isolation.specs.history.History.{Key, Bytes}
use Rattle.isolation.specs.history.Records.{Rec, next_rec, active_rec, snap_rec, wrote_rec, ver_rec, plain_rec, key_of, Map, look, put}
use Rattle.isolation.specs.history.Calls.{next_of, actives, put_snap, begin_map, write_map}
use Rattle.isolation.specs.records.Stored.{payload_of, pairs_in, key_order}
use Rattle.isolation.proofs.records.PairLaws.{put-pairs}

-- a record's entry
set-pairs : (r : Rec) (m : Map) → after (set (encode (key_of r)) (payload_of r)) (pairs_in m) ≡ pairs_in (put key_order r m)
unfolding after
set-pairs r m = put-pairs r m

-- ---- begin

next-pairs : (v : ℕ) (m : Map) → after (next_entry v) (pairs_in m) ≡ pairs_in (put key_order (next_rec (suc v)) m)
unfolding payload_of
next-pairs v m = rw add-one (set-pairs (next_rec (suc v)) m)

own_pairs : (v : ℕ) (m : Map) → after (own_entry v) (pairs_in m) ≡ pairs_in (put key_order (active_rec v) m)
unfolding payload_of
own_pairs v m = set-pairs (active_rec v) m

snap-pairs : (v : ℕ) (vs : List ℕ) (m : Map) → after (set (encode (txn_active_snapshot v)) (set_bytes vs)) (pairs_in m) ≡ pairs_in (put key_order (snap_rec v vs) m)
unfolding payload_of
snap-pairs v vs m = set-pairs (snap_rec v vs) m

plan-pairs : (v : ℕ) (vs : List ℕ) (m : Map) → after_all (begin_plan v vs) (pairs_in m) ≡ pairs_in (put key_order (active_rec v) (put_snap key_order v vs (put key_order (next_rec (suc v)) m)))
unfolding after_all plan_by snapshot_by
plan-pairs v [] m = rw (next-pairs v m) (own_pairs v (put key_order (next_rec (suc v)) m))
plan-pairs v (x ∷ xs) m =
    rw (next-pairs v m, snap-pairs v (x ∷ xs) (put key_order (next_rec (suc v)) m))
    (own_pairs v (put key_order (snap_rec v (x ∷ xs)) (put key_order (next_rec (suc v)) m)))

pub begin_pairs : (m : Map) → after_all (begin_plan (next_of (look m next_version)) (actives m)) (pairs_in m) ≡ pairs_in (begin_map key_order m)
unfolding begin_map
begin_pairs m = plan-pairs (next_of (look m next_version)) (actives m) m

-- ---- the writes

pub write_pairs : (v : ℕ) (k : Key) (o : Option Bytes) (m : Map) → after_all (plan v k (value_bytes o)) (pairs_in m) ≡ pairs_in (write_map key_order v k o m)
unfolding after_all plan write_map payload_of
write_pairs v k o m = rw (set-pairs (wrote_rec v k) m) (set-pairs (ver_rec k v o) (put key_order (wrote_rec v k) m))

pub plain_pairs : (k : Key) (b : Bytes) (m : Map) → after_all (plain_plan k b) (pairs_in m) ≡ pairs_in (put key_order (plain_rec k b) m)
unfolding after_all plain_plan payload_of
plain_pairs k b m = set-pairs (plain_rec k b) m
