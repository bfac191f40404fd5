-- What the calls read of single records of a map: NextVersion, the snapshot of a version, and whether a version is open. Assumes nothing.
use Prim.Native.Nat.{ℕ}
use mathlib.Core.Path.{◌≡◌, refl, ap, ◌∙◌}
use mathlib.Core.Bool.{true}
use mathlib.Core.Logic.{ite}
use native.Mathlib.Omega.{arith}
use lib.ListN.{length}
use borrow.Author.Tests.{ne_eqb, le-leb}
use Rattle.std.specs.Prelude.{Ok, Some, Option, None}
use Rattle.keycode.specs.Limits.{max_open}
use Rattle.keycode.proofs.Basics.{nope}
use Rattle.keycode.specs.key.Keys.{Fields, encode, next_version, txn_active_snapshot}
use Rattle.bitcask.specs.keydir.Place.{All, all_none, all_more}
use Rattle.bitcask.specs.recovery.Map.{look_in}
use Rattle.mvcc.specs.handle.Handles.{handle_of}
use Rattle.mvcc.specs.payload.Payloads.{set_for}
use Rattle.mvcc.proofs.payload.PayloadLaws.{first_reads}
use Rattle.mvcc.specs.snapshot.Active.{next_of as next_in, next_at}
use Rattle.mvcc.specs.as_of.Answers.{snapshot_read}
use Rattle.isolation.specs.history.Records.{fields≟, Rec, next_rec, active_rec, snap_rec, wrote_rec, ver_rec, plain_rec, key_of, Map, look, Sorted}
use Rattle.isolation.specs.history.Calls.{next_of, set_of}
use Rattle.isolation.specs.records.Stored.{payload_of, pairs_in, key_order, Fine}
use Rattle.isolation.proofs.records.PairLaws.{payload_in, look-pairs}

-- what is found has the key, and is within the limits
pub look-says : {m : Map} → All Fine m → (K : Fields) (r : Rec) → look m K ≡ Some r → (key_of r ≡ K) × Fine r
unfolding look
look-says all_none K r e = nope (cc)
look-says (all_more {x = s} {xs = m} f a) K r e = go (fields≟ (key_of s) K) e (look-says a K r)
  where
    go : (d : Dec (key_of s ≡ K)) → ite d (Some s) (look m K) ≡ Some r → (look m K ≡ Some r → (key_of r ≡ K) × Fine r) → (key_of r ≡ K) × Fine r
    go (yes p) q rec = let z : s ≡ r = cc in rw (← z) (p, f)
    go (no n) q rec = rec q

module _ {m : Map} (s : Sorted key_order m) (a : All Fine m) where
  pub next-pairs : next_at (pairs_in m) ≡ Some (next_of (look m next_version))
  unfolding next_at next_in payload_of
  next-pairs = ap next_in (look-pairs next_version s) ∙ go (look m next_version) (look-says a next_version)
    where
      go : (z : Option Rec) → ((r : Rec) → z ≡ Some r → (key_of r ≡ next_version) × Fine r) → next_in (payload_in z) ≡ Some (next_of z)
      go None w = refl
      go (Some (next_rec n)) w =
          let f : Fine (next_rec n) = (w (next_rec n) refl).1 in
          let p : n ≡ 0 → ⊥ = λ e. omega (arith, f.0) in
          rw (first_reads.version n f.1, ne_eqb n 0 p)
      go (Some (active_rec v)) w = nope (cc (w (active_rec v) refl).0)
      go (Some (snap_rec v z)) w = nope (cc (w (snap_rec v z) refl).0)
      go (Some (wrote_rec v k)) w = nope (cc (w (wrote_rec v k) refl).0)
      go (Some (ver_rec k v o)) w = nope (cc (w (ver_rec k v o) refl).0)
      go (Some (plain_rec k b)) w = nope (cc (w (plain_rec k b) refl).0)

  pub snapshot_pairs : (v : ℕ)
      → snapshot_read v (look_in (encode (txn_active_snapshot v)) (pairs_in m)) ≡ Ok (handle_of v true (set_of (look m (txn_active_snapshot v))))
  unfolding snapshot_read set_for payload_of handle_of
  snapshot_pairs v = ap (snapshot_read v) (look-pairs (txn_active_snapshot v) s) ∙ go (look m (txn_active_snapshot v)) (look-says a (txn_active_snapshot v))
    where
      go : (z : Option Rec) → ((r : Rec) → z ≡ Some r → (key_of r ≡ txn_active_snapshot v) × Fine r)
          → snapshot_read v (payload_in z) ≡ Ok (handle_of v true (set_of z))
      go None w = refl
      go (Some (next_rec n)) w = nope (cc (w (next_rec n) refl).0)
      go (Some (active_rec u)) w = nope (cc (w (active_rec u) refl).0)
      go (Some (snap_rec u z)) w =
          let f : Fine (snap_rec u z) = (w (snap_rec u z) refl).1 in
          rw (first_reads.set z f.3, le-leb (length z) max_open f.1, f.2)
      go (Some (wrote_rec u k)) w = nope (cc (w (wrote_rec u k) refl).0)
      go (Some (ver_rec k u o)) w = nope (cc (w (ver_rec k u o) refl).0)
      go (Some (plain_rec k b)) w = nope (cc (w (plain_rec k b) refl).0)
