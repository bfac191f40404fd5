-- The transactions' calls on a map of typed records, as document 01 has them: what a begin, a write, a commit and a rollback make of it, and
-- what a get, a write's search and a scan step find in it. Assumes nothing.
use Prim.Native.Nat.{ℕ, suc, Ordering}
use Rattle.std.specs.Prelude.{Bool, false, not, ◌&&◌, cond, List, [], ◌∷◌, leb, eqb, Option, None, Some}
use Rattle.std.proofs.Math.Logic.{ite}
use Rattle.keycode.specs.key.Keys.{Fields, next_version, txn_active, txn_active_snapshot, txn_write, version}
use Rattle.isolation.specs.history.History.{Key, Bytes, key≟}
use Rattle.isolation.specs.history.Records.{Rec, next_rec, active_rec, snap_rec, wrote_rec, ver_rec, plain_rec, Map, look, put, del_all}
use Rattle.isolation.specs.history.History.{Sight, below, up_to, lowest}
use Rattle.isolation.specs.history.Store.{Db, is_some}

abbrev pub next_of : Option Rec → ℕ
next_of None = 1
next_of (Some (next_rec n)) = n
next_of (Some (active_rec v)) = 1
next_of (Some (snap_rec v s)) = 1
next_of (Some (wrote_rec v k)) = 1
next_of (Some (ver_rec k v o)) = 1
next_of (Some (plain_rec k b)) = 1

abbrev pub set_of : Option Rec → List ℕ
set_of None = []
set_of (Some (next_rec n)) = []
set_of (Some (active_rec v)) = []
set_of (Some (snap_rec v s)) = s
set_of (Some (wrote_rec v k)) = []
set_of (Some (ver_rec k v o)) = []
set_of (Some (plain_rec k b)) = []

abbrev pub item_of : Option Rec → Option (Option Bytes)
item_of None = None
item_of (Some (next_rec n)) = None
item_of (Some (active_rec v)) = None
item_of (Some (snap_rec v s)) = None
item_of (Some (wrote_rec v k)) = None
item_of (Some (ver_rec k v o)) = Some o
item_of (Some (plain_rec k b)) = None

-- what the transactions read of a map
abbrev pub view : Map → Db
view m = record {
  next = next_of (look m next_version);
  act = λ v. is_some (look m (txn_active v));
  snap = λ v. set_of (look m (txn_active_snapshot v));
  txw = λ v k. is_some (look m (txn_write v k));
  vers = λ k v. item_of (look m (version k v));
}

-- the open versions, as the scan under tag 01 gives them
unfoldable pub actives : Map → List ℕ
actives [] = []
actives (next_rec n ∷ m) = actives m
actives (active_rec v ∷ m) = v ∷ actives m
actives (snap_rec v s ∷ m) = actives m
actives (wrote_rec v k ∷ m) = actives m
actives (ver_rec k v o ∷ m) = actives m
actives (plain_rec k b ∷ m) = actives m

-- the Version records of a key that pass a test, in the scan's order
unfoldable pub versions_of : (ℕ → Bool) → Key → Map → List Rec
versions_of p k [] = []
versions_of p k (next_rec n ∷ m) = versions_of p k m
versions_of p k (active_rec v ∷ m) = versions_of p k m
versions_of p k (snap_rec v s ∷ m) = versions_of p k m
versions_of p k (wrote_rec v j ∷ m) = versions_of p k m
versions_of p k (ver_rec j v o ∷ m) = ite (key≟ j k) (cond (p v) (ver_rec j v o ∷ versions_of p k m) (versions_of p k m)) (versions_of p k m)
versions_of p k (plain_rec j b ∷ m) = versions_of p k m

abbrev pub back : Option Rec → Rec → Option Rec
back None r = Some r
back (Some s) r = Some s

unfoldable pub last_of : List Rec → Option Rec
last_of [] = None
last_of (r ∷ m) = back (last_of m) r

-- get: the value at the highest visible version
abbrev pub flat : {A : Type 0} → Option (Option A) → Option A
flat None = None
flat (Some o) = o

unfoldable pub visible : Sight → ℕ → Bool
visible h x = cond h.ro (below h.ver h.set x) (up_to h.ver h.set x)

unfoldable pub shown : Map → Sight → Key → Option Bytes
shown m h k = flat (item_of (last_of (versions_of (visible h) k m)))

-- a write meets Conflict
abbrev pub hides : Sight → Option Rec → Bool
hides h None = false
hides h (Some (next_rec n)) = false
hides h (Some (active_rec v)) = false
hides h (Some (snap_rec v s)) = false
hides h (Some (wrote_rec v k)) = false
hides h (Some (ver_rec k v o)) = not (up_to h.ver h.set v)
hides h (Some (plain_rec k b)) = false

abbrev pub last_version : ℕ
last_version = 18446744073709551615

-- a write's search runs from the lowest of the set, or the own version plus 1, to the last version there is
abbrev pub searched : Sight → ℕ → Bool
searched h x = leb (lowest h.set h.ver) x && leb x last_version

unfoldable pub conflict : Map → Sight → Key → Bool
conflict m h k = hides h (last_of (versions_of (searched h) k m))

abbrev pub begin_handle : Map → Sight
begin_handle m = record { ver = next_of (look m next_version); ro = false; set = actives m }

module _ (cmp : Fields → Fields → Ordering) where
  abbrev pub put_snap : ℕ → List ℕ → Map → Map
  put_snap v [] m = m
  put_snap v (x ∷ xs) m = put cmp (snap_rec v (x ∷ xs)) m

  unfoldable pub begin_map : Map → Map
  begin_map m = let n = next_of (look m next_version) in put cmp (active_rec n) (put_snap n (actives m) (put cmp (next_rec (suc n)) m))

  unfoldable pub write_map : ℕ → Key → Option Bytes → Map → Map
  write_map t k o m = put cmp (ver_rec k t o) (put cmp (wrote_rec t k) m)

-- the keys that a transaction has txn_write, as the scan of its TxnWrite records gives them
unfoldable pub written_by : ℕ → Map → List Key
written_by t [] = []
written_by t (next_rec n ∷ m) = written_by t m
written_by t (active_rec v ∷ m) = written_by t m
written_by t (snap_rec v s ∷ m) = written_by t m
written_by t (wrote_rec v k ∷ m) = cond (eqb t v) (k ∷ written_by t m) (written_by t m)
written_by t (ver_rec k v o ∷ m) = written_by t m
written_by t (plain_rec k b ∷ m) = written_by t m

-- what a commit deletes, and what a rollback deletes, in order
unfoldable pub commit_keys : ℕ → List Key → List Fields
commit_keys t [] = txn_active t ∷ []
commit_keys t (k ∷ ks) = txn_write t k ∷ commit_keys t ks

unfoldable pub undo_keys : ℕ → List Key → List Fields
undo_keys t [] = txn_active t ∷ []
undo_keys t (k ∷ ks) = version k t ∷ (txn_write t k ∷ undo_keys t ks)

unfoldable pub commit_map : ℕ → Map → Map
commit_map t m = del_all (commit_keys t (written_by t m)) m

unfoldable pub rollback_map : ℕ → Map → Map
rollback_map t m = del_all (undo_keys t (written_by t m)) m

-- the keys that have versions and pass a test, in the scan's order
unfoldable pub keys_in : (Key → Bool) → Map → List Key
keys_in p [] = []
keys_in p (next_rec n ∷ m) = keys_in p m
keys_in p (active_rec v ∷ m) = keys_in p m
keys_in p (snap_rec v s ∷ m) = keys_in p m
keys_in p (wrote_rec v k ∷ m) = keys_in p m
keys_in p (ver_rec k v o ∷ m) = cond (p k) (k ∷ keys_in p m) (keys_in p m)
keys_in p (plain_rec k b ∷ m) = keys_in p m

abbrev pub or_later : Key → Option Bytes → Option (Key × Bytes) → Option (Key × Bytes)
or_later k None r = r
or_later k (Some v) r = Some (k, v)

unfoldable pub first_shown : (Key → Option Bytes) → List Key → Option (Key × Bytes)
first_shown f [] = None
first_shown f (k ∷ ks) = or_later k (f k) (first_shown f ks)

-- a scan step: the first key that passes (in bounds, after the last one given) and shows a value
unfoldable pub scan_step : Map → Sight → (Key → Bool) → Option (Key × Bytes)
scan_step m h p = first_shown (shown m h) (keys_in p m)
