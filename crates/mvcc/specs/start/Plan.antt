-- What a begin appends. Assumes nothing.
use Rattle.std.specs.Prelude.{ℕ, zero, suc, ◌+◌, List, [], ◌∷◌, ◌++◌, length}
use Rattle.keycode.specs.key.Keys.{encode, next_version, txn_active, txn_active_snapshot}
use Rattle.bitcask.specs.entry.Entry.{Entry, set}
use Rattle.mvcc.specs.declared.handle.Handle.{Handle}
use Rattle.mvcc.specs.handle.Handles.{set_of}
use Rattle.mvcc.specs.payload.Payloads.{version_bytes, set_bytes}

-- ---- the entries of version v

abbrev pub next_entry : ℕ → Entry
next_entry v = set (encode next_version) (version_bytes (v + 1))

abbrev pub own_entry : ℕ → Entry
own_entry v = set (encode (txn_active v)) []

-- the snapshot with the payload p, where so many versions are open
unfoldable pub snapshot_by : ℕ → ℕ → List ℕ → List Entry
snapshot_by zero v p = []
snapshot_by (suc n) v p = set (encode (txn_active_snapshot v)) p ∷ []

unfoldable pub plan_by : ℕ → ℕ → List ℕ → List Entry
plan_by n v p = next_entry v ∷ (snapshot_by n v p ++ (own_entry v ∷ []))

-- of a version, and those open
abbrev pub begin_plan : ℕ → List ℕ → List Entry
begin_plan v vs = plan_by (length vs) v (set_bytes vs)

-- of the handle that a begin gives
abbrev pub plan_of : Handle → List Entry
plan_of h = begin_plan h.version (set_of h)
