-- The store's records as the map's pairs of bytes, and what a handle sees by. Document 01, 'Key bytes' and 'Transactions'. Assumes nothing.
use Prim.Native.Nat.{ℕ, ◌^◌, ◌<◌, ◌≤◌, Ordering}
use Rattle.std.specs.declared.cmp.Ordering.{Ordering as Way}
use Rattle.std.specs.declared.cmp.Ordering.TheVariants.{Less, Equal, Greater}
use Rattle.std.specs.Prelude.{◌≡◌, true, List, [], ◌∷◌, length}
use Rattle.keycode.specs.Limits.{max_key, max_open}
use Rattle.keycode.specs.Order.{compare_bytes}
use Rattle.keycode.specs.key.Keys.{Fields, encode}
use Rattle.bitcask.specs.recovery.Map.{Pair}
use Rattle.mvcc.specs.declared.handle.Handle.{Handle}
use Rattle.mvcc.specs.handle.Handles.{set_of, rising}
use Rattle.mvcc.specs.payload.Payloads.{Versions, version_bytes, set_bytes, value_bytes}
use Rattle.isolation.specs.history.History.{Sight}
use Rattle.isolation.specs.history.Records.{Rec, next_rec, active_rec, snap_rec, wrote_rec, ver_rec, plain_rec, key_of, Map}

-- ---- bytes

unfoldable pub payload_of : Rec → List ℕ
payload_of (next_rec n) = version_bytes n
payload_of (active_rec v) = []
payload_of (snap_rec v s) = set_bytes s
payload_of (wrote_rec v k) = []
payload_of (ver_rec k v o) = value_bytes o
payload_of (plain_rec k b) = b

abbrev pub pair_of : Rec → Pair
pair_of r = record { key = encode (key_of r); value = payload_of r }

unfoldable pub pairs_in : Map → List Pair
pairs_in [] = []
pairs_in (r ∷ m) = pair_of r ∷ pairs_in m

-- ---- the order of keys is that of their bytes

abbrev pub ordering_of : Way → Ordering
ordering_of Less = Ordering.lt
ordering_of Equal = Ordering.eq
ordering_of Greater = Ordering.gt

unfoldable pub key_order : Fields → Fields → Ordering
key_order k j = ordering_of (compare_bytes (encode k) (encode j))

-- ---- within the limits

abbrev pub Fine : Rec → Type 0
Fine (next_rec n) = (0 < n) × (n < 2 ^ 64)
Fine (active_rec v) = v < 2 ^ 64
Fine (snap_rec v s) = (v < 2 ^ 64) × (length s ≤ max_open) × (rising s ≡ true) × Versions s
Fine (wrote_rec v k) = (v < 2 ^ 64) × (length k ≤ max_key)
Fine (ver_rec k v o) = (v < 2 ^ 64) × (length k ≤ max_key)
Fine (plain_rec k b) = length k ≤ max_key

-- ---- handles

abbrev pub sight_of : Handle → Sight
sight_of h = record { ver = h.version; ro = h.read_only; set = set_of h }
