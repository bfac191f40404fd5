-- What a begin reads: NextVersion, and the versions open. Assumes nothing.
use Rattle.std.specs.Prelude.{ℕ, ◌+◌, Bool, List, [], ◌∷◌, eqb, length, take, drop, Some, None, Option}
use Rattle.keycode.specs.Tests.{pick}
use Rattle.keycode.specs.Number.{num}
use Rattle.keycode.specs.key.Keys.{encode, next_version}
use Rattle.keycode.specs.Prefix.{prefix_end}
use Rattle.bitcask.specs.recovery.Map.{Pair, look_in, pairs_of}
use Rattle.bitcask.specs.declared.answers.Bound.TheVariants.{Included}
use Rattle.bitcask.specs.engine.Rows.{Row}
use Rattle.bitcask.specs.engine.Spots.{look_row, row_value}
use Rattle.bitcask.specs.engine.Ranges.{range_of}
use Rattle.bitcask.specs.engine.Prefixes.{begins, end_bound, end_bytes}
use Rattle.mvcc.specs.declared.handle.Handle.{Handle}
use Rattle.mvcc.specs.handle.Handles.{handle_of, with_all}
use Rattle.mvcc.specs.payload.Payloads.{version_in}
use Rattle.mvcc.specs.request.Ranges.{active_prefix}
use Rattle.mvcc.specs.declared.snapshot.Seen.{Seen}

-- ---- NextVersion

-- no transaction has version 0
abbrev pub next_by : Option ℕ → Option ℕ
next_by None = None
next_by (Some v) = pick (eqb v 0) None (Some v)

-- by the payload of its record; a missing one means 1
unfoldable pub next_of : Option (List ℕ) → Option ℕ
next_of None = Some 1
next_of (Some b) = next_by (version_in b)

-- of rows, and of a map
unfoldable pub next_in : List Row → Option ℕ
next_in rs = next_of (row_value (look_row (encode next_version) rs))

unfoldable pub next_at : List Pair → Option ℕ
next_at m = next_of (look_in (encode next_version) m)

-- ---- the versions open

-- the version of a key that is to be a TxnActive key: nine bytes, the first its tag
unfoldable pub active_in : List ℕ → Option ℕ
active_in key = pick (eqb (length key) 9) (Some (num (take 8 (drop 1 key)))) None

abbrev pub cons_read : Option ℕ → Option (List ℕ) → Option (List ℕ)
cons_read None o = None
cons_read (Some v) None = None
cons_read (Some v) (Some vs) = Some (v ∷ vs)

-- the versions of keys; none where one is no TxnActive key
unfoldable pub versions_in : List (List ℕ) → Option (List ℕ)
versions_in [] = Some []
versions_in (k ∷ ks) = cons_read (active_in k) (versions_in ks)

unfoldable pub keys_in : List Row → List (List ℕ)
keys_in [] = []
keys_in (r ∷ rs) = r.key ∷ keys_in rs

unfoldable pub keys_of : List Pair → List (List ℕ)
keys_of [] = []
keys_of (q ∷ m) = q.key ∷ keys_of m

-- the rows whose keys begin as every TxnActive key does, by ranks
unfoldable pub active_rows : List Row → List Row
active_rows rs = range_of Included active_prefix (end_bound (prefix_end active_prefix)) (end_bytes active_prefix (prefix_end active_prefix)) rs

-- the keys of a map that begin so
unfoldable pub active_keys : List Pair → List (List ℕ)
active_keys m = keys_of (pairs_of (begins active_prefix) m)

unfoldable pub active_at : List Pair → Option (List ℕ)
active_at m = versions_in (active_keys m)

-- ---- both, as the code has them

-- behind n versions that the handle has already; none where the store is bad
unfoldable pub seen_from : ℕ → Handle → Option (List ℕ) → Option Seen
seen_from n h None = None
seen_from n h (Some vs) = Some (record { tally = n + length vs; handle = with_all h vs })

abbrev pub seen_by : Bool → Option ℕ → Option (List ℕ) → Option Seen
seen_by ro None o = None
seen_by ro (Some v) o = seen_from 0 (handle_of v ro []) o
