-- Bounds of user keys as bounds of Version keys, and the rows that a scan's step reads. Assumes nothing.
use Rattle.std.specs.Prelude.{ℕ, ◌-◌, ◌^◌, ◌≡◌, Bool, true, false, List, [], ◌∷◌, leb, length, Option, None, Some}
use Rattle.std.specs.Borrow.{Bor}
use Rattle.keycode.specs.Tests.{pick}
use Rattle.keycode.specs.Limits.{max_key}
use Rattle.keycode.specs.key.Keys.{encode, version}
use Rattle.keycode.specs.Order.{compare_bytes}
use Rattle.keycode.specs.Prefix.{prefix_end, searched}
use Rattle.keycode.specs.code.Codes.{Codes}
use Rattle.bitcask.specs.declared.answers.Bound.{Bound}
use Rattle.bitcask.specs.declared.answers.Bound.TheVariants.{Included, Excluded, Unbounded}
use Rattle.bitcask.specs.read.Ranks.{admits_low, last_bound, admitted}
use Rattle.bitcask.specs.engine.Rows.{Row}
use Rattle.bitcask.specs.engine.Spots.{from_rank}
use Rattle.bitcask.specs.engine.Prefixes.{begins, end_bound, end_bytes}
use Rattle.mvcc.specs.declared.scan.prefix.Upper.{Upper}
use Rattle.mvcc.specs.walk.Walks.{up_from}

-- the highest version that a key can have
abbrev pub last_version : ℕ
last_version = 2 ^ 64 - 1

-- a bound that is none carries no key, and neither does a last key that is not given
abbrev pub key_fits : Bound → List ℕ → Bool
key_fits Included k = leb (length k) max_key
key_fits Excluded k = leb (length k) max_key
key_fits Unbounded k = true

abbrev pub last_fits : Bool → List ℕ → Bool
last_fits true k = leb (length k) max_key
last_fits false k = true

-- the last given key, where one is
abbrev pub last_in : Option (Bor (List ℕ)) → List ℕ
last_in None = []
last_in (Some k) = k.now

-- every key that the call is handed
abbrev pub keys_fit : Bound → List ℕ → Bound → List ℕ → Bool → List ℕ → Bool
keys_fit lower low upper high given last = pick (key_fits lower low) (pick (key_fits upper high) (last_fits given last) false) false

-- the same of a prefix step
abbrev pub prefix_fits : List ℕ → Bool → List ℕ → Bool
prefix_fits p given last = pick (leb (length p) max_key) (last_fits given last) false

-- from a key's first version on, or from behind its last; none starts at the first Version key
abbrev pub low_kind : Bound → Bound
low_kind Included = Included
low_kind Excluded = Excluded
low_kind Unbounded = Included

abbrev pub low_bytes : Bound → List ℕ → List ℕ
low_bytes Included k = encode (version k 0)
low_bytes Excluded k = encode (version k last_version)
low_bytes Unbounded k = encode (version [] 0)

-- to a key's last version, or to before its first; none ends where the Version keys do
abbrev pub high_kind : Bound → Bound
high_kind Included = Included
high_kind Excluded = Excluded
high_kind Unbounded = Excluded

abbrev pub high_bytes : Bound → List ℕ → List ℕ
high_bytes Included k = encode (version k last_version)
high_bytes Excluded k = encode (version k 0)
high_bytes Unbounded k = 5 ∷ []

-- ---- the rows that a step reads

-- the number of the first: that of the lower bound or, where a last given key does not come before the bound's, that past its versions
abbrev pub start_rank : Bound → List ℕ → Bool → List ℕ → List Row → ℕ
start_rank lower low false last rs = from_rank lower low rs
start_rank lower low true last rs = pick (admits_low Excluded (compare_bytes low (low_bytes Excluded last))) (from_rank lower low rs) (from_rank Excluded (low_bytes Excluded last) rs)

-- within two bounds of engine keys and past the last given key
unfoldable pub past_rows : Bound → List ℕ → Bound → List ℕ → Bool → List ℕ → List Row → List Row
past_rows lower low upper high given last rs = up_from upper high rs (start_rank lower low given last rs)

-- within two bounds of user keys
abbrev pub scan_rows : Bound → List ℕ → Bound → List ℕ → Bool → List ℕ → List Row → List Row
scan_rows lower low upper high given last rs = past_rows (low_kind lower) (low_bytes lower low) (high_kind upper) (high_bytes upper high) given last rs

-- from a prefix's code to its end
abbrev pub prefix_rows : List ℕ → Bool → List ℕ → List Row → List Row
prefix_rows p given last rs = past_rows Included (searched p) (end_bound (prefix_end (searched p))) (end_bytes (searched p) (prefix_end (searched p))) given last rs

-- r is the upper bound of the keys that begin with a prefix
pub record Uppers (p : List ℕ) (r : Upper) : Type 0 where
  pub bound : r.bound ≡ end_bound (prefix_end p)
  pub code : Codes r.code (end_bytes p (prefix_end p))

-- ---- the same by a test of each key

abbrev pub scanned : Bound → List ℕ → Bound → List ℕ → Bool → List ℕ → List ℕ → Bool
scanned lower low upper high given last = admitted (low_kind lower) (low_bytes lower low) (high_kind upper) (high_bytes upper high) given (low_bytes Excluded last)

-- a key that begins with the prefix's code and lies behind the last version of the last given key
unfoldable pub prefixed : List ℕ → Bool → List ℕ → List ℕ → Bool
prefixed p given last k = pick (begins (searched p) k) (admits_low (last_bound given) (compare_bytes k (low_bytes Excluded last))) false
