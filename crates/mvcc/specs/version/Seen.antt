-- What records say to a handle: of rows by the places of their keys and values, and of the map's pairs by the values themselves.
-- Assumes nothing.
use Rattle.keycode.specs.declared.refusal.Refusal.{Refusal}
use Rattle.std.specs.Prelude.{ℕ, ◌+◌, ◌-◌, Bool, List, [], ◌∷◌, Result, Ok, Err, Some, None, Option}
use Rattle.keycode.specs.Tests.{pick}
use Rattle.keycode.specs.Limits.{max_key}
use Rattle.keycode.specs.key.Keys.{encode, version, decode_why, forget}
use Rattle.keycode.specs.declared.refusal.Refusal.TheVariants.{Absent, BadStore}
use Rattle.keycode.specs.declared.parts.Part.{Part}
use Rattle.keycode.specs.declared.key.Key.{Key}
use Rattle.keycode.specs.declared.key.Key.TheVariants.{NextVersion, TxnActive, TxnActiveSnapshot, TxnWrite, Version, Unversioned}
use Rattle.bitcask.specs.recovery.Map.{Pair}
use Rattle.bitcask.specs.declared.answers.Bound.TheVariants.{Included}
use Rattle.bitcask.specs.engine.Rows.{Row, key_place, value_place}
use Rattle.bitcask.specs.engine.Spots.{upto_rank}
use Rattle.bitcask.specs.engine.Ranges.{inside}
use Rattle.bitcask.specs.engine.Walks.{down_from}
use Rattle.mvcc.specs.declared.handle.Handle.{Handle}
use Rattle.mvcc.specs.declared.payload.Stored.{Stored}
use Rattle.mvcc.specs.declared.payload.Stored.TheVariants as Payload
use Rattle.mvcc.specs.handle.Handles.{sees}
use Rattle.mvcc.specs.payload.Payloads.{value_in, value_at}
use Rattle.mvcc.specs.declared.version.Label.{Label}
use Rattle.mvcc.specs.declared.version.Record.{Record}
use Rattle.mvcc.specs.declared.version.Seen.{Seen}
use Rattle.mvcc.specs.declared.version.Seen.TheVariants.{Hidden, Gone, Bad, Value}

-- ---- one record

-- a key's string and version, where it is a Version key
abbrev pub label_key : Key → Option Label
label_key NextVersion = None
label_key (TxnActive v) = None
label_key (TxnActiveSnapshot v) = None
label_key (TxnWrite v p) = None
label_key (Version p v) = Some (record { string = p; version = v })
label_key (Unversioned p) = None

abbrev pub label_by : Result Key Refusal → Option Label
label_by (Ok k) = label_key k
label_by (Err r) = None

-- the version alone
abbrev pub version_in : Option Label → Option ℕ
version_in None = None
version_in (Some l) = Some l.version

abbrev pub version_of : Result Key Refusal → Option ℕ
version_of d = version_in (label_by d)

-- a part without its first bytes
abbrev pub behind_part : Part → ℕ → Part
behind_part p skip = record { at = p.at + skip; len = p.len - skip }

-- the place of a key's string, which stands behind the tag, its closing 00 00 not counted
abbrev pub string_part : Part → ℕ → Part
string_part p n = record { at = p.at + 1; len = n }

abbrev pub says_by : Part → Option Stored → Seen
says_by p (Some (Payload.Value skip)) = Value (behind_part p skip)
says_by p (Some Payload.Gone) = Gone
says_by p None = Bad

unfoldable pub row_says : Row → Seen
row_says r = says_by (value_place r) (value_in r.value)

-- a payload counts where the handle sees its version
abbrev pub seen_as : Handle → Seen → ℕ → Seen
seen_as h i v = pick (sees h v) i Hidden

-- a key that does not decode, then a version that is not seen, then the payload
abbrev pub seen_by : Handle → Seen → Option ℕ → Seen
seen_by h i None = Bad
seen_by h i (Some v) = seen_as h i v

unfoldable pub seen_row : Handle → Row → Seen
seen_row h r = seen_by h (row_says r) (version_of (forget (decode_why max_key r.key)))

-- the same with the place of the user key
abbrev pub record_by : Handle → Row → Option Label → Option Record
record_by h r None = None
record_by h r (Some l) = Some (record { key = string_part (key_place r) l.string.len; seen = seen_as h (row_says r) l.version })

unfoldable pub record_row : Handle → Row → Option Record
record_row h r = record_by h r (label_by (forget (decode_why max_key r.key)))

-- ---- the last that decides

abbrev pub or_else : Seen → Seen → Seen
or_else Hidden t = t
or_else Gone t = Gone
or_else Bad t = Bad
or_else (Value p) t = Value p

unfoldable pub last_rows : Handle → List Row → Seen
last_rows h [] = Hidden
last_rows h (r ∷ rs) = or_else (last_rows h rs) (seen_row h r)

-- the answer that it is: 1 where none decides
abbrev pub located_seen : Seen → Result Part Refusal
located_seen Hidden = Err Absent
located_seen Gone = Err Absent
located_seen Bad = Err BadStore
located_seen (Value p) = Ok p

-- ---- the versions of a key from 0 to v, both included

abbrev pub version_test : List ℕ → ℕ → List ℕ → Bool
version_test key v = inside Included (encode (version key 0)) Included (encode (version key v))

-- by one search and a walk down
unfoldable pub version_rows : List ℕ → ℕ → List Row → List Row
version_rows key v rs = down_from Included (encode (version key 0)) rs (upto_rank Included (encode (version key v)) rs)

-- ---- the same of pairs: none where no record decides; else what the payload holds

abbrev pub pair_by : Handle → Option (Option (List ℕ)) → Option ℕ → Option (Option (Option (List ℕ)))
pair_by h i None = Some None
pair_by h i (Some v) = pick (sees h v) (Some i) None

unfoldable pub pair_says : Handle → Pair → Option (Option (Option (List ℕ)))
pair_says h q = pair_by h (value_at q.value (value_in q.value)) (version_of (forget (decode_why max_key q.key)))

abbrev pub or_pair : Option (Option (Option (List ℕ))) → Option (Option (Option (List ℕ))) → Option (Option (Option (List ℕ)))
or_pair None t = t
or_pair (Some i) t = Some i

unfoldable pub last_pair : Handle → List Pair → Option (Option (Option (List ℕ)))
last_pair h [] = None
last_pair h (q ∷ m) = or_pair (last_pair h m) (pair_says h q)

abbrev pub or_gone : Option (Option (Option (List ℕ))) → Option (Option (List ℕ))
or_gone None = Some None
or_gone (Some i) = i

-- the value that a handle sees in a key's pairs, or none where there is none; or that the store is bad there
unfoldable pub value_for : Handle → List Pair → Option (Option (List ℕ))
value_for h m = or_gone (last_pair h m)
