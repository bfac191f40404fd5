-- A write's search for conflicts: the last version of its key, from the lowest that may be unseen on: 12 where
-- it does not decode, 6 where the handle does not see it. Assumes nothing.
use Rattle.keycode.specs.declared.refusal.Refusal.{Refusal}
use Rattle.std.specs.Prelude.{ℕ, ◌-◌, ◌^◌, Bool, List, [], ◌∷◌, Result, ⊤, Ok, Err, Option, Some, None}
use Rattle.keycode.specs.Tests.{pick}
use Rattle.keycode.specs.Limits.{max_key}
use Rattle.keycode.specs.declared.refusal.Refusal.TheVariants.{Conflict, BadStore}
use Rattle.keycode.specs.key.Keys.{encode, version, decode_why, forget}
use Rattle.bitcask.specs.recovery.Map.{Pair}
use Rattle.bitcask.specs.declared.answers.Bound.TheVariants.{Included}
use Rattle.mvcc.specs.declared.handle.Handle.{Handle}
use Rattle.mvcc.specs.handle.Handles.{sees, lowest_of}
use Rattle.mvcc.specs.version.Seen.{version_of}
use Rattle.bitcask.specs.engine.Rows.{Row}
use Rattle.bitcask.specs.engine.Spots.{upto_rank}
use Rattle.bitcask.specs.engine.Ranges.{inside}
use Rattle.bitcask.specs.engine.Walks.{down_from}

-- the last record found: its version, where it has one, is to be one that the handle sees
abbrev pub met_by : Handle → Option ℕ → Result ⊤ Refusal
met_by h None = Err BadStore
met_by h (Some v) = pick (sees h v) (Ok tt) (Err Conflict)

unfoldable pub seen_bytes : Handle → List ℕ → Result ⊤ Refusal
seen_bytes h b = met_by h (version_of (forget (decode_why max_key b)))

-- the last pair of a range decides, by its key alone
unfoldable pub search_by : Handle → List Pair → Result ⊤ Refusal
search_by h [] = (Ok tt)
search_by h (q ∷ []) = seen_bytes h q.key
search_by h (q ∷ p ∷ m) = search_by h (p ∷ m)

-- the range that is searched: the versions of a key from the lowest that the handle may not see on
abbrev pub low_key : Handle → List ℕ → List ℕ
low_key h key = encode (version key (lowest_of h))

abbrev pub high_key : List ℕ → List ℕ
high_key key = encode (version key (2 ^ 64 - 1))

unfoldable pub unseen_rows : Handle → List ℕ → List Row → List Row
unseen_rows h key rs = down_from Included (low_key h key) rs (upto_rank Included (high_key key) rs)

-- the same by a test of each key
unfoldable pub searched : Handle → List ℕ → List ℕ → Bool
searched h key = inside Included (low_key h key) Included (high_key key)
