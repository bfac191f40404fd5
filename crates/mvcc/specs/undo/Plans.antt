-- What undoing a transaction's writes appends, in the words of the map: for each record of a write a tombstone for the version that it
-- names, there or not, and one for itself. Assumes nothing.
use Rattle.keycode.specs.declared.refusal.Refusal.{Refusal}
use Rattle.std.specs.Prelude.{ℕ, Bool, true, false, List, [], ◌∷◌, ◌++◌, take, drop, Result, Ok, Err, Option, None, Some}
use Rattle.keycode.specs.Tests.{pick}
use Rattle.keycode.specs.Limits.{max_key}
use Rattle.keycode.specs.Strings.{unescaped}
use Rattle.keycode.specs.key.Keys.{encode, version, decode_why, forget}
use Rattle.keycode.specs.declared.key.Key.{Key}
use Rattle.keycode.specs.declared.key.Key.TheVariants.{NextVersion, TxnActive, TxnActiveSnapshot, TxnWrite, Version, Unversioned}
use Rattle.bitcask.specs.entry.Entry.{Entry, del}
use Rattle.bitcask.specs.recovery.Map.{Pair}

-- the user key of a TxnWrite key
abbrev pub user_of : List ℕ → Key → Option (List ℕ)
user_of b NextVersion = None
user_of b (TxnActive v) = None
user_of b (TxnActiveSnapshot v) = None
user_of b (TxnWrite v p) = Some (unescaped (take p.len (drop p.at b)))
user_of b (Version p v) = None
user_of b (Unversioned p) = None

abbrev pub user_by : List ℕ → Result Key Refusal → Option (List ℕ)
user_by b (Ok k) = user_of b k
user_by b (Err r) = None

-- of bytes; none where they are no TxnWrite key
unfoldable pub user_in : List ℕ → Option (List ℕ)
user_in b = user_by b (forget (decode_why max_key b))

abbrev pub undo_by : ℕ → List ℕ → Option (List ℕ) → List Entry
undo_by v b None = []
undo_by v b (Some u) = del (encode (version u v)) ∷ del b ∷ []

unfoldable pub undos_of : ℕ → List Pair → List Entry
undos_of v [] = []
undos_of v (q ∷ m) = undo_by v q.key (user_in q.key) ++ undos_of v m

-- whether every key is a TxnWrite key
abbrev pub is_user : Option (List ℕ) → Bool
is_user None = false
is_user (Some u) = true

unfoldable pub all_users : List Pair → Bool
all_users [] = true
all_users (q ∷ m) = pick (is_user (user_in q.key)) (all_users m) false
