-- The six keys of the store: their bytes, and what bytes are a key or why they are none. Assumes nothing.
use Rattle.keycode.specs.declared.strings.Fault.{Fault}
use Rattle.keycode.specs.declared.refusal.Refusal.{Refusal}
use Rattle.std.specs.Prelude.{ℕ, zero, suc, ◌+◌, ◌-◌, List, [], ◌∷◌, ◌++◌, length, take, drop, leb, Result, Ok, Err}
use Rattle.keycode.specs.Tests.{pick}
use Rattle.keycode.specs.Number.{be, num}
use Rattle.keycode.specs.Strings.{escape_body, escape, unescaped, scanned, fault}
use Rattle.keycode.specs.declared.refusal.Refusal.TheVariants.{BadStore}
use Rattle.keycode.specs.declared.strings.Reason.TheVariants.{TooFew, UnknownTag, LeftOver}
use Rattle.keycode.specs.declared.key.Key.{Key}
use Rattle.keycode.specs.declared.key.Key.TheVariants.{NextVersion, TxnActive, TxnActiveSnapshot, TxnWrite, Version, Unversioned}

-- a key with its fields
pub data Fields : Type 0 where
  next_version : Fields
  txn_active : ℕ → Fields
  txn_active_snapshot : ℕ → Fields
  txn_write : ℕ → List ℕ → Fields
  version : List ℕ → ℕ → Fields
  unversioned : List ℕ → Fields
  deriving Discrete as Fields-discrete

abbrev pub tag_of : Fields → ℕ
tag_of next_version = 0
tag_of (txn_active v) = 1
tag_of (txn_active_snapshot v) = 2
tag_of (txn_write v s) = 3
tag_of (version s v) = 4
tag_of (unversioned s) = 5

abbrev pub body_of : Fields → List ℕ
body_of next_version = []
body_of (txn_active v) = be 8 v
body_of (txn_active_snapshot v) = be 8 v
body_of (txn_write v s) = be 8 v ++ escape s
body_of (version s v) = escape s ++ be 8 v
body_of (unversioned s) = escape s

-- the bytes of a key
abbrev pub encode : Fields → List ℕ
encode k = tag_of k ∷ body_of k

-- the user key of a key, none where it has none
abbrev pub user_key : Fields → List ℕ
user_key next_version = []
user_key (txn_active v) = []
user_key (txn_active_snapshot v) = []
user_key (txn_write v s) = s
user_key (version s v) = s
user_key (unversioned s) = s

-- ---- decoding

-- a key of l bytes that is to have exactly n
unfoldable pub exactly : ℕ → ℕ → Key → Result Key Fault
exactly n l k = pick (leb n l) (pick (leb l n) (Ok k) (Err (fault LeftOver n))) (Err (fault TooFew l))

-- where the string that starts at index `at` of the key b ends
unfoldable pub string_at : ℕ → ℕ → List ℕ → Result ℕ Fault
string_at limit at b = pick (leb at (length b)) (scanned limit at (drop at b)) (Err (fault TooFew (length b)))

-- what follows where a string has ended
unfoldable pub on_ended : Result ℕ Fault → (ℕ → Result Key Fault) → Result Key Fault
on_ended (Ok i) f = f i
on_ended (Err w) f = Err w

-- the key that bytes with the tag t are
unfoldable pub key_of : ℕ → ℕ → List ℕ → Result Key Fault
key_of limit zero b = exactly 1 (length b) NextVersion
key_of limit (suc zero) b = exactly 9 (length b) (TxnActive (num (take 8 (drop 1 b))))
key_of limit (suc (suc zero)) b = exactly 9 (length b) (TxnActiveSnapshot (num (take 8 (drop 1 b))))
key_of limit (suc (suc (suc zero))) b =
    on_ended (string_at limit 9 b) (λ i. exactly (i + 2) (length b) (TxnWrite (num (take 8 (drop 1 b))) (record { at = 9; len = i - 9 })))
key_of limit (suc (suc (suc (suc zero)))) b =
    on_ended (string_at limit 1 b) (λ i. exactly (i + 10) (length b) (Version (record { at = 1; len = i - 1 }) (num (take 8 (drop (i + 2) b)))))
key_of limit (suc (suc (suc (suc (suc zero))))) b =
    on_ended (string_at limit 1 b) (λ i. exactly (i + 2) (length b) (Unversioned (record { at = 1; len = i - 1 })))
key_of limit (suc (suc (suc (suc (suc (suc t)))))) b = Err (fault UnknownTag 0)

-- the key that bytes are, its user key at most `limit` long, or the reason why they are none and the byte that decides
unfoldable pub decode_why : ℕ → List ℕ → Result Key Fault
decode_why limit [] = Err (fault TooFew 0)
decode_why limit (t ∷ r) = key_of limit t (t ∷ r)

-- what `decode` answers: the key, or 12 whatever the fault
abbrev pub forget : Result Key Fault → Result Key Refusal
forget (Ok k) = Ok k
forget (Err w) = Err BadStore

-- the fields of a decoded key of the bytes b, its string unescaped
abbrev pub fields_of : List ℕ → Key → Fields
fields_of b NextVersion = next_version
fields_of b (TxnActive v) = txn_active v
fields_of b (TxnActiveSnapshot v) = txn_active_snapshot v
fields_of b (TxnWrite v p) = txn_write v (unescaped (take p.len (drop p.at b)))
fields_of b (Version p v) = version (unescaped (take p.len (drop p.at b))) v
fields_of b (Unversioned p) = unversioned (unescaped (take p.len (drop p.at b)))

-- the decoded key that the encoding of a key gives
abbrev pub placed : Fields → Key
placed next_version = NextVersion
placed (txn_active v) = TxnActive v
placed (txn_active_snapshot v) = TxnActiveSnapshot v
placed (txn_write v s) = TxnWrite v (record { at = 9; len = length (escape_body s) })
placed (version s v) = Version (record { at = 1; len = length (escape_body s) }) v
placed (unversioned s) = Unversioned (record { at = 1; len = length (escape_body s) })
