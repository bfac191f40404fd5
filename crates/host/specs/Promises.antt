-- What each exported function promises: its answer in one number, and every byte that it was lent. proofs/Unique.antt shows that two
-- results which a promise admits are one. Assumes nothing.
use Rattle.bitcask.specs.declared.request.Used.{Used}
use Rattle.keycode.specs.declared.refusal.Refusal.{Refusal}
use Rattle.std.specs.Prelude.{ℕ, ◌/◌, ◌%◌, ◌≡◌, List, [], ◌∷◌, ◌++◌, length, drop, replicate, leb, eqb, Result, Ok, Err}
use Rattle.keycode.specs.Tests.{pick, if_done}
use Rattle.keycode.specs.Limits.{max_key}
use Rattle.keycode.specs.Number.{be}
use Rattle.keycode.specs.Refusals.{length_number}
use Rattle.keycode.specs.Strings.{unescaped, plain_length}
use Rattle.keycode.specs.Promises.{Writes, into_room}
use Rattle.keycode.specs.declared.refusal.Refusal.TheVariants.{BadRequest}
use Rattle.keycode.specs.key.Keys.{Fields, encode, user_key, decode_why, forget}
use Rattle.keycode.specs.encode.Promises.{encode_answer}
use Rattle.keycode.specs.declared.key.Key.{Key}
use Rattle.keycode.specs.declared.key.Key.TheVariants.{NextVersion, TxnActive, TxnActiveSnapshot, TxnWrite, Version, Unversioned}
use Rattle.bitcask.specs.recovery.Promises.{open_answer, open_table}
use Rattle.host.specs.Answers.{Tells}
use Rattle.host.specs.Table.{word_bytes, spread}
use Rattle.host.specs.declared.coding.Split.{Split}

-- the answer a, and bytes e for the lent buffer d: with number 0 they stand at its front and its other bytes stay; with every other
-- number it stays whole
pub record Gives (a : Result ℕ Refusal) (e d : List ℕ) (r : ℕ) (out : List ℕ) : Type 0 where
  pub answer : Tells a r
  pub buffer : out ≡ if_done (length_number a) (e ++ drop (length e) d) d

-- encoding a key: 4, then 13
abbrev pub Encodes : Fields → List ℕ → ℕ → List ℕ → Type 0
Encodes k d r out = Gives (encode_answer (user_key k) (length (encode k)) (length d)) (encode k) d r out

-- unescaping: 12, then 13
abbrev pub Unescapes : List ℕ → List ℕ → ℕ → List ℕ → Type 0
Unescapes s d r out = Gives (into_room (plain_length s) (length d)) (unescaped s) d r out

-- ---- decoding

-- how many bytes the fields take: a kind, a version, a place and a length
abbrev pub field_count : ℕ
field_count = 25

-- a field that a kind does not have is 0
abbrev pub split : Key → Split
split NextVersion = record { kind = 0; version = 0; at = 0; len = 0 }
split (TxnActive v) = record { kind = 1; version = v; at = 0; len = 0 }
split (TxnActiveSnapshot v) = record { kind = 2; version = v; at = 0; len = 0 }
split (TxnWrite v p) = record { kind = 3; version = v; at = p.at; len = p.len }
split (Version p v) = record { kind = 4; version = v; at = p.at; len = p.len }
split (Unversioned p) = record { kind = 5; version = 0; at = p.at; len = p.len }

abbrev pub laid_out : ℕ → ℕ → ℕ → ℕ → List ℕ
laid_out kind version at len = kind ∷ (be 8 version ++ (be 8 at ++ be 8 len))

abbrev pub split_bytes : Split → List ℕ
split_bytes s = laid_out s.kind s.version s.at s.len

abbrev pub decoded_length : Result Key Refusal → Result ℕ Refusal
decoded_length (Ok k) = Ok field_count
decoded_length (Err r) = Err r

abbrev pub decoded_bytes : Result Key Refusal → List ℕ
decoded_bytes (Ok k) = split_bytes (split k)
decoded_bytes (Err r) = []

-- decoding: 13 where the fields find no room, then 12
abbrev pub Decodes : List ℕ → List ℕ → ℕ → List ℕ → Type 0
Decodes b d r out =
    Gives (pick (leb field_count (length d)) (decoded_length (forget (decode_why max_key b))) (Err BadRequest)) (decoded_bytes (forget (decode_why max_key b))) d r out

-- the same before the answer is packed
abbrev pub DecodesInto : List ℕ → List ℕ → Result ℕ Refusal → List ℕ → Type 0
DecodesInto b d r out =
    Writes (pick (leb field_count (length d)) (decoded_length (forget (decode_why max_key b))) (Err BadRequest)) (decoded_bytes (forget (decode_why max_key b))) d r out

-- ---- opening

-- the used length that an opening left, as a length
abbrev pub used_length : Result Used Refusal → Result ℕ Refusal
used_length (Ok u) = Ok u.len
used_length (Err r) = Err r

-- of a table of n bytes: 13 where they are no whole words, else what the opening of as many words answers
unfoldable pub open_length : List ℕ → ℕ → ℕ → Result ℕ Refusal
open_length log used n = pick (eqb (n % word_bytes) 0) (used_length (open_answer log used (n / word_bytes))) (Err BadRequest)

-- and the bytes of the words that it leaves; every refusal leaves zeros
unfoldable pub open_bytes : List ℕ → ℕ → ℕ → List ℕ
open_bytes log used n = pick (eqb (n % word_bytes) 0) (spread (open_table log used (n / word_bytes))) (replicate n 0)

pub record Opens (log : List ℕ) (used : ℕ) (t : List ℕ) (r : ℕ) (t' : List ℕ) : Type 0 where
  pub answer : Tells (open_length log used (length t)) r
  pub table : t' ≡ open_bytes log used (length t)

-- the same before the answer is packed
pub record OpensBytes (log : List ℕ) (used : ℕ) (t : List ℕ) (r : Result ℕ Refusal) (t' : List ℕ) : Type 0 where
  pub answer : r ≡ open_length log used (length t)
  pub table : t' ≡ open_bytes log used (length t)
