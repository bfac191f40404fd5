-- What the two calls promise: the answer, and every byte that was lent. Assumes nothing.
use Rattle.std.specs.Prelude.{ℕ, ◌+◌, ◌-◌, ◌≡◌, Bool, false, List, [], ◌∷◌, ◌++◌, length, take, drop, replicate, leb, Result, Ok, Err, ⊤}
use Rattle.keycode.specs.Tests.{pick, if_done}
use Rattle.keycode.specs.Strings.{escape_body}
use Rattle.keycode.specs.declared.parts.Part.{Part}
use Rattle.codecs.specs.declared.fields.Kind.{Kind}
use Rattle.codecs.specs.declared.fields.Kind.TheVariants.{Boolean, Unsigned, Signed, Float, Binary, String}
use Rattle.rows.specs.declared.fields.Field.{Field}
use Rattle.rows.specs.declared.fields.Field.TheVariants.{Flag, U64, I64, F64, Bytes, Text}
use Rattle.rows.specs.declared.fields.Row.{Row}
use Rattle.codecs.specs.declared.fields.Denial.{Denial}
use Rattle.codecs.specs.declared.fields.Denial.TheVariants.{BadRequest, BadText}
use Rattle.codecs.specs.Denials.{denial_number, Got, got, bad}
use Rattle.codecs.specs.Utf8.{well_formed}
use Rattle.codecs.specs.Kinds.{Val, enc, Vals, SoundRow, enc_row, dec_row, wholly}

-- ---- the values of a row's fields, whose strings are parts of the lent slice s

-- the bytes at a part; where it reaches past the slice, those that are there
abbrev pub part_of : List ℕ → Part → List ℕ
part_of s p = take p.len (drop p.at s)

abbrev pub kind_of : Field → Kind
kind_of (Flag b) = Boolean
kind_of (U64 v) = Unsigned
kind_of (I64 v) = Signed
kind_of (F64 w) = Float
kind_of (Bytes p) = Binary
kind_of (Text p) = String

abbrev pub val_of : (s : List ℕ) (f : Field) → Val (kind_of f)
val_of s (Flag b) = b
val_of s (U64 v) = v
val_of s (I64 v) = v
val_of s (F64 w) = w
val_of s (Bytes p) = part_of s p
val_of s (Text p) = part_of s p

abbrev pub kinds_of : List Field → List Kind
kinds_of [] = []
kinds_of (f ∷ fs) = kind_of f ∷ kinds_of fs

abbrev pub vals_of : (s : List ℕ) (fs : List Field) → Vals (kinds_of fs)
vals_of s [] = tt
vals_of s (f ∷ fs) = (val_of s f, vals_of s fs)

-- the fields of a row
abbrev pub fields_of : Row → List Field
fields_of row = take row.len row.cells

-- ---- encoding

-- a field's bytes, and a row's
unfoldable pub field_bytes : List ℕ → Field → List ℕ
field_bytes s f = enc (kind_of f) (val_of s f)

unfoldable pub row_bytes : List ℕ → List Field → List ℕ
row_bytes s fs = enc_row (kinds_of fs) (vals_of s fs)

-- a part lies within the texts
unfoldable pub within : List ℕ → Part → Bool
within s p = leb (p.at + p.len) (length s)

-- what is at fault in a field: 13 where its part reaches past the texts, 15 where its string is not UTF-8
unfoldable pub bytes_check : List ℕ → Part → Result ⊤ Denial
bytes_check s p = pick (within s p) (Ok tt) (Err BadRequest)

unfoldable pub text_check : List ℕ → Part → Result ⊤ Denial
text_check s p = pick (within s p) (pick (well_formed (part_of s p)) (Ok tt) (Err BadText)) (Err BadRequest)

abbrev pub field_check : List ℕ → Field → Result ⊤ Denial
field_check s (Flag b) = (Ok tt)
field_check s (U64 v) = (Ok tt)
field_check s (I64 v) = (Ok tt)
field_check s (F64 w) = (Ok tt)
field_check s (Bytes p) = bytes_check s p
field_check s (Text p) = text_check s p

-- the first field at fault decides
abbrev pub first_fault : Result ⊤ Denial → Result ⊤ Denial → Result ⊤ Denial
first_fault (Ok tt) c = c
first_fault (Err d) c = Err d

unfoldable pub fields_check : List ℕ → List Field → Result ⊤ Denial
fields_check s [] = (Ok tt)
fields_check s (f ∷ fs) = first_fault (field_check s f) (fields_check s fs)

-- where no field is at fault, 13 where `n` bytes do not fit into a buffer of `room`
abbrev pub length_by : Result ⊤ Denial → ℕ → ℕ → Result ℕ Denial
length_by (Ok tt) n room = pick (leb n room) (Ok n) (Err BadRequest)
length_by (Err d) n room = Err d

-- 13 over eight fields; then the first field at fault; then 13 where the buffer is too short
unfoldable pub row_answer : List Field → List ℕ → ℕ → Result ℕ Denial
row_answer fs s room = pick (leb (length fs) 8) (length_by (fields_check s fs) (length (row_bytes s fs)) room) (Err BadRequest)

-- the number of what either call answers
abbrev pub row_number : {A : Type 0} → Result A Denial → ℕ
row_number (Ok a) = 0
row_number (Err d) = denial_number d

-- with number 0 the row's bytes stand at the front of the buffer d and its other bytes stay, and the row is one that decoding gives back:
-- its numbers have 64 bits, its strings are UTF-8; with every other number the buffer stays whole
pub record RowWrites (fs : List Field) (s d : List ℕ) (r : Result ℕ Denial) (out : List ℕ) : Type 0 where
  pub answer : r ≡ row_answer fs s (length d)
  pub buffer : out ≡ if_done (row_number r) (row_bytes s fs ++ drop (length (row_bytes s fs)) d) d
  pub sound : row_number r ≡ 0 → SoundRow (kinds_of fs) (vals_of s fs)

-- ---- decoding

-- the field of a value whose bytes start at index `at` of a key: its string is the part of the escaped bytes, the end not counted
abbrev pub placed : ℕ → (k : Kind) → Val k → Field
placed at Boolean v = Flag v
placed at Unsigned v = U64 v
placed at Signed v = I64 v
placed at Float v = F64 v
placed at Binary v = Bytes (record { at = at; len = length (escape_body v) })
placed at String v = Text (record { at = at; len = length (escape_body v) })

-- the fields of a row whose bytes start there
abbrev pub placed_row : ℕ → (ks : List Kind) → Vals ks → List Field
placed_row at [] v = []
placed_row at (k ∷ ks) v = placed at k v.0 ∷ placed_row (at + length (enc k v.0)) ks v.1

-- what stands in a cell that no field stands in
abbrev pub blank : Field
blank = Flag false

-- the fields, and blanks behind them up to eight
unfoldable pub row_of : (ks : List Kind) → Vals ks → Row
row_of ks v = record { cells = placed_row 0 ks v ++ replicate (8 - length ks) blank; len = length ks }

unfoldable pub read_as : (ks : List Kind) → Got (Vals ks) → Result Row Denial
read_as ks (got v r) = Ok (row_of ks v)
read_as ks (bad d) = Err d

-- 13 over eight kinds; then the first field at fault; then 12 for bytes left over
unfoldable pub read_answer : List Kind → List ℕ → Result Row Denial
read_answer ks key = pick (leb (length ks) 8) (read_as ks (wholly (dec_row ks key))) (Err BadRequest)
