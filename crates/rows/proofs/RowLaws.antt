-- The two calls undo each other, over their own promises, and their keys sort as rows do; two results that a promise admits are one.
-- Assumes nothing.
use Prim.Native.Nat.{ℕ, ◌-◌, ◌≤◌}
use mathlib.Core.Path.{◌≡◌, refl, sym, ap, subst, ◌∙◌}
use mathlib.Core.Bool.{Bool, true, false}
use mathlib.Core.List.{List, [], ◌∷◌, ◌++◌, append_assoc, append-nil}
use lib.ListN.{length, take, drop, replicate, length-append}
use lib.Seq.{take_at, drop_at}
use lib.Dec.{leb}
use borrow.Author.Tests.{le-leb, leb-true}
use Rattle.std.specs.Prelude.{Result, ⊤, Ok, Err, ℕ}
use Rattle.codecs.specs.declared.fields.Denial.{Denial}
use Rattle.keycode.specs.Tests.{pick, if_done}
use Rattle.keycode.specs.Order.{compare_bytes}
use Rattle.keycode.specs.Strings.{escape_body, escape, unescaped}
use Rattle.codecs.specs.declared.fields.Kind.{Kind}
use Rattle.codecs.specs.declared.fields.Kind.TheVariants.{Boolean, Unsigned, Signed, Float, Binary, String}
use Rattle.rows.specs.declared.fields.Field.{Field}
use Rattle.rows.specs.declared.fields.Row.{Row}
use Rattle.codecs.specs.declared.fields.Denial.TheVariants.{BadRequest}
use Rattle.codecs.specs.Denials.{Got, got, bad}
use Rattle.codecs.specs.Kinds.{Val, enc, Vals, SoundRow, enc_row, dec_row, cmp_row, wholly}
use Rattle.rows.specs.Promises.{kinds_of, vals_of, fields_check, row_bytes, length_by, row_answer, row_number, RowWrites, placed, placed_row, blank, row_of, read_as, read_answer}
use Rattle.rows.specs.Spelling.{Spells, flag, unsigned, signed, float, binary, text, SpellsRow, none, more}
use Rattle.keycode.proofs.Basics.{nope}
use Rattle.keycode.proofs.NumberLaws.{Bytes as AllBytes}
use Rattle.keycode.proofs.StringLaws.{unescaped_body}
use Rattle.codecs.proofs.KindLaws.{decode_encode, encode_decode, rows_sort}

-- ---- what was encoded is decoded

pub read_encoded : (kinds : List Kind) (v : Vals kinds) → length kinds ≤ 8 → SoundRow kinds v → read_answer kinds (enc_row kinds v) ≡ Ok (row_of kinds v)
unfolding read_answer read_as
read_encoded kinds v few h = rw (le-leb (length kinds) 8 few, decode_encode kinds v h)

-- what an encoding that was answered with a length says
done_says : (fs : List Field) (s : List ℕ) (room n : ℕ) → Ok n ≡ row_answer fs s room → n ≡ length (row_bytes s fs)
unfolding row_answer
done_says fs s room n = go (leb (length fs) 8) (fields_check s fs)
  where
    length-says : (m : ℕ) (t : Bool) → Ok n ≡ pick t (Ok m) (Err BadRequest) → n ≡ m
    length-says m true e = cc
    length-says m false e = nope (cc)

    go : (t : Bool) (c : Result ⊤ Denial) → Ok n ≡ pick t (length_by c (length (row_bytes s fs)) room) (Err BadRequest) → n ≡ length (row_bytes s fs)
    go true (Ok tt) e = length-says (length (row_bytes s fs)) (leb (length (row_bytes s fs)) room) e
    go true (Err d) e = nope (cc)
    go false c e = nope (cc)

-- a row that encode_row wrote is the row that decode_row answers, by its kinds
pub round_trip : (kinds : List Kind) (fs : List Field) (s d out : List ℕ) (n : ℕ) → length kinds ≤ 8 → kinds ≡ kinds_of fs → RowWrites fs s d (Ok n) out
    → read_answer kinds (take n out) ≡ Ok (row_of (kinds_of fs) (vals_of s fs))
unfolding read_answer
round_trip kinds fs s d out n few e w =
    let q = done_says fs s (length d) n w.answer in
    let t : take n out ≡ row_bytes s fs = ap (take n) w.buffer ∙ take_at (row_bytes s fs) (drop (length (row_bytes s fs)) d) n (sym q) in
    rw (le-leb (length kinds) 8 few, t) (by kinds e (w.sound refl))
  where
    by : (ks : List Kind) → ks ≡ kinds_of fs → SoundRow (kinds_of fs) (vals_of s fs) → read_as ks (wholly (dec_row ks (row_bytes s fs))) ≡ Ok (row_of (kinds_of fs) (vals_of s fs))
    by ks f g = unfold read_as row_bytes in rw (f, decode_encode (kinds_of fs) (vals_of s fs) g)

-- ---- the decoded row stands for the values

part_of : (p s t : List ℕ) → unescaped (take (length (escape_body s)) (drop (length p) (p ++ (escape s ++ t)))) ≡ s
unfolding escape
part_of p s t =
    rw (drop_at p (escape_body s ++ (0 ∷ 0 ∷ []) ++ t) (length p) refl, append_assoc, take_at (escape_body s) (0 ∷ 0 ∷ t) (length (escape_body s)) refl)
    (unescaped_body s).0

spells : (p t : List ℕ) (k : Kind) (v : Val k) → Spells (p ++ (enc k v ++ t)) k v (placed (length p) k v)
spells p t Boolean v = flag v
spells p t Unsigned v = unsigned v
spells p t Signed v = signed v
spells p t Float v = float v
spells p t Binary v = binary _ v (part_of p v t)
spells p t String v = text _ v (part_of p v t)

spells_row : (p t : List ℕ) (ks : List Kind) (v : Vals ks) (fs : List Field) → SpellsRow (p ++ (enc_row ks v ++ t)) ks v (placed_row (length p) ks v ++ fs)
spells_row p t [] v fs = none fs
spells_row p t (k ∷ ks) v fs =
    more k ks v.0 v.1 (placed (length p) k v.0) _
    (subst (λ (b : List ℕ). Spells (p ++ b) k v.0 (placed (length p) k v.0)) (sym (append_assoc (enc k v.0) (enc_row ks v.1) t)) (spells p (enc_row ks v.1 ++ t) k v.0))
    (rest (length-append p (enc k v.0)) (append_assoc p (enc k v.0) (enc_row ks v.1 ++ t)
    ∙ ap (λ (b : List ℕ). p ++ b) (sym (append_assoc (enc k v.0) (enc_row ks v.1) t))) (spells_row (p ++ enc k v.0) t ks v.1 fs))
  where
    rest : {m n : ℕ} {a b : List ℕ} → m ≡ n → a ≡ b → SpellsRow a ks v.1 (placed_row m ks v.1 ++ fs) → SpellsRow b ks v.1 (placed_row n ks v.1 ++ fs)
    rest {m} {n} {a} {b} e f q = rw (← e, ← f) q

-- the fields of a decoded row stand for its values
spelled_row : (ks : List Kind) (v : Vals ks) (key : List ℕ) → enc_row ks v ≡ key → SpellsRow key ks v (row_of ks v).cells
unfolding row_of
spelled_row ks v key f =
    subst (λ (b : List ℕ). SpellsRow b ks v (placed_row 0 ks v ++ replicate (8 - length ks) blank)) (append-nil (enc_row ks v) ∙ f)
    (spells_row [] [] ks v (replicate (8 - length ks) blank))

-- ---- what was decoded is encoded, and is what the decoded row stands for

pub record Decoded (kinds : List Kind) (key : List ℕ) (row : Row) : Type 0 where
  pub few : length kinds ≤ 8
  pub values : Vals kinds
  pub sound : SoundRow kinds values
  pub bytes : enc_row kinds values ≡ key
  pub is : row ≡ row_of kinds values
  pub spelled : SpellsRow key kinds values row.cells

pub decoded : (kinds : List Kind) (key : List ℕ) → AllBytes key → (row : Row) → Ok row ≡ read_answer kinds key → Decoded kinds key row
unfolding read_answer
decoded kinds key w row e = go (leb (length kinds) 8) refl (wholly (dec_row kinds key)) refl e
  where
    go : (t : Bool) → leb (length kinds) 8 ≡ t → (g : Got (Vals kinds)) → wholly (dec_row kinds key) ≡ g → Ok row ≡ pick t (read_as kinds g) (Err BadRequest) → Decoded kinds key row
    go false f g p q = nope (cc)
    go true f (bad d) p q = unfold read_as in nope (cc)
    go true f (got v s) p q =
        let b = encode_decode kinds key w v s p in
        let u : row ≡ row_of kinds v = unfold read_as in cc in
        record {
          few = leb-true (length kinds) 8 f;
          values = v;
          sound = b.1;
          bytes = b.0;
          is = u;
          spelled = subst (λ (x : Row). SpellsRow key kinds v x.cells) (sym u) (spelled_row kinds v key b.0);
        }

-- two keys that decode_row takes by the same kinds sort as the rows that they are
pub decoded_sort : {kinds : List Kind} {key key' : List ℕ} {r r' : Row} (x : Decoded kinds key r) (y : Decoded kinds key' r')
    → compare_bytes key key' ≡ cmp_row kinds x.values y.values
decoded_sort {kinds} {key} {key'} x y =
    ap (λ (b : List ℕ). compare_bytes b key') (sym x.bytes)
    ∙ ap (compare_bytes (enc_row kinds x.values)) (sym y.bytes)
    ∙ rows_sort kinds x.values y.values x.sound y.sound

-- ---- two results are one

pub encode_unique : {fs : List Field} {s d : List ℕ} {r r' : Result ℕ Denial} {out out' : List ℕ} → RowWrites fs s d r out → RowWrites fs s d r' out' → (r ≡ r') × (out ≡ out')
encode_unique {fs} {s} {d} w w' =
    let q = w.answer ∙ sym w'.answer in
    (q, w.buffer ∙ ap (λ (x : Result ℕ Denial). if_done (row_number x) (row_bytes s fs ++ drop (length (row_bytes s fs)) d) d) q ∙ sym w'.buffer)

pub decode_unique : (kinds : List Kind) (key : List ℕ) {r r' : Result Row Denial} → r ≡ read_answer kinds key → r' ≡ read_answer kinds key → r ≡ r'
decode_unique kinds key e f = e ∙ sym f
