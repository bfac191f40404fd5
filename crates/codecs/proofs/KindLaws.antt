-- The six kinds are codecs, and so is a row of any kinds: what decoding and encoding undo, and the order, for every length. Assumes
-- nothing.
use Prim.Native.Nat.{ℕ, zero, suc, ◌^◌, ◌≤◌, ◌<◌}
use mathlib.Core.Path.{◌≡◌, refl, sym, ap, ◌∙◌}
use mathlib.Core.Bool.{Bool, true, false}
use mathlib.Core.List.{List, [], ◌∷◌, ◌++◌, append_assoc, append-nil}
use native.Mathlib.Omega.{arith}
use lib.ListN.{length, take, drop, length-append, take-append-drop}
use lib.Seq.{take_at, drop_at, length-take-le}
use lib.Dec.{eqb, leb}
use borrow.Author.Tests.{le-leb, leb-true, eqb-true}
use Rattle.keycode.specs.Tests.{pick}
use Rattle.keycode.specs.Number.{be, num}
use Rattle.keycode.specs.Strings.{escape_byte, escape_body, escape}
use Rattle.keycode.specs.Order.{compare_nat, compare_bytes, and_then}
use Rattle.codecs.specs.declared.fields.Kind.{Kind}
use Rattle.codecs.specs.declared.fields.Kind.TheVariants.{Boolean, Unsigned, Signed, Float, Binary, String}
use Rattle.codecs.specs.declared.fields.Denial.TheVariants.{BadKey, BadText}
use Rattle.codecs.specs.Denials.{Got, got, bad}
use Rattle.codecs.specs.Utf8.{well_formed}
use Rattle.codecs.specs.Kinds.{flag_bytes, read_flag, compare_flag, read_eight, push, read_bytes, judged, read_text, Sound, enc, dec, cmp, Vals, SoundRow, enc_row, dec_row, cmp_row, wholly}
use Rattle.keycode.proofs.Basics.{nope}
use Rattle.keycode.proofs.OrderLaws.{nat_less, nat_greater, nat_equal}
use Rattle.keycode.proofs.NumberLaws.{Bytes, bytes_take, length-be, num-be, be-num, num-bound}
use Rattle.keycode.proofs.SortLaws.{number_sorts, string_sorts, alone}
use Rattle.codecs.proofs.CodecLaws.{Codec, nothing, both, through, TotalOrder, codec_total}
use Rattle.codecs.proofs.SignLaws.{signed_through}
use Rattle.codecs.proofs.FloatLaws.{float_through}

-- ---- boolean

flag_stood : (b : List ℕ) (v : Bool) (rest : List ℕ) → read_flag b ≡ got v rest → b ≡ flag_bytes v ++ rest
unfolding read_flag flag_bytes
flag_stood [] v rest e = nope (cc)
flag_stood (zero ∷ r) true rest e = let q : false ≡ true = cc in nope (cc)
flag_stood (zero ∷ r) false rest e = let q : r ≡ rest = cc in ap (λ (t : List ℕ). 0 ∷ t) q
flag_stood (suc zero ∷ r) true rest e = let q : r ≡ rest = cc in ap (λ (t : List ℕ). 1 ∷ t) q
flag_stood (suc zero ∷ r) false rest e = let q : true ≡ false = cc in nope (cc)
flag_stood (suc (suc x) ∷ r) v rest e = nope (cc)

flag-reads : (v : Bool) (rest : List ℕ) → read_flag (flag_bytes v ++ rest) ≡ got v rest
unfolding read_flag flag_bytes
flag-reads false rest = refl
flag-reads true rest = refl

flag_sorts : (v w : Bool) (s t : List ℕ) → compare_bytes (flag_bytes v ++ s) (flag_bytes w ++ t) ≡ and_then (compare_flag v w) (compare_bytes s t)
unfolding flag_bytes compare_bytes compare_flag
flag_sorts false false s t = rw (nat_equal 0 0 refl)
flag_sorts false true s t = rw (nat_less 0 1 (omega arith))
flag_sorts true false s t = rw (nat_greater 1 0 (omega arith))
flag_sorts true true s t = rw (nat_equal 1 1 refl)

pub flag_codec : Codec (λ (v : Bool). Unit {0}) flag_bytes read_flag compare_flag
flag_codec = record { reads = λ v h rest. flag-reads v rest; stood = λ b w v rest e. (flag_stood b v rest e, tt); sorts = record { sorted = λ v w h g s t. flag_sorts v w s t } }

-- ---- eight bytes

eight_reads : (v : ℕ) → v < 256 ^ 8 → (rest : List ℕ) → read_eight (be 8 v ++ rest) ≡ got v rest
unfolding read_eight
eight_reads v h rest =
    let l : 8 ≤ length (be 8 v ++ rest) = simp length-append (omega (arith, length-be 8 v)) in
    rw (le-leb 8 (length (be 8 v ++ rest)) l, take_at (be 8 v) rest 8 (length-be 8 v), drop_at (be 8 v) rest 8 (length-be 8 v), num-be 8 v h)

eight_stood : (b : List ℕ) → Bytes b → (v : ℕ) (rest : List ℕ) → read_eight b ≡ got v rest → (b ≡ be 8 v ++ rest) × (v < 256 ^ 8)
unfolding read_eight
eight_stood b w v rest = go (leb 8 (length b)) refl
  where
    go : (t : Bool) → leb 8 (length b) ≡ t → pick t (got (num (take 8 b)) (drop 8 b)) (bad BadKey) ≡ got v rest → (b ≡ be 8 v ++ rest) × (v < 256 ^ 8)
    go false f e = nope (cc)
    go true f e =
        let n : num (take 8 b) ≡ v = cc in
        let r : drop 8 b ≡ rest = cc in
        let l : length (take 8 b) ≡ 8 = length-take-le 8 b (leb-true 8 (length b) f) in
        let x : be 8 (num (take 8 b)) ≡ take 8 b = ap (λ (k : ℕ). be k (num (take 8 b))) (sym l) ∙ be-num (take 8 b) (bytes_take 8 b w) in
        let y : num (take 8 b) < 256 ^ length (take 8 b) = num-bound (take 8 b) (bytes_take 8 b w) in
        (sym (take-append-drop 8 b) ∙ ap (λ (t : List ℕ). t ++ drop 8 b) (sym x ∙ ap (be 8) n) ∙ ap (λ (t : List ℕ). be 8 v ++ t) r, rw (l, n) at y)

pub eight_codec : Codec (λ v. v < 256 ^ 8) (be 8) read_eight compare_nat
eight_codec = record { reads = eight_reads; stood = eight_stood; sorts = number_sorts 8 }

-- ---- byte strings

pub read_byte : (b : ℕ) (t : List ℕ) → read_bytes (escape_byte b ++ t) ≡ push b (read_bytes t)
unfolding read_bytes escape_byte
read_byte zero t = refl
read_byte (suc b) t = refl

pub bytes_read : (s rest : List ℕ) → read_bytes (escape s ++ rest) ≡ got s rest
unfolding escape escape_body read_bytes push
bytes_read [] rest = refl
bytes_read (x ∷ s) rest = rw (
  append_assoc (escape_byte x) (escape_body s) (0 ∷ 0 ∷ []),
  append_assoc (escape_byte x) (escape_body s ++ (0 ∷ 0 ∷ [])) rest,
  read_byte x (escape_body s ++ (0 ∷ 0 ∷ []) ++ rest),
  bytes_read s rest,
)

push-got : (x : ℕ) (g : Got (List ℕ)) (s r : List ℕ) → push x g ≡ got s r → (t : List ℕ) × (g ≡ got t r) × (s ≡ x ∷ t)
unfolding push
push-got x (got t q) s r e = let f : q ≡ r = cc in (t, ap (got t) f, cc)
push-got x (bad d) s r e = nope (cc)

escape_cons : (x : ℕ) (s t rest : List ℕ) → s ≡ x ∷ t → escape s ++ rest ≡ escape_byte x ++ (escape t ++ rest)
unfolding escape escape_body
escape_cons x s t rest e = rw (e, append_assoc (escape_byte x) (escape_body t) (0 ∷ 0 ∷ []), append_assoc (escape_byte x) (escape_body t ++ (0 ∷ 0 ∷ [])) rest)

bytes_pushed : (x : ℕ) (r s rest : List ℕ) → ((t : List ℕ) → read_bytes r ≡ got t rest → r ≡ escape t ++ rest) → push x (read_bytes r) ≡ got s rest → escape_byte x ++ r ≡ escape s ++ rest
bytes_pushed x r s rest ih e =
    let q = push-got x (read_bytes r) s rest e in
    ap (λ (t : List ℕ). escape_byte x ++ t) (ih q.0 q.1) ∙ sym (escape_cons x s q.0 rest q.2)

closed_stood : (r s rest : List ℕ) → s ≡ [] → r ≡ rest → 0 ∷ 0 ∷ r ≡ escape s ++ rest
unfolding escape escape_body
closed_stood r s rest e f = rw (e, f)

pub bytes_stood : (b s rest : List ℕ) → read_bytes b ≡ got s rest → b ≡ escape s ++ rest
unfolding read_bytes escape_byte
bytes_stood [] s rest e = nope (cc)
bytes_stood (zero ∷ []) s rest e = nope (cc)
bytes_stood (zero ∷ zero ∷ r) s rest e = closed_stood r s rest (cc) (cc)
bytes_stood (zero ∷ suc y ∷ r) s rest e = go (eqb (suc y) 255) refl e (λ t f. bytes_stood r t rest f)
  where
    go : (t : Bool) → eqb (suc y) 255 ≡ t → pick t (push 0 (read_bytes r)) (bad BadKey) ≡ got s rest → ((t : List ℕ) → read_bytes r ≡ got t rest
        → r ≡ escape t ++ rest) → 0 ∷ suc y ∷ r ≡ escape s ++ rest
    go true f p ih = rw (eqb-true (suc y) 255 f) (bytes_pushed 0 r s rest ih p)
    go false f p ih = nope (cc)
bytes_stood (suc x ∷ r) s rest e = bytes_pushed (suc x) r s rest (λ t f. bytes_stood r t rest f) e

pub bytes_codec : Codec (λ (s : List ℕ). Unit {0}) escape read_bytes compare_bytes
bytes_codec = record { reads = λ s h rest. bytes_read s rest; stood = λ b w s rest e. (bytes_stood b s rest e, tt); sorts = string_sorts }

-- ---- strings

text_read : (s : List ℕ) → well_formed s ≡ true → (rest : List ℕ) → read_text (escape s ++ rest) ≡ got s rest
unfolding read_text judged
text_read s h rest = rw (bytes_read s rest, h)

judged-got : (g : Got (List ℕ)) (s rest : List ℕ) → judged g ≡ got s rest → (g ≡ got s rest) × (well_formed s ≡ true)
unfolding judged
judged-got (got t r) s rest e = go (well_formed t) refl e
  where
    go : (u : Bool) → well_formed t ≡ u → pick u (got t r) (bad BadText) ≡ got s rest → (got t r ≡ got s rest) × (well_formed s ≡ true)
    go true f p = let q : t ≡ s = cc in (p, ap well_formed (sym q) ∙ f)
    go false f p = nope (cc)
judged-got (bad d) s rest e = nope (cc)

text_stood : (b s rest : List ℕ) → read_text b ≡ got s rest → (b ≡ escape s ++ rest) × (well_formed s ≡ true)
unfolding read_text
text_stood b s rest e = let q = judged-got (read_bytes b) s rest e in (bytes_stood b s rest q.0, q.1)

pub text_codec : Codec (λ (s : List ℕ). well_formed s ≡ true) escape read_text compare_bytes
text_codec = record { reads = text_read; stood = λ b w s rest e. text_stood b s rest e; sorts = record { sorted = λ a b h g s t. string_sorts.sorted a b tt tt s t } }

-- ---- by the kind, and a row of kinds

pub kind_codec : (k : Kind) → Codec (Sound k) (enc k) (dec k) (cmp k)
kind_codec Boolean = flag_codec
kind_codec Unsigned = eight_codec
kind_codec Signed = through eight_codec signed_through
kind_codec Float = through eight_codec float_through
kind_codec Binary = bytes_codec
kind_codec String = text_codec

pub row_codec : (ks : List Kind) → Codec (SoundRow ks) (enc_row ks) (dec_row ks) (cmp_row ks)
row_codec [] = nothing
row_codec (k ∷ ks) = both (kind_codec k) (row_codec ks)

-- a row that was encoded is decoded
pub decode_encode : (ks : List Kind) (v : Vals ks) → SoundRow ks v → wholly (dec_row ks (enc_row ks v)) ≡ got v []
unfolding wholly
decode_encode ks v h = rw (rw (append-nil (enc_row ks v)) at ((row_codec ks).reads v h []))

wholly-got : {A : Type 0} (g : Got A) (v : A) (r : List ℕ) → wholly g ≡ got v r → g ≡ got v []
unfolding wholly
wholly-got (got a []) v r e = let q : a ≡ v = cc in ap (λ (x : _). got x []) q
wholly-got (got a (x ∷ s)) v r e = nope (cc)
wholly-got (bad d) v r e = nope (cc)

-- a row that was decoded is encoded
pub encode_decode : (ks : List Kind) (b : List ℕ) → Bytes b → (v : Vals ks) (r : List ℕ) → wholly (dec_row ks b) ≡ got v r → (enc_row ks v ≡ b) × SoundRow ks v
encode_decode ks b w v r e =
    let q = (row_codec ks).stood b w v [] (wholly-got (dec_row ks b) v r e) in
    (sym (q.0 ∙ append-nil (enc_row ks v)), q.1)

-- encoded rows sort as the rows do, field by field
pub rows_sort : (ks : List Kind) (v w : Vals ks) → SoundRow ks v → SoundRow ks w → compare_bytes (enc_row ks v) (enc_row ks w) ≡ cmp_row ks v w
rows_sort ks v w h g = alone (row_codec ks).sorts v w h g

-- the order of each kind is total, and so is that of rows
pub kind_total : (k : Kind) → TotalOrder (Sound k) (cmp k)
kind_total k = codec_total (kind_codec k)

pub row_total : (ks : List Kind) → TotalOrder (SoundRow ks) (cmp_row ks)
row_total ks = codec_total (row_codec ks)
