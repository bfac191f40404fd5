-- The values of each kind of field, their bytes, what bytes they are read from, and their order; and the same for a row, over the list
-- of its kinds. Assumes nothing.
use Rattle.std.specs.declared.cmp.Ordering.{Ordering}
use Rattle.std.specs.declared.cmp.Ordering.TheVariants.{Less, Equal, Greater}
use Rattle.std.specs.Prelude.{ℕ, zero, suc, ◌^◌, ◌<◌, ◌≡◌, Bool, true, false, List, [], ◌∷◌, ◌++◌, length, take, drop, eqb, leb, ℤ}
use Rattle.keycode.specs.Tests.{pick}
use Rattle.keycode.specs.Number.{be, num}
use Rattle.keycode.specs.Strings.{escape}
use Rattle.keycode.specs.Order.{compare_nat, compare_bytes, and_then}
use Rattle.codecs.specs.declared.fields.Kind.{Kind}
use Rattle.codecs.specs.declared.fields.Kind.TheVariants.{Boolean, Unsigned, Signed, Float, Binary, String}
use Rattle.codecs.specs.declared.fields.Denial.TheVariants.{BadKey, BadFlag, BadText}
use Rattle.codecs.specs.Denials.{Got, got, bad, map_got, then_got}
use Rattle.codecs.specs.Signs.{Small, compare_int, biased, unbiased, flipped, unflipped}
use Rattle.codecs.specs.Total.{compare_float}
use Rattle.codecs.specs.Utf8.{well_formed}

-- ---- the readers of one kind

unfoldable pub flag_bytes : Bool → List ℕ
flag_bytes false = 0 ∷ []
flag_bytes true = 1 ∷ []

unfoldable pub read_flag : List ℕ → Got Bool
read_flag [] = bad BadKey
read_flag (zero ∷ r) = got false r
read_flag (suc zero ∷ r) = got true r
read_flag (suc (suc x) ∷ r) = bad BadFlag

unfoldable pub compare_flag : Bool → Bool → Ordering
compare_flag false false = Equal
compare_flag false true = Less
compare_flag true false = Greater
compare_flag true true = Equal

-- eight bytes
unfoldable pub read_eight : List ℕ → Got ℕ
read_eight b = pick (leb 8 (length b)) (got (num (take 8 b)) (drop 8 b)) (bad BadKey)

-- a byte before a string that was read
unfoldable pub push : ℕ → Got (List ℕ) → Got (List ℕ)
push x (got s r) = got (x ∷ s) r
push x (bad d) = bad d

-- up to 00 00, with 00 ff for 00; any other byte after 00, or no end, is a fault
unfoldable pub read_bytes : List ℕ → Got (List ℕ)
unfolding push
read_bytes [] = bad BadKey
read_bytes (zero ∷ []) = bad BadKey
read_bytes (zero ∷ zero ∷ r) = got [] r
read_bytes (zero ∷ suc y ∷ r) = pick (eqb (suc y) 255) (push 0 (read_bytes r)) (bad BadKey)
read_bytes (suc x ∷ r) = push (suc x) (read_bytes r)

-- the string, where it is UTF-8
unfoldable pub judged : Got (List ℕ) → Got (List ℕ)
judged (got s r) = pick (well_formed s) (got s r) (bad BadText)
judged (bad d) = bad d

unfoldable pub read_text : List ℕ → Got (List ℕ)
read_text b = judged (read_bytes b)

-- ---- by the kind

abbrev pub Val : Kind → Type 0
Val Boolean = Bool
Val Unsigned = ℕ
Val Signed = ℤ
Val Float = ℕ
Val Binary = List ℕ
Val String = List ℕ

-- a value that the kind has: numbers within 64 bits, strings of UTF-8
abbrev pub Sound : (k : Kind) → Val k → Type 0
Sound Boolean v = Unit {0}
Sound Unsigned v = v < 256 ^ 8
Sound Signed v = Small v
Sound Float v = v < 256 ^ 8
Sound Binary v = Unit {0}
Sound String v = well_formed v ≡ true

abbrev pub enc : (k : Kind) → Val k → List ℕ
enc Boolean v = flag_bytes v
enc Unsigned v = be 8 v
enc Signed v = be 8 (biased v)
enc Float v = be 8 (flipped v)
enc Binary v = escape v
enc String v = escape v

abbrev pub dec : (k : Kind) → List ℕ → Got (Val k)
dec Boolean b = read_flag b
dec Unsigned b = read_eight b
dec Signed b = map_got unbiased (read_eight b)
dec Float b = map_got unflipped (read_eight b)
dec Binary b = read_bytes b
dec String b = read_text b

abbrev pub cmp : (k : Kind) → Val k → Val k → Ordering
cmp Boolean v w = compare_flag v w
cmp Unsigned v w = compare_nat v w
cmp Signed v w = compare_int v w
cmp Float v w = compare_float v w
cmp Binary v w = compare_bytes v w
cmp String v w = compare_bytes v w

-- ---- a row, by the list of its kinds

abbrev pub Vals : List Kind → Type 0
Vals [] = Unit {0}
Vals (k ∷ ks) = Val k × Vals ks

abbrev pub SoundRow : (ks : List Kind) → Vals ks → Type 0
SoundRow [] v = Unit {0}
SoundRow (k ∷ ks) v = Sound k v.0 × SoundRow ks v.1

-- the fields' bytes one after the other
abbrev pub enc_row : (ks : List Kind) → Vals ks → List ℕ
enc_row [] v = []
enc_row (k ∷ ks) v = enc k v.0 ++ enc_row ks v.1

-- the fields one after the other; the first fault decides
abbrev pub dec_row : (ks : List Kind) → List ℕ → Got (Vals ks)
dec_row [] b = got tt b
dec_row (k ∷ ks) b = then_got (dec k b) (λ r. dec_row ks r)

-- field by field
abbrev pub cmp_row : (ks : List Kind) → Vals ks → Vals ks → Ordering
cmp_row [] v w = Equal
cmp_row (k ∷ ks) v w = and_then (cmp k v.0 w.0) (cmp_row ks v.1 w.1)

-- a row and nothing behind it
unfoldable pub wholly : {A : Type 0} → Got A → Got A
wholly (got a []) = got a []
wholly (got a (x ∷ r)) = bad BadKey
wholly (bad d) = bad d
