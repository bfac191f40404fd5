-- What reading a field of each kind finds, and the loop over a row's kinds. Assumes nothing.
use Prim.Native.Nat.{ℕ, zero, suc, ◌+◌, ◌-◌, ◌≤◌, ◌<◌}
use mathlib.Core.Path.{◌≡◌, refl, sym, ap, ◌∙◌}
use mathlib.Core.Bool.{Bool, true, false}
use mathlib.Core.List.{List, [], ◌∷◌, ◌++◌}
use native.Mathlib.Omega.{arith}
use native.Mathlib.Numerals.{add-one}
use lib.ListN.{length, drop, get_or, set, replicate, length-append, length-drop, length-set, drop_of_length-le}
use lib.Seq.{sets, sets-eq, drop_at, drop-drop, drop-cons}
use lib.Dec.{eqb}
use borrow.Author.Tests.{le-leb, lt-leb}
use Rattle.std.specs.Prelude.{Result, Ok, Err, Option, Some, None}
use Rattle.keycode.specs.Tests.{pick}
use Rattle.keycode.specs.Strings.{escape_body, escape}
use Rattle.codecs.specs.declared.fields.Kind.{Kind}
use Rattle.codecs.specs.declared.fields.Kind.TheVariants.{Boolean, Binary, String}
use Rattle.rows.specs.declared.fields.Field.{Field}
use Rattle.rows.specs.declared.fields.Field.TheVariants.{Bytes, Text}
use Rattle.rows.specs.declared.fields.Row.{Row}
use Rattle.codecs.specs.declared.fields.Denial.{Denial}
use Rattle.codecs.specs.declared.fields.Denial.TheVariants.{BadKey, BadRequest, BadText}
use Rattle.codecs.specs.Denials.{Got, got, bad, before, then_got}
use Rattle.codecs.specs.Utf8.{well_formed}
use Rattle.codecs.specs.Kinds.{push, read_bytes, judged, read_text, Val, enc, dec, Vals, dec_row, wholly}
use Rattle.rows.specs.Promises.{placed, placed_row, blank, row_of, read_as, read_answer}
use Rattle.rows.specs.Inner.{taken_as, strung_as}
use Rattle.keycode.proofs.Basics.{nope}
use Rattle.keycode.proofs.NumberLaws.{Bytes as AllBytes, bytes_drop}
use Rattle.keycode.proofs.StringLaws.{escape-length}
use Rattle.codecs.proofs.KindLaws.{bytes_stood, kind_codec}

-- ---- a string's field, by where the string ends

-- a string that ends at index i
pub record Strings (at i : ℕ) (t : Bool) (b : List ℕ) : Type 0 where
  pub string : List ℕ
  pub rest : List ℕ
  pub is : read_bytes b ≡ got string rest
  pub ends : i ≡ at + length (escape_body string)
  pub fine : t ≡ well_formed string

strung_says : (at i : ℕ) (t : Bool) (b : List ℕ) → strung_as at (read_bytes b) ≡ Some (i, t) → Strings at i t b
strung_says at i t b = go (read_bytes b) refl
  where
    go : (g : Got (List ℕ)) → read_bytes b ≡ g → strung_as at g ≡ Some (i, t) → Strings at i t b
    go (got s r) e p =
        unfold strung_as in
        let q : ◌≡◌ {A = ℕ × Bool} (i, t) (at + length (escape_body s), well_formed s) = cc in
        record { string = s; rest = r; is = e; ends = ap (λ (x : ℕ × Bool). x.0) q; fine = ap (λ (x : ℕ × Bool). x.1) q }
    go (bad d) e p = unfold strung_as in nope (cc)

push-bad : (x : ℕ) (g : Got (List ℕ)) (d : Denial) → push x g ≡ bad d → g ≡ bad d
unfolding push
push-bad x (got s r) d e = nope (cc)
push-bad x (bad f) d e = e

-- a string has one fault only
bytes-fault : (b : List ℕ) (d : Denial) → read_bytes b ≡ bad d → d ≡ BadKey
unfolding read_bytes
bytes-fault [] d e = cc
bytes-fault (zero ∷ []) d e = cc
bytes-fault (zero ∷ zero ∷ r) d e = nope (cc)
bytes-fault (zero ∷ suc y ∷ r) d e = go (eqb (suc y) 255) e (λ f. bytes-fault r d f)
  where
    go : (t : Bool) → pick t (push 0 (read_bytes r)) (bad BadKey) ≡ bad d → (read_bytes r ≡ bad d → d ≡ BadKey) → d ≡ BadKey
    go true p ih = ih (push-bad 0 (read_bytes r) d p)
    go false p ih = cc
bytes-fault (suc x ∷ r) d e = bytes-fault r d (push-bad (suc x) (read_bytes r) d e)

strung_broken : (at : ℕ) (b : List ℕ) → strung_as at (read_bytes b) ≡ None → read_bytes b ≡ bad BadKey
strung_broken at b = go (read_bytes b) refl
  where
    go : (g : Got (List ℕ)) → read_bytes b ≡ g → strung_as at g ≡ None → read_bytes b ≡ bad BadKey
    go (got s r) e p = unfold strung_as in nope (cc)
    go (bad d) e p = e ∙ ap bad (bytes-fault b d e)

module _ (key : List ℕ) (at : ℕ) (h : at ≤ length key) (r : Option (ℕ × Bool)) (says : r ≡ strung_as at (read_bytes (drop at key))) where
  module _ (i : ℕ) (t : Bool) (e : r ≡ Some (i, t)) where
    string : Strings at i t (drop at key)
    string = strung_says at i t (drop at key) (sym says ∙ e)

    pub string_within : (at ≤ i) × (i + 2 ≤ length key)
    string_within =
        let q = string in
        let l : length (drop at key) ≡ length (escape q.string) + length q.rest = ap length (bytes_stood (drop at key) q.string q.rest
        q.is) ∙ length-append (escape q.string) q.rest in
        (omega (arith, q.ends), omega (arith, q.ends, escape-length q.string, length-drop at key))

    part_is : (s : List ℕ) → i ≡ at + length (escape_body s) → (i - at ≡ length (escape_body s)) × (i + 2 ≡ at + length (escape s))
    part_is s g = (omega arith, omega (arith, escape-length s))

    pub binary_read : Ok (Bytes (record { at = at; len = i - at }), i + 2) ≡ taken_as Binary at (read_bytes (drop at key))
    unfolding taken_as
    binary_read = let q = string in let p = part_is q.string q.ends in rw (q.is, p.0, p.1)

    pub text_read : t ≡ true → Ok (Text (record { at = at; len = i - at }), i + 2) ≡ taken_as String at (read_text (drop at key))
    unfolding taken_as read_text judged
    text_read g = let q = string in let p = part_is q.string q.ends in let f : well_formed q.string ≡ true = sym q.fine ∙ g in rw (q.is, p.0, p.1, f)

    pub text_wrong : t ≡ false → Err BadText ≡ taken_as String at (read_text (drop at key))
    unfolding taken_as read_text judged
    text_wrong g = let q = string in let f : well_formed q.string ≡ false = sym q.fine ∙ g in rw (q.is, f)

  pub binary_broken : r ≡ None → Err BadKey ≡ taken_as Binary at (read_bytes (drop at key))
  unfolding taken_as
  binary_broken e = rw (strung_broken at (drop at key) (sym says ∙ e))

  pub text_broken : r ≡ None → Err BadKey ≡ taken_as String at (read_text (drop at key))
  unfolding taken_as read_text judged
  text_broken e = rw (strung_broken at (drop at key) (sym says ∙ e))

-- by the kind that the code has matched
pub field_as : (k j : Kind) (at : ℕ) (b : List ℕ) (r : Result (Field × ℕ) Denial) → k ≡ j → r ≡ taken_as j at (dec j b) → r ≡ taken_as k at (dec k b)
field_as k j at b r e f = rw e f

-- ---- the loop over the kinds

-- the row, where the fields before index i stand in the cells already and the kinds ks are still to be read
unfoldable pub finished : ℕ → List Field → ℕ → ℕ → (ks : List Kind) → Got (Vals ks) → Result Row Denial
finished n fs i at ks (got v r) = Ok (record { cells = sets fs i (placed_row at ks v); len = n })
finished n fs i at ks (bad d) = Err d

unfoldable pub finish : ℕ → List Field → ℕ → ℕ → List Kind → List ℕ → Result Row Denial
finish n fs i at ks b = finished n fs i at ks (wholly (dec_row ks b))

finish_cons : (n : ℕ) (fs : List Field) (i at : ℕ) (k : Kind) (ks : List Kind) (b : List ℕ) (v : Val k) (r : List ℕ) → dec k b ≡ got v r
    → finish n fs i at (k ∷ ks) b ≡ finish n (set fs i (placed at k v)) (suc i) (at + length (enc k v)) ks r
unfolding finish finished then_got before wholly
finish_cons n fs i at k ks b v r e = rw e (go (dec_row ks r))
  where
    go : (g : Got (Vals ks)) → finished n fs i at (k ∷ ks) (wholly (before v g)) ≡ finished n (set fs i (placed at k v)) (suc i) (at + length (enc k v)) ks (wholly g)
    go (got w []) = refl
    go (got w (x ∷ s)) = refl
    go (bad d) = refl

finish_bad : (n : ℕ) (fs : List Field) (i at : ℕ) (k : Kind) (ks : List Kind) (b : List ℕ) (d : Denial) → dec k b ≡ bad d → finish n fs i at (k ∷ ks) b ≡ Err d
unfolding finish finished then_got wholly
finish_bad n fs i at k ks b d e = rw e

pub record Reading (kinds : List Kind) (key : List ℕ) (fs : List Field) (at i : ℕ) : Type 0 where
  pub upto : at ≤ length key
  pub full : length fs ≡ 8
  pub whole : read_as kinds (wholly (dec_row kinds key)) ≡ finish (length kinds) fs i at (drop i kinds) (drop at key)

-- what reading a field says
taken_says : (k : Kind) (at : ℕ) (g : Got (Val k)) (f : Field) (n : ℕ) → taken_as k at g ≡ Ok (f, n) → (v : Val k) × (r : List ℕ) × (g ≡ got v r) × (f ≡ placed at k v) × (n ≡ at + length (enc k v))
unfolding taken_as
taken_says k at (got v r) f n e =
    let q : ◌≡◌ {A = Field × ℕ} (f, n) (placed at k v, at + length (enc k v)) = cc in
    (v, r, refl, ap (λ (x : Field × ℕ). x.0) q, ap (λ (x : Field × ℕ). x.1) q)
taken_says k at (bad d) f n e = nope (cc)

taken_bad : (k : Kind) (at : ℕ) (g : Got (Val k)) (d : Denial) → taken_as k at g ≡ Err d → g ≡ bad d
unfolding taken_as
taken_bad k at (got v r) d e = nope (cc)
taken_bad k at (bad f) d e = ap bad (cc)

module _ {kinds : List Kind} {key : List ℕ} {fs : List Field} {at i : ℕ} (w : Reading kinds key fs at i) where
  module _ (h : i < length kinds) (k : Kind) (is : k ≡ get_or kinds i Boolean) (r : Result (Field × ℕ) Denial) (says : r ≡ taken_as k at (dec k (drop at key))) where
    onward_cons : drop i kinds ≡ k ∷ drop (i + 1) kinds
    onward_cons = rw (add-one i) (drop-cons kinds i Boolean h ∙ ap (λ (j : Kind). j ∷ drop (suc i) kinds) (sym is))

    pub reading_bad : length kinds ≤ 8 → (d : Denial) → r ≡ Err d → Err d ≡ read_answer kinds key
    unfolding read_answer
    reading_bad few d e =
        let b = taken_bad k at (dec k (drop at key)) d (sym says ∙ e) in
        sym (rw (le-leb (length kinds) 8 few) (w.whole ∙ ap (λ (ks : List Kind). finish (length kinds) fs i at ks (drop at key)) onward_cons
        ∙ finish_bad (length kinds) fs i at k (drop (i + 1) kinds) (drop at key) d b))

    pub reading_on : AllBytes key → (f : Field) (next : ℕ) → r ≡ Ok (f, next) → Reading kinds key (set fs i f) next (i + 1)
    reading_on bytes f next e =
        let q = taken_says k at (dec k (drop at key)) f next (sym says ∙ e) in
        let p = (kind_codec k).stood (drop at key) (bytes_drop at key bytes) q.0 q.1 q.2 in
        let l : length (drop at key) ≡ length (enc k q.0) + length q.1 = ap length p.0 ∙ length-append (enc k q.0) q.1 in
        let d : drop next key ≡ q.1 = ap (λ (m : ℕ). drop m key) q.4 ∙ sym (drop-drop (length (enc k q.0)) at key)
        ∙ ap (drop (length (enc k q.0))) p.0 ∙ drop_at (enc k q.0) q.1 (length (enc k q.0)) refl in
        record {
          upto = omega (arith, q.4, w.upto, length-drop at key);
          full = length-set fs i f ∙ w.full;
          whole =
              w.whole
              ∙ ap (λ (ks : List Kind). finish (length kinds) fs i at ks (drop at key)) onward_cons
              ∙ finish_cons (length kinds) fs i at k (drop (i + 1) kinds) (drop at key) q.0 q.1 q.2
              ∙ moved (sym (add-one i)) (sym q.3) (sym q.4) (sym d);
        }
      where
        moved : {a b : ℕ} {x y : Field} {m n : ℕ} {u v : List ℕ} → a ≡ b → x ≡ y → m ≡ n → u ≡ v
            → finish (length kinds) (set fs i x) a m (drop (i + 1) kinds) u ≡ finish (length kinds) (set fs i y) b n (drop (i + 1) kinds) v
        moved {a} {b} {x} {y} {m} {n} {u} {v} α β γ δ = rw (α, β, γ, δ)

  module _ (few : length kinds ≤ 8) (h : length kinds ≤ i) where
    pub reading_over : at < length key → Err BadKey ≡ read_answer kinds key
    unfolding read_answer
    reading_over g = sym (rw (le-leb (length kinds) 8 few) (w.whole
        ∙ ap (λ (ks : List Kind). finish (length kinds) fs i at ks (drop at key)) (drop_of_length-le kinds h) ∙ over (drop at key) (omega (arith, length-drop at key))))
      where
        over : (b : List ℕ) → 0 < length b → finish (length kinds) fs i at [] b ≡ Err BadKey
        over [] l = absurd (omega arith)
        over (x ∷ b) l = unfold finish finished wholly in refl

    pub reading_done : length key ≤ at → Ok (record { cells = fs; len = length kinds }) ≡ read_answer kinds key
    unfolding read_answer finish finished wholly
    reading_done g = sym (rw (le-leb (length kinds) 8 few) (w.whole
        ∙ ap (λ (ks : List Kind). finish (length kinds) fs i at ks (drop at key)) (drop_of_length-le kinds h)
        ∙ ap (λ (b : List ℕ). finish (length kinds) fs i at [] b) (drop_of_length-le key g)))

-- ---- the loop's start

placed-length : (at : ℕ) (ks : List Kind) (v : Vals ks) → length (placed_row at ks v) ≡ length ks
placed-length at [] v = refl
placed-length at (k ∷ ks) v = ap suc (placed-length (at + length (enc k v.0)) ks v.1)

drop_replicate : {A : Type 0} (n m : ℕ) (a : A) → drop m (replicate n a) ≡ replicate (n - m) a
drop_replicate n zero a = let e : n ≡ n - 0 = omega arith in ap (λ (k : ℕ). replicate k a) e
drop_replicate zero (suc m) a = let e : 0 ≡ 0 - suc m = omega arith in ap (λ (k : ℕ). replicate k a) e
drop_replicate (suc n) (suc m) a = let e : n - m ≡ suc n - suc m = omega arith in drop_replicate n m a ∙ ap (λ (k : ℕ). replicate k a) e

finish_start : (ks : List Kind) → length ks ≤ 8 → (g : Got (Vals ks)) → read_as ks g ≡ finished (length ks) (replicate 8 blank) 0 0 ks g
unfolding read_as finished row_of
finish_start ks h (bad d) = refl
finish_start ks h (got v r) =
    let l = placed-length 0 ks v in
    let s : sets (replicate 8 blank) 0 (placed_row 0 ks v) ≡ placed_row 0 ks v ++ drop (0 + length (placed_row 0 ks v)) (replicate 8 blank) =
    sets-eq (placed_row 0 ks v) (replicate 8 blank) 0 (omega arith) in
    let z : 0 + length (placed_row 0 ks v) ≡ length ks = omega arith in
    rw (s, z, drop_replicate 8 (length ks) blank)

pub reading_start : (kinds : List Kind) (key : List ℕ) → length kinds ≤ 8 → Reading kinds key (replicate 8 blank) 0 0
unfolding finish
reading_start kinds key few = record { upto = omega arith; full = refl; whole = finish_start kinds few (wholly (dec_row kinds key)) }

pub reading_many : (kinds : List Kind) (key : List ℕ) → 8 < length kinds → Err BadRequest ≡ read_answer kinds key
unfolding read_answer
reading_many kinds key h = sym (rw (lt-leb (length kinds) 8 h))
