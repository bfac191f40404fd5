-- What the code knows that looks at a row's fields before a byte is written: which is the first at fault.
-- Assumes nothing.
use Prim.Native.Nat.{ℕ, ◌+◌, ◌-◌, ◌≤◌, ◌<◌}
use mathlib.Core.Path.{◌≡◌, refl, sym, ◌∙◌}
use mathlib.Core.Bool.{Bool, true, false}
use mathlib.Core.List.{List, [], ◌∷◌}
use native.Mathlib.Decide.{dec_le}
use native.Mathlib.Omega.{arith}
use native.Mathlib.Numerals.{add-one}
use lib.Dec.{leb}
use lib.ListN.{length, drop, get_or, drop_of_length-le}
use lib.Seq.{drop-cons}
use borrow.Author.Tests.{le-leb, lt-leb}
use Rattle.std.specs.Prelude.{Result, ⊤, Ok, Err, Option, Some, None}
use Rattle.std.specs.Option.{ok_or}
use Rattle.keycode.specs.Tests.{pick}
use Rattle.keycode.specs.declared.parts.Part.{Part}
use Rattle.rows.specs.declared.fields.Field.{Field}
use Rattle.rows.specs.declared.fields.Field.TheVariants.{Flag, U64, I64, F64, Bytes, Text}
use Rattle.codecs.specs.declared.fields.Denial.{Denial}
use Rattle.codecs.specs.declared.fields.Denial.TheVariants.{BadRequest, BadText}
use Rattle.codecs.specs.Utf8.{well_formed}
use Rattle.codecs.specs.Kinds.{Sound, SoundRow}
use Rattle.rows.specs.Promises.{part_of, kind_of, val_of, kinds_of, vals_of, within, bytes_check, text_check, field_check, first_fault, fields_check, blank}
use Rattle.rows.specs.Inner.{InWord, InWords}
use Rattle.keycode.proofs.Basics.{nope}

-- where a call's none is a refusal
pub some_from : {A : Type 0} (r : Option A) (d : Denial) (q : Result A Denial) (a : A) → q ≡ ok_or r d → q ≡ Ok a → r ≡ Some a
some_from {A = A} None d q a e h = let z : ◌≡◌ {A = Result A Denial} (Err d) (Ok a) = sym e ∙ h in nope (cc)
some_from {A = A} (Some b) d q a e h = let z : ◌≡◌ {A = Result A Denial} (Ok b) (Ok a) = sym e ∙ h in cc

pub none_from : {A : Type 0} (r : Option A) (d : Denial) (q : Result A Denial) (x : Denial) → q ≡ ok_or r d → q ≡ Err x → (r ≡ None) × (x ≡ d)
none_from {A = A} None d q x e h = let z : ◌≡◌ {A = Result A Denial} (Err d) (Err x) = sym e ∙ h in (refl, cc)
none_from {A = A} (Some b) d q x e h = let z : ◌≡◌ {A = Result A Denial} (Ok b) (Err x) = sym e ∙ h in nope (cc)

-- ---- a field's part

module _ (s : List ℕ) (p : Part) where
  -- compared by differences, so that no sum can wrap
  pub start_past : length s < p.at → leb p.at (length s) ≡ within s p
  unfolding within
  start_past h = lt-leb p.at (length s) h ∙ sym (lt-leb (p.at + p.len) (length s) (omega arith))

  pub lies_within : p.at ≤ length s → leb p.len (length s - p.at) ≡ within s p
  unfolding within
  lies_within h = go (dec_le p.len (length s - p.at))
    where
      go : Dec (p.len ≤ length s - p.at) → leb p.len (length s - p.at) ≡ leb (p.at + p.len) (length s)
      go (yes l) = le-leb p.len (length s - p.at) l ∙ sym (le-leb (p.at + p.len) (length s) (omega arith))
      go (no n) = lt-leb p.len (length s - p.at) (omega (arith, n)) ∙ sym (lt-leb (p.at + p.len) (length s) (omega (arith, n)))

  module _ (t : Bool) (e : t ≡ within s p) where
    pub bytes_past : t ≡ false → Err BadRequest ≡ bytes_check s p
    unfolding bytes_check
    bytes_past h = rw (← e, h)

    pub bytes_fine : t ≡ true → Ok tt ≡ bytes_check s p
    unfolding bytes_check
    bytes_fine h = rw (← e, h)

  -- a text's bytes are looked at where they lie within
  text_by : (u : Bool) (x : List ℕ) → x ≡ part_of s p → u ≡ well_formed x → text_check s p ≡ first_fault (bytes_check s p) (pick u (Ok tt) (Err BadText))
  unfolding text_check bytes_check
  text_by u x is e = rw (e, is) (go (within s p))
    where
      go : (t : Bool) → ◌≡◌ {A = Result ⊤ Denial} (pick t (pick (well_formed (part_of s p)) (Ok tt) (Err BadText)) (Err BadRequest)) (first_fault (pick t (Ok tt) (Err BadRequest)) (pick (well_formed (part_of s p)) (Ok tt) (Err BadText)))
      go true = refl
      go false = refl

  module _ (r : Result ⊤ Denial) (got : r ≡ bytes_check s p) where
    pub text_past : (d : Denial) → r ≡ Err d → Err d ≡ text_check s p
    text_past d e = sym (text_by (well_formed (part_of s p)) (part_of s p) refl refl ∙ rw (← got, e) refl)

    module _ (a : ⊤) (h : r ≡ Ok a) (u : Bool) (x : List ℕ) (is : x ≡ part_of s p) (f : u ≡ well_formed x) where
      pub text_wrong : u ≡ false → Err BadText ≡ text_check s p
      text_wrong g = sym (text_by u x is f ∙ rw (← got, h, g) refl)

      pub text_fine : u ≡ true → Ok tt ≡ text_check s p
      text_fine g = sym (text_by u x is f ∙ rw (← got, h, g) refl)

-- by the variant that the code has matched
pub check_as : (s : List ℕ) (f g : Field) (r : Result ⊤ Denial) → f ≡ g → r ≡ field_check s g → r ≡ field_check s f
check_as s f g r e h = rw e h

-- ---- the loop over the fields

module _ (s : List ℕ) (fs : List Field) (i : ℕ) (w : fields_check s fs ≡ fields_check s (drop i fs)) where
  pub check_end : length fs ≤ i → Ok tt ≡ fields_check s fs
  unfolding fields_check
  check_end h = sym (w ∙ rw (drop_of_length-le fs h))

  module _ (h : i < length fs) (r : Result ⊤ Denial) (got : r ≡ field_check s (get_or fs i blank)) where
    check-at : fields_check s fs ≡ first_fault r (fields_check s (drop (i + 1) fs))
    unfolding fields_check
    check-at = w ∙ rw (add-one i, drop-cons fs i blank h, got)

    pub check_on : (a : ⊤) → r ≡ Ok a → fields_check s fs ≡ fields_check s (drop (i + 1) fs)
    check_on a e = check-at ∙ rw e

    pub check-bad : (d : Denial) → r ≡ Err d → Err d ≡ fields_check s fs
    check-bad d e = sym (check-at ∙ rw e)

-- ---- where nothing is at fault the values are sound

text-sound : (s : List ℕ) (p : Part) → text_check s p ≡ (Ok tt) → well_formed (part_of s p) ≡ true
unfolding text_check
text-sound s p = go (within s p) (well_formed (part_of s p))
  where
    go : (t u : Bool) → ◌≡◌ {A = Result ⊤ Denial} (pick t (pick u (Ok tt) (Err BadText)) (Err BadRequest)) (Ok tt) → u ≡ true
    go true true e = refl
    go true false e = nope (cc)
    go false u e = nope (cc)

sound_field : (s : List ℕ) (f : Field) → field_check s f ≡ (Ok tt) → InWord f → Sound (kind_of f) (val_of s f)
sound_field s (Flag b) e h = tt
sound_field s (U64 v) e h = h
sound_field s (I64 z) e h = h
sound_field s (F64 w) e h = h
sound_field s (Bytes p) e h = tt
sound_field s (Text p) e h = text-sound s p e

both_whole : (c d : Result ⊤ Denial) → first_fault c d ≡ (Ok tt) → (c ≡ (Ok tt)) × (d ≡ (Ok tt))
both_whole (Ok tt) d e = (refl, e)
both_whole (Err x) d e = nope (cc)

pub sound_fields : (s : List ℕ) (fs : List Field) → fields_check s fs ≡ Ok tt → InWords fs → SoundRow (kinds_of fs) (vals_of s fs)
unfolding fields_check
sound_fields s [] e h = tt
sound_fields s (f ∷ fs) e h =
    let q = both_whole (field_check s f) (fields_check s fs) e in
    (sound_field s f q.0 h.0, sound_fields s fs q.1 h.1)
