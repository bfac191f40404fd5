-- What the code of encoding knows: the room that is left of a buffer, and the bytes that are written. Assumes nothing.
use Prim.Native.Nat.{ℕ, ◌+◌, ◌-◌, ◌^◌, ◌≤◌, ◌<◌}
use mathlib.Core.Path.{◌≡◌, refl, sym, ap, subst, ◌∙◌}
use mathlib.Core.Bool.{Bool, true, false}
use mathlib.Core.Logic.{◌⊎◌, inl, inr}
use mathlib.Core.List.{List, [], ◌∷◌, ◌++◌}
use native.Mathlib.Omega.{arith}
use native.Mathlib.Numerals.{add-one}
use lib.ListN.{length, drop, get_or, set, length-append, drop_of_length-le}
use lib.Seq.{drop-cons}
use lib.Dec.{leb}
use lib.IntN.{ℤ, pos, negsuc}
use mir.Syntax.{w64}
use mir.Val.{SFits, to_z, of_z, bool_byte}
use mir.ValLaws.{to_z-of_z}
use borrow.Author.Tests.{le-leb, lt-leb, leb-true, leb-false}
use Rattle.std.specs.Prelude.{Option, ℕ, Some, None, SomeIff}
use Rattle.keycode.specs.Tests.{pick}
use Rattle.keycode.specs.Number.{be}
use Rattle.keycode.specs.Buffer.{put}
use Rattle.keycode.specs.Strings.{escape_byte, escape_body, escape}
use Rattle.keycode.specs.declared.parts.Part.{Part}
use Rattle.rows.specs.declared.fields.Field.{Field}
use Rattle.rows.specs.declared.fields.Field.TheVariants.{Flag, U64, I64, F64, Bytes, Text}
use Rattle.codecs.specs.Signs.{Small, biased, flipped}
use Rattle.codecs.specs.Kinds.{flag_bytes}
use Rattle.rows.specs.Promises.{part_of, field_bytes, row_bytes, blank}
use Rattle.rows.specs.Inner.{room_of, InWord, InWords, PutField}
use Rattle.keycode.proofs.Basics.{nope}
use Rattle.keycode.proofs.BufferLaws.{Laying, lay-front, lay-more, lay_end, lay-room, set-put}
use Rattle.keycode.proofs.NumberLaws.{length-be}
use Rattle.keycode.proofs.StringLaws.{body_drop, body_done, escape-length}

-- ---- the room that is left

pub room-short : (n left : ℕ) → left < n → None ≡ room_of n left
unfolding room_of
room-short n left h = rw (lt-leb n left h)

pub room_left : (n left : ℕ) → n ≤ left → Some (left - n) ≡ room_of n left
unfolding room_of
room_left n left h = rw (le-leb n left h)

-- bytes behind others
pub room-more : (m n left : ℕ) → m ≤ left → room_of (m + n) left ≡ room_of n (left - m)
unfolding room_of
room-more m n left h = go (leb n (left - m)) refl
  where
    go : (t : Bool) → leb n (left - m) ≡ t → pick (leb (m + n) left) (Some (left - (m + n))) None ≡ pick (leb n (left - m)) (Some (left - m - n)) None
    go true e = let l = leb-true n (left - m) e in let q : left - (m + n) ≡ left - m - n = omega arith in rw (le-leb (m + n) left (omega arith), le-leb n (left - m) l, q)
    go false e = rw (e, lt-leb (m + n) left (over (leb-false n (left - m) e)))
      where
        over : left - m < n → left < m + n
        over g = omega arith

pub room-over : (m n left : ℕ) → left < m → None ≡ room_of (m + n) left
room-over m n left h = room-short (m + n) left (omega arith)

-- what a call gives that takes n of `left` where there are so many
pub room_checked : (n left : ℕ) (r : Option ℕ) → SomeIff r (n ≤ left) (left - n) → r ≡ room_of n left
room_checked n left None h = room-short n left (omega (arith, h))
room_checked n left (Some m) h = ap Some h.1 ∙ room_left n left h.0

pub room_says : (n left m : ℕ) → room_of n left ≡ Some m → (n ≤ left) × (m ≡ left - n)
unfolding room_of
room_says n left m = go (leb n left) refl
  where
    go : (t : Bool) → leb n left ≡ t → pick t (Some (left - n)) None ≡ Some m → (n ≤ left) × (m ≡ left - n)
    go true e p = (leb-true n left e, cc)
    go false e p = nope (cc)

pub room-none : (n left : ℕ) → room_of n left ≡ None → left < n
unfolding room_of
room-none n left = go (leb n left) refl
  where
    go : (t : Bool) → leb n left ≡ t → pick t (Some (left - n)) None ≡ None → left < n
    go true e p = nope (cc)
    go false e p = leb-false n left e

-- n bytes taken of what is left, where `rest` more are to come
module _ (all room left n rest : ℕ) (w : room_of all room ≡ room_of (n + rest) left) (r : Option ℕ) (got : r ≡ room_of n left) where
  pub room_on : (m : ℕ) → r ≡ Some m → room_of all room ≡ room_of rest m
  room_on m e = let q = room_says n left m (sym got ∙ e) in w ∙ room-more n rest left q.0 ∙ ap (room_of rest) (sym q.1)

  pub room_out : r ≡ None → None ≡ room_of all room
  room_out e = room-over n rest left (room-none n left (sym got ∙ e)) ∙ sym w

-- the loop over a string's bytes
module _ (s : List ℕ) (room left i : ℕ) (w : room_of (length (escape s)) room ≡ room_of (length (escape_body (drop i s)) + 2) left) where
  pub string_done : length s ≤ i → (r : Option ℕ) → SomeIff r (2 ≤ left) (left - 2) → r ≡ room_of (length (escape s)) room
  string_done h r e = room_checked 2 left r e ∙ sym (w ∙ ap (λ (n : ℕ). room_of n left) (ap (λ (t : List ℕ). length t + 2) (body_done s i h)))

  module _ (h : i < length s) (n : ℕ) (is : n ≡ length (escape_byte (get_or s i 0))) (r : Option ℕ) (got : SomeIff r (n ≤ left) (left - n)) where
    string_at_lem : room_of (length (escape s)) room ≡ room_of (n + (length (escape_body (drop (i + 1) s)) + 2)) left
    string_at_lem =
        let l : length (escape_body (drop i s)) ≡ length (escape_byte (get_or s i 0)) + length (escape_body (drop (i + 1) s)) =
        ap length (body_drop s i h) ∙ length-append (escape_byte (get_or s i 0)) (escape_body (drop (i + 1) s)) in
        let e : length (escape_body (drop i s)) + 2 ≡ n + (length (escape_body (drop (i + 1) s)) + 2) = omega arith in
        w ∙ ap (λ (k : ℕ). room_of k left) e

    pub string_on : (m : ℕ) → r ≡ Some m → room_of (length (escape s)) room ≡ room_of (length (escape_body (drop (i + 1) s)) + 2) m
    string_on = room_on (length (escape s)) room left n (length (escape_body (drop (i + 1) s)) + 2) string_at_lem r (room_checked n left r got)

    pub string_short : r ≡ None → None ≡ room_of (length (escape s)) room
    string_short = room_out (length (escape s)) room left n (length (escape_body (drop (i + 1) s)) + 2) string_at_lem r (room_checked n left r got)

pub string_start : (s : List ℕ) (room : ℕ) → room_of (length (escape s)) room ≡ room_of (length (escape_body (drop 0 s)) + 2) room
string_start s room = ap (λ (n : ℕ). room_of n room) (escape-length s)

-- ---- one field

flag-length : (v : Bool) → length (flag_bytes v) ≡ 1
unfolding flag_bytes
flag-length true = refl
flag-length false = refl

module _ (d : List ℕ) (at : ℕ) (b : Bool) (room : at + length (flag_bytes b) ≤ length d) where
  pub flag-room : at < length d
  flag-room = let l = flag-length b in omega arith

  pub flag_put : (n : ℕ) → n ≡ bool_byte b → (at + 1 ≡ at + length (flag_bytes b)) × (set d at n ≡ put d at (flag_bytes b))
  unfolding flag_bytes
  flag_put n e = (let l = flag-length b in omega arith, ap (set d at) e ∙ go b)
    where
      go : (b : Bool) → set d at (bool_byte b) ≡ put d at (flag_bytes b)
      go true = set-put d at 1 flag-room
      go false = set-put d at 0 flag-room

pub word_put : (d out : List ℕ) (at n : ℕ) → out ≡ put d at (be 8 n) → (at + 8 ≡ at + length (be 8 n)) × (out ≡ put d at (be 8 n))
word_put d out at n h = let l = length-be 8 n in (omega arith, h)

-- a field's bytes, by the variant that the code has matched
module _ (s : List ℕ) (f : Field) where
  pub bytes-flag : (b : Bool) → f ≡ Flag b → field_bytes s f ≡ flag_bytes b
  unfolding field_bytes
  bytes-flag b e = rw e

  pub bytes_u64 : (v : ℕ) → f ≡ U64 v → field_bytes s f ≡ be 8 v
  unfolding field_bytes
  bytes_u64 v e = rw e

  pub bytes_i64 : (v : ℤ) (m : ℕ) → f ≡ I64 v → m ≡ biased v → field_bytes s f ≡ be 8 m
  unfolding field_bytes
  bytes_i64 v m e g = rw (e, g)

  pub bytes_f64 : (w m : ℕ) → f ≡ F64 w → m ≡ flipped w → field_bytes s f ≡ be 8 m
  unfolding field_bytes
  bytes_f64 w m e g = rw (e, g)

  pub bytes-string : (p : Part) (x : List ℕ) → (f ≡ Bytes p) ⊎ (f ≡ Text p) → x ≡ part_of s p → field_bytes s f ≡ escape x
  unfolding field_bytes
  bytes-string p x (inl e) g = rw (e, g)
  bytes-string p x (inr e) g = rw (e, g)

  pub flag_long : (b : Bool) → f ≡ Flag b → 1 ≡ length (field_bytes s f)
  flag_long b e = sym (ap length (bytes-flag b e) ∙ flag-length b)

  pub word_long : ((v : ℕ) × (f ≡ U64 v)) ⊎ (((v : ℤ) × (f ≡ I64 v)) ⊎ ((w : ℕ) × (f ≡ F64 w))) → 8 ≡ length (field_bytes s f)
  word_long (inl e) = sym (ap length (bytes_u64 e.0 e.1) ∙ length-be 8 e.0)
  word_long (inr (inl e)) = sym (ap length (bytes_i64 e.0 (biased e.0) e.1 refl) ∙ length-be 8 (biased e.0))
  word_long (inr (inr e)) = sym (ap length (bytes_f64 e.0 (flipped e.0) e.1 refl) ∙ length-be 8 (flipped e.0))

  pub field_left : (n left : ℕ) (r : Option ℕ) → n ≡ length (field_bytes s f) → SomeIff r (n ≤ left) (left - n) → r ≡ room_of (length (field_bytes s f)) left
  field_left n left r e h = room_checked n left r h ∙ ap (λ (k : ℕ). room_of k left) e

-- what is known of a field's bytes under another name of theirs
module _ (e b : List ℕ) (is : b ≡ e) (at : ℕ) where
  pub as_room : (n : ℕ) → at + length b ≤ n → at + length e ≤ n
  as_room n h = let l = ap length is in omega arith

  pub as_put : (d out : List ℕ) (r : ℕ) → (r ≡ at + length e) × (out ≡ put d at e) → (r ≡ at + length b) × (out ≡ put d at b)
  as_put d out r h = rw is h

  pub as_left : (left : ℕ) (r : Option ℕ) → r ≡ room_of (length e) left → r ≡ room_of (length b) left
  as_left left r h = rw is h

pub eight_room : (b : List ℕ) (at n : ℕ) → 8 ≡ length b → at + length b ≤ n → at + 8 ≤ n
eight_room b at n l h = omega arith

-- a signed number that was handed to a call is the number
pub handed : (v : ℤ) (m : ℕ) → SFits w64 v → m ≡ biased (to_z w64 (of_z w64 v)) → m ≡ biased v
handed v m f h = h ∙ ap biased (to_z-of_z w64 v f)

small : (z : ℤ) → SFits w64 z → Small z
small (pos n) f = let k = f.sfits in omega arith
small (negsuc n) f = let k = f.sfits in omega arith

-- the field's number has 64 bits, by the variant that the code has matched
module _ (f : Field) where
  pub word-flag : (b : Bool) → f ≡ Flag b → InWord f
  word-flag b e = rw e tt

  pub word_u64 : (v : ℕ) → f ≡ U64 v → v < 2 ^ 64 → InWord f
  word_u64 v e h = rw e h

  pub word_i64 : (v : ℤ) → f ≡ I64 v → SFits w64 v → InWord f
  word_i64 v e h = rw e (small v h)

  pub word_f64 : (w : ℕ) → f ≡ F64 w → w < 2 ^ 64 → InWord f
  word_f64 w e h = rw e h

  pub word-string : (p : Part) → (f ≡ Bytes p) ⊎ (f ≡ Text p) → InWord f
  word-string p (inl e) = rw e tt
  word-string p (inr e) = rw e tt

pub field_put : (s : List ℕ) (f : Field) (d : List ℕ) (at r : ℕ) (out : List ℕ) → InWord f → (r ≡ at + length (field_bytes s f)) × (out ≡ put d at (field_bytes s f)) → PutField s f d at r out
field_put s f d at r out w h = record { behind = h.0; bytes = h.1; word = w }

-- ---- the loops over a row's bytes

-- the loop that writes: what stands in the buffer, and that the fields so far leave nothing to be shown of theirs
pub record Putting (s : List ℕ) (fs : List Field) (d out : List ℕ) (o i : ℕ) : Type 0 where
  pub laid : Laying d 0 (row_bytes s fs) out o (row_bytes s (drop i fs))
  pub words : InWords (drop i fs) → InWords fs

module _ (s : List ℕ) (fs : List Field) (i : ℕ) (h : i < length fs) where
  row_cons : row_bytes s (drop i fs) ≡ field_bytes s (get_or fs i blank) ++ row_bytes s (drop (i + 1) fs)
  unfolding row_bytes field_bytes
  row_cons = rw (add-one i, drop-cons fs i blank h)

  row_long : length (row_bytes s (drop i fs)) ≡ length (field_bytes s (get_or fs i blank)) + length (row_bytes s (drop (i + 1) fs))
  row_long = ap length row_cons ∙ length-append (field_bytes s (get_or fs i blank)) (row_bytes s (drop (i + 1) fs))

  module _ (room left : ℕ) (w : room_of (length (row_bytes s fs)) room ≡ room_of (length (row_bytes s (drop i fs))) left)
      (r : Option ℕ) (got : r ≡ room_of (length (field_bytes s (get_or fs i blank))) left) where
    pub row_on : (m : ℕ) → r ≡ Some m → room_of (length (row_bytes s fs)) room ≡ room_of (length (row_bytes s (drop (i + 1) fs))) m
    row_on = room_on _ room left _ (length (row_bytes s (drop (i + 1) fs))) (w ∙ ap (λ (k : ℕ). room_of k left) row_long) r got

    pub row_short : r ≡ None → None ≡ room_of (length (row_bytes s fs)) room
    row_short = room_out _ room left _ (length (row_bytes s (drop (i + 1) fs))) (w ∙ ap (λ (k : ℕ). room_of k left) row_long) r got

  field_cons : drop i fs ≡ get_or fs i blank ∷ drop (i + 1) fs
  field_cons = rw (add-one i) (drop-cons fs i blank h)

  -- the loop that writes
  module _ {d out : List ℕ} {o : ℕ} (w : Putting s fs d out o i) where
    pub put-room : o + length (field_bytes s (get_or fs i blank)) ≤ length out
    put-room = lay-room w.laid (field_bytes s (get_or fs i blank)) (row_bytes s (drop (i + 1) fs)) row_cons

    pub put_on : (out' : List ℕ) (o' : ℕ) → PutField s (get_or fs i blank) out o o' out' → Putting s fs d out' o' (i + 1)
    put_on out' o' q =
        record {
          laid = lay-more w.laid (field_bytes s (get_or fs i blank)) (row_bytes s (drop (i + 1) fs)) out' o' row_cons q.behind q.bytes;
          words = λ u. w.words (subst InWords (sym field_cons) (q.word, u));
        }

row_none : (s : List ℕ) (fs : List Field) (i : ℕ) → length fs ≤ i → row_bytes s (drop i fs) ≡ []
unfolding row_bytes
row_none s fs i h = rw (drop_of_length-le fs h)

pub row_left : (s : List ℕ) (fs : List Field) (i room left : ℕ) → length fs ≤ i → room_of (length (row_bytes s fs)) room ≡ room_of (length (row_bytes s (drop i fs))) left
    → Some left ≡ room_of (length (row_bytes s fs)) room
row_left s fs i room left h w = let z : left ≡ left - 0 = omega arith in ap Some z ∙ room_left 0 left (omega arith) ∙ sym (w ∙ ap (λ (t : List ℕ). room_of (length t) left) (row_none s fs i h))

pub put_start : (s : List ℕ) (fs : List Field) (d : List ℕ) → length (row_bytes s fs) ≤ length d → Putting s fs d d 0 0
put_start s fs d h = record { laid = lay-front d (row_bytes s fs) h; words = λ u. u }

pub put_end : (s : List ℕ) (fs : List Field) (i : ℕ) {d out : List ℕ} {o : ℕ} → length fs ≤ i → Putting s fs d out o i → (out ≡ put d 0 (row_bytes s fs)) × InWords fs
put_end s fs i h w = ((lay_end w.laid (row_none s fs i h)).1, w.words (rw (drop_of_length-le fs h) tt))
