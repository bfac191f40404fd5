-- Laws of a run of bytes laid into a buffer, and of what a call leaves with each number. Assumes nothing.
use Prim.Native.Nat.{ℕ, zero, suc, ◌+◌, ◌-◌, ◌≤◌, ◌<◌}
use mathlib.Core.Path.{◌≡◌, refl, sym, ap, ◌∙◌}
use mathlib.Core.List.{List, [], ◌∷◌, ◌++◌, append_assoc, append-nil}
use native.Mathlib.Nat.{add_assoc, add-zero, zero-add}
use native.Mathlib.Omega.{arith}
use native.Mathlib.Numerals.{add-one}
use lib.ListN.{length, take, drop, set, length-append, length-take, length-drop, take-append-drop, drop_of_length-le}
use lib.Seq.{take_at, drop_at, take_all, drop-append-add, drop-drop, length-take-le, set_split, take-append-le, take-take, sets-eq}
use Rattle.keycode.specs.Buffer.{put}
use Rattle.keycode.specs.Tests.{if_done}
use Rattle.keycode.specs.Refusals.{number_of}
use Rattle.keycode.specs.declared.refusal.Refusal.{Refusal}
use Rattle.keycode.specs.declared.refusal.Refusal.TheVariants.{Absent, ReadOnly, NotOpen, KeyTooLong, ValueTooLong, Conflict, LogFull, TableFull, TooManyOpen, NoSuchVersion, VersionsSpent, BadStore, BadRequest}

-- no refusal has number 0: what was lent stays
pub refused_stays : {A : Type 0} (r : Refusal) (a b : A) → b ≡ if_done (number_of r) a b
refused_stays Absent a b = refl
refused_stays ReadOnly a b = refl
refused_stays NotOpen a b = refl
refused_stays KeyTooLong a b = refl
refused_stays ValueTooLong a b = refl
refused_stays Conflict a b = refl
refused_stays LogFull a b = refl
refused_stays TableFull a b = refl
refused_stays TooManyOpen a b = refl
refused_stays NoSuchVersion a b = refl
refused_stays VersionsSpent a b = refl
refused_stays BadStore a b = refl
refused_stays BadRequest a b = refl

-- ---- a part, cut where the bytes end

module _ (s : List ℕ) (at len : ℕ) where
  pub clip_past : length s ≤ at → take (length s - length s) (drop (length s) s) ≡ take len (drop at s)
  clip_past h = rw (drop_of_length-le s h, drop_of_length-le s {i = length s} (omega arith)) (none (length s - length s) len)
    where
      none : (m n : ℕ) → take {A = ℕ} m [] ≡ take n []
      none zero zero = refl
      none zero (suc n) = refl
      none (suc m) zero = refl
      none (suc m) (suc n) = refl

  pub clip_rest : length s - at ≤ len → take (length s - at) (drop at s) ≡ take len (drop at s)
  clip_rest h =
      let l : length (drop at s) ≡ length s - at = length-drop at s in
      take_all (length s - at) (drop at s) (omega arith) ∙ sym (take_all len (drop at s) (omega arith))

  pub clip_whole : take (at + len - at) (drop at s) ≡ take len (drop at s)
  clip_whole = let e : at + len - at ≡ len = omega arith in ap (λ (k : ℕ). take k (drop at s)) e

-- ---- a run laid into a buffer

pub set-put : (d : List ℕ) (i b : ℕ) → i < length d → set d i b ≡ put d i (b ∷ [])
unfolding put
set-put d i b h = sets-eq (b ∷ []) d i (omega arith)

pub set_put_two : (d : List ℕ) (i a b : ℕ) → i + 1 < length d → set (set d i a) (i + 1) b ≡ put d i (a ∷ b ∷ [])
unfolding put
set_put_two d i a b h = rw add-one (sets-eq (a ∷ b ∷ []) d i (omega arith))

pub put-none : (d : List ℕ) (at : ℕ) → d ≡ put d at []
unfolding put
put-none d at = sym (simp (add-zero, append-nil, take-append-drop))

pub put_front : (d xs : List ℕ) → put d 0 xs ≡ xs ++ drop (length xs) d
unfolding put
put_front d xs = simp zero-add

-- a byte laid right before a run
pub put-before : (d : List ℕ) (at b : ℕ) (xs : List ℕ) → at + 1 + length xs ≤ length d → set (put d (at + 1) xs) at b ≡ put d at (b ∷ xs)
unfolding put
put-before d at b xs h =
    let l : length (take (at + 1) d) ≡ at + 1 = length-take-le (at + 1) d (omega arith) in
    let ys = xs ++ drop (at + 1 + length xs) d in
    let e : take (at + 1) d ++ xs ++ drop (at + 1 + length xs) d ≡ take (at + 1) d ++ ys = append_assoc (take (at + 1) d) xs (drop (at + 1 + length xs) d) in
    let m : at < length (take (at + 1) d ++ ys) = simp length-append (omega arith) in
    let f : at + 1 + length xs ≡ at + suc (length xs) = omega arith in
    rw e
    (set_split (take (at + 1) d ++ ys) at b m
    ∙ rw (take-append-le at (take (at + 1) d) ys (omega arith), take-take at (at + 1) d (omega arith), ← add-one at, drop_at (take (at + 1) d) ys (at + 1) l)
    (rw (append_assoc, f)))

module _ (d : List ℕ) (at : ℕ) (xs : List ℕ) (fits : at + length xs ≤ length d) where
  head_length : length (take at d ++ xs) ≡ at + length xs
  head_length = simp (length-append, length-take) (omega arith)

  drop_past : (m : ℕ) → drop (at + length xs + m) (put d at xs) ≡ drop (at + length xs + m) d
  unfolding put
  drop_past m =
      ap (λ (k : ℕ). drop (k + m) (put d at xs)) (sym head_length)
      ∙ drop-append-add (take at d ++ xs) (drop (at + length xs) d) m
      ∙ drop-drop m (at + length xs) d

  pub length-put : length (put d at xs) ≡ length d
  unfolding put
  length-put = simp (length-append, length-take, length-drop) (omega arith)

  -- a run laid right behind another
  pub put-put : (ys : List ℕ) → put (put d at xs) (at + length xs) ys ≡ put d at (xs ++ ys)
  unfolding put
  put-put ys =
      rw (take_at (take at d ++ xs) (drop (at + length xs) d) (at + length xs) head_length, drop_past (length ys))
      (simp (length-append, append_assoc, add_assoc))

-- ---- a run laid piece by piece

-- laying what is left from index o on gives the buffer d with all of it from index at on
pub record Laying (d : List ℕ) (at : ℕ) (all out : List ℕ) (o : ℕ) (left : List ℕ) : Type 0 where
  pub same : put out o left ≡ put d at all
  pub ends : o + length left ≡ at + length all
  pub room : at + length all ≤ length d
  pub long : length out ≡ length d

pub lay_start : (d : List ℕ) (at : ℕ) (all : List ℕ) → at + length all ≤ length d → Laying d at all d at all
lay_start d at all h = record { same = refl; ends = refl; room = h; long = refl }

pub lay-front : (d all : List ℕ) → length all ≤ length d → Laying d 0 all d 0 all
lay-front d all h = lay_start d 0 all (omega arith)

module _ {d : List ℕ} {at : ℕ} {all out : List ℕ} {o : ℕ} {left : List ℕ} (w : Laying d at all out o left) where
  pub lay-more : (xs ys out' : List ℕ) (o' : ℕ) → left ≡ xs ++ ys → o' ≡ o + length xs → out' ≡ put out o xs → Laying d at all out' o' ys
  lay-more xs ys out' o' e f g =
      let l : length left ≡ length xs + length ys = ap length e ∙ length-append xs ys in
      let r : o + length xs ≤ length out = omega (arith, w.ends, w.room, w.long) in
      record {
        same = rw (f, g) (put-put out o xs r ys) ∙ ap (put out o) (sym e) ∙ w.same;
        ends = omega (arith, w.ends);
        room = w.room;
        long = ap length g ∙ length-put out o xs r ∙ w.long;
      }

  pub lay_end : left ≡ [] → (o ≡ at + length all) × (out ≡ put d at all)
  lay_end e = let l : length left ≡ 0 = ap length e in (omega (arith, w.ends), put-none out o ∙ ap (put out o) (sym e) ∙ w.same)

  pub lay-room : (xs ys : List ℕ) → left ≡ xs ++ ys → o + length xs ≤ length out
  lay-room xs ys e = omega (arith, w.ends, w.room, w.long, ap length e ∙ length-append xs ys)
