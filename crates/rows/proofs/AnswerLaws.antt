-- What encode_row answers and leaves at each of its ways out. Assumes nothing.
use Prim.Native.Nat.{ℕ, ◌-◌, ◌≤◌, ◌<◌}
use mathlib.Core.Path.{◌≡◌, refl, sym, ap, ◌∙◌}
use mathlib.Core.List.{List, ◌++◌}
use native.Mathlib.Omega.{arith}
use lib.ListN.{length, drop}
use borrow.Author.Tests.{le-leb, lt-leb}
use Rattle.std.specs.Prelude.{Result, ⊤, Ok, Err, Option, ℕ, Some, None}
use Rattle.keycode.specs.Tests.{if_done}
use Rattle.keycode.specs.Buffer.{put}
use Rattle.rows.specs.declared.fields.Field.{Field}
use Rattle.codecs.specs.declared.fields.Denial.{Denial}
use Rattle.codecs.specs.declared.fields.Denial.TheVariants.{BadKey, BadRequest, BadFlag, BadText}
use Rattle.codecs.specs.Denials.{denial_number}
use Rattle.rows.specs.Promises.{row_bytes, fields_check, row_answer, RowWrites}
use Rattle.rows.specs.Inner.{room_of, InWords}
use Rattle.keycode.proofs.BufferLaws.{put_front}
use Rattle.rows.proofs.CheckLaws.{sound_fields}
use Rattle.rows.proofs.EncodeLaws.{room_says, room-none}

denied_stays : {A : Type 0} (r : Denial) (a b : A) → b ≡ if_done (denial_number r) a b
denied_stays BadKey a b = refl
denied_stays BadRequest a b = refl
denied_stays BadFlag a b = refl
denied_stays BadText a b = refl

denied_not : {A : Type 0} (r : Denial) → denial_number r ≡ 0 → A
denied_not BadKey e = absurd (omega arith)
denied_not BadRequest e = absurd (omega arith)
denied_not BadFlag e = absurd (omega arith)
denied_not BadText e = absurd (omega arith)

module _ (fs : List Field) (s d : List ℕ) where
  denied : (r : Denial) → Err r ≡ row_answer fs s (length d) → RowWrites fs s d (Err r) d
  denied r e = record { answer = e; buffer = denied_stays r (row_bytes s fs ++ drop (length (row_bytes s fs)) d) d; sound = λ h. denied_not r h }

  pub answer-many : 8 < length fs → RowWrites fs s d (Err BadRequest) d
  unfolding row_answer
  answer-many h = denied BadRequest (sym (rw (lt-leb (length fs) 8 h)))

  module _ (few : length fs ≤ 8) (c : Result ⊤ Denial) (e : c ≡ fields_check s fs) where
    pub answer-fault : (r : Denial) → c ≡ Err r → RowWrites fs s d (Err r) d
    unfolding row_answer
    answer-fault r h = denied r (sym (rw (le-leb (length fs) 8 few, ← e, h)))

    module _ (a : ⊤) (h : c ≡ Ok a) (r : Option ℕ) (got : r ≡ room_of (length (row_bytes s fs)) (length d)) where
      pub answer-short : r ≡ None → RowWrites fs s d (Err BadRequest) d
      unfolding row_answer
      answer-short g =
          let l = room-none (length (row_bytes s fs)) (length d) (sym got ∙ g) in
          denied BadRequest (sym (rw (le-leb (length fs) 8 few, ← e, h, lt-leb (length (row_bytes s fs)) (length d) l)))

      module _ (m : ℕ) (g : r ≡ Some m) where
        pub left_fits : length (row_bytes s fs) ≤ length d
        left_fits = (room_says (length (row_bytes s fs)) (length d) m (sym got ∙ g)).0

        pub left_within : m ≤ length d
        left_within = let q = room_says (length (row_bytes s fs)) (length d) m (sym got ∙ g) in omega (arith, q.1)

        pub answer_done : (out : List ℕ) → (out ≡ put d 0 (row_bytes s fs)) × InWords fs → RowWrites fs s d (Ok (length d - m)) out
        unfolding row_answer
        answer_done out p =
            let q = room_says (length (row_bytes s fs)) (length d) m (sym got ∙ g) in
            let n : length d - m ≡ length (row_bytes s fs) = omega (arith, q.0, q.1) in
            record {
              answer = rw (le-leb (length fs) 8 few, ← e, h, le-leb (length (row_bytes s fs)) (length d) q.0) (ap Ok n);
              buffer = p.0 ∙ put_front d (row_bytes s fs);
              sound = λ z. sound_fields s fs (sym e ∙ h) p.1;
            }
