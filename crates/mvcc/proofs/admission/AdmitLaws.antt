-- The checks that come first, by what the code finds, and in the words of the map. Assumes nothing.
use Prim.Native.Nat.{ℕ, ◌-◌, ◌^◌}
use mathlib.Core.Path.{◌≡◌, refl, sym, ap, ◌∙◌}
use mathlib.Core.Bool.{Bool, true, false, not}
use mathlib.Core.List.{List}
use lib.ListN.{length, take}
use borrow.Author.Tests.{not-true, not-false}
use Rattle.std.specs.Prelude.{Result, Ok, Err, is_ok}
use Rattle.keycode.specs.declared.refusal.Refusal.{Refusal}
use Rattle.keycode.specs.declared.refusal.Refusal.TheVariants.{NotOpen, BadRequest}
use Rattle.keycode.proofs.Basics.{nope}
use Rattle.bitcask.specs.declared.request.Used.{Used}
use Rattle.bitcask.specs.recovery.Agree.{fit, Agrees}
use Rattle.bitcask.specs.declared.engine.mark.Mark.{Mark}
use Rattle.bitcask.specs.engine.Rows.{Row, rows}
use Rattle.bitcask.specs.engine.Marks.{mark_of, entered_by, Held, Agreeing}
use Rattle.bitcask.specs.declared.engine.spot.Spot.{Spot}
use Rattle.bitcask.specs.engine.Spots.{placed, place_by, has_row}
use Rattle.bitcask.proofs.engine.RowLaws.{rows_agree}
use Rattle.bitcask.proofs.engine.LookLaws.{has_in, found_has, absent_has}
use Rattle.bitcask.proofs.engine.SpotLaws.{in_fits, in_held, refused_fits}
use Rattle.mvcc.specs.declared.handle.Handle.{Handle}
use Rattle.mvcc.specs.handle.Handles.{sound_handle}
use Rattle.keycode.specs.declared.code.Code.{Code}
use Rattle.keycode.specs.code.Codes.{Codes}
use Rattle.mvcc.specs.request.Checks.{active_key, open_by, admit_by, open_in}
use Rattle.mvcc.proofs.request.CheckLaws.{open_live}
use Rattle.mvcc.specs.admission.Admits.{check_of, Admits}

-- whether the search found a row
pub found_live : (key : List ℕ) (rs : List Row) (f : Result Spot Spot) → placed f rs ≡ place_by key rs → is_ok f ≡ has_row key rs
found_live key rs (Ok p) says = found_has key rs says p refl
found_live key rs (Err p) says = absent_has key rs says p refl

-- the look-up of the handle's key by its code
pub open_look : (rs : List Row) (h : Handle) (c : Code) (b : Bool) → h.read_only ≡ false → (h.version ≡ 0 → ⊥) → (h.version ≡ 2 ^ 64 - 1 → ⊥) → Codes c (active_key h)
    → b ≡ has_row (take c.len c.bytes) rs → b ≡ open_by h (has_row (active_key h) rs)
open_look rs h c b r n m w e = e ∙ rw w.says (open_live h (has_row (active_key h) rs) r n m)

-- ---- all of them

module _ (log : List ℕ) (used : Used) (t : List ℕ) (h : Handle) {r : Result Mark Refusal} (says : r ≡ entered_by log used t) where
  pub admit_out : (x : Refusal) → r ≡ Err x → Admits log used t h (Err x)
  unfolding admit_by
  admit_out x e =
      let w = refused_fits log used t r says x e in
      record { check = rw w.0 (ap Err w.1); mark = λ m q. nope (cc) }

  module _ {m : Mark} (e : r ≡ Ok m) {b : Bool} (eb : b ≡ sound_handle h) where
    pub admit_handle : not b ≡ true → Admits log used t h (Err BadRequest)
    unfolding admit_by
    admit_handle n =
        record { check = rw ((in_fits log used t r says m e).0, ← eb, not-true b n); mark = λ k q. nope (cc) }

    module _ (n : not b ≡ false) {o : Bool} (eo : o ≡ open_by h (has_row (active_key h) (rows log t m))) where
      here : open_by h (has_row (active_key h) (rows log t (mark_of used t))) ≡ o
      here = sym (eo ∙ ap (λ (k : Mark). open_by h (has_row (active_key h) (rows log t k))) (in_fits log used t r says m e).1)

      pub admit_fine : o ≡ true → Admits log used t h (Ok m)
      unfolding admit_by
      admit_fine q =
          record {
            check = rw ((in_fits log used t r says m e).0, ← eb, not-false b n, here, q);
            mark = λ k p. let z : m ≡ k = cc in sym z ∙ (in_fits log used t r says m e).1;
          }

      pub admit_closed : o ≡ false → Admits log used t h (Err NotOpen)
      unfolding admit_by
      admit_closed q = record { check = rw ((in_fits log used t r says m e).0, ← eb, not-false b n, here, q); mark = λ k p. nope (cc) }

-- ---- what a caller knows

fine_fits : (f s a : Bool) → (Ok tt) ≡ admit_by f s a → f ≡ true
unfolding admit_by
fine_fits true s a e = refl
fine_fits false s a e = nope (cc)

module _ (log : List ℕ) (used : Used) (t : List ℕ) (h : Handle) {r : Result Mark Refusal} (w : Admits log used t h r) (m : Mark) (e : r ≡ Ok m) where
  fine_check : (Ok tt) ≡ admit_by (fit (length log) used.len (length t)) (sound_handle h) (open_by h (has_row (active_key h) (rows log t (mark_of used t))))
  fine_check = sym (ap check_of e) ∙ w.check

  pub fine_held : Held log t m
  unfolding entered_by
  fine_held =
      let f : fit (length log) used.len (length t) ≡ true = fine_fits (fit (length log) used.len (length t)) (sound_handle h) (open_by h (has_row (active_key h) (rows log t (mark_of used t)))) fine_check in
      in_held log used t (Ok m) (ap Ok (w.mark m e) ∙ rw f) m refl

  pub fine_agreeing : Agrees log used.len t → Agreeing log t m
  fine_agreeing g = rw (w.mark m e) (record { agrees = g; count = refl })

  -- a caller's rows are those of the mark that it was given
  pub fine_rows : rows log t m ≡ rows log t (mark_of used t)
  fine_rows = ap (rows log t) (w.mark m e)

-- ---- of the map

pub open_rows : (log : List ℕ) (used : Used) (t : List ℕ) (h : Handle) → Agrees log used.len t → open_by h (has_row (active_key h) (rows log t (mark_of used t))) ≡ open_in log used.len h
open_rows log used t h g =
    ap (open_by h)
    (ap (has_row (active_key h)) (rows_agree log t (mark_of used t) (record { agrees = g; count = refl })) ∙ has_in log used.len (active_key h))
