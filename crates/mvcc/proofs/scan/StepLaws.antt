-- The scan steps keep their promise. Assumes nothing.
use Prim.Native.Nat.{ℕ}
use mathlib.Core.Path.{◌≡◌, refl, sym, ap, ◌∙◌}
use mathlib.Core.Bool.{Bool, true, false, not}
use mathlib.Core.List.{List}
use lib.Dec.{eqb}
use lib.ListN.{length}
use Rattle.std.specs.Prelude.{Result, ⊤, Ok, Err}
use Rattle.bitcask.specs.declared.answers.KeyValue.{KeyValue}
use Rattle.keycode.specs.Tests.{pick}
use Rattle.keycode.specs.declared.refusal.Refusal.{Refusal}
use Rattle.keycode.specs.declared.refusal.Refusal.TheVariants.{KeyTooLong}
use Rattle.bitcask.specs.declared.request.Used.{Used}
use Rattle.bitcask.specs.recovery.Agree.{fit}
use Rattle.bitcask.specs.read.Promises.{stepped_number}
use Rattle.bitcask.specs.declared.engine.mark.Mark.{Mark}
use Rattle.bitcask.specs.engine.Rows.{Row, rows, rows_in}
use Rattle.bitcask.specs.engine.Marks.{mark_of, Agreeing}
use Rattle.bitcask.specs.engine.Spots.{has_row}
use Rattle.bitcask.specs.engine.Ranges.{keep_rows}
use Rattle.mvcc.specs.declared.handle.Handle.{Handle}
use Rattle.mvcc.specs.handle.Handles.{sound_handle}
use Rattle.mvcc.specs.request.Checks.{active_key, open_by, admit_by}
use Rattle.mvcc.proofs.request.CheckLaws.{open_never, open_ever, behind, behind-bad, behind-never, behind-ever, behind-long}
use Rattle.mvcc.specs.admission.Admits.{check_of, Admits}
use Rattle.mvcc.proofs.admission.AdmitLaws.{open_rows}
use Rattle.mvcc.specs.walk.Walks.{step_rows}
use Rattle.mvcc.specs.scan.Promises.{checked_step, keys_by, scan_answer, Scanning}
use Rattle.mvcc.proofs.scan.QuietLaws.{step-answers, answers_quiet}

-- ---- the numbers

-- that of what follows the checks of every call
abbrev late_number : Bool → Result KeyValue Refusal → ℕ
late_number b x = pick b (stepped_number x) 4

number_behind : (c : Result ⊤ Refusal) (b : Bool) (x : Result KeyValue Refusal) → stepped_number (checked_step (keys_by c b) x) ≡ behind c (late_number b x)
unfolding keys_by
number_behind (Ok tt) true x = refl
number_behind (Ok tt) false x = refl
number_behind (Err r) b x = refl

module _ (h : Handle) (log : List ℕ) (rs : List Row) where
  late-bad : (b : Bool) → eqb (late_number b (step_rows h log rs)) 13 ≡ false
  late-bad true = answers_quiet 13 refl refl refl (step-answers h log rs)
  late-bad false = refl

  late_open : (b : Bool) → eqb (late_number b (step_rows h log rs)) 3 ≡ false
  late_open true = answers_quiet 3 refl refl refl (step-answers h log rs)
  late_open false = refl

  late-long : (b : Bool) → eqb (late_number b (step_rows h log rs)) 4 ≡ not b
  late-long true = answers_quiet 4 refl refl refl (step-answers h log rs)
  late-long false = refl

-- ---- the promise, of a step that reads the rows rs m of a store that was entered

module _ (log : List ℕ) (used : Used) (t : List ℕ) (h : Handle) (short : Bool) (test : List ℕ → Bool) (rs : Mark → List Row)
    (same : (m : Mark) → Agreeing log t m → rs m ≡ keep_rows test (rows_in log m.used.len)) where
  abbrev live : Bool
  live = has_row (active_key h) (rows log t (mark_of used t))

  abbrev check : Result ⊤ Refusal
  check = admit_by (fit (length log) used.len (length t)) (sound_handle h) (open_by h live)

  scanning : {r : Result KeyValue Refusal} → r ≡ checked_step (keys_by check short) (step_rows h log (rs (mark_of used t))) → Scanning log used.len t h short test r
  unfolding scan_answer
  scanning {r} e =
      let f : Bool = fit (length log) used.len (length t) in
      let g : Bool = sound_handle h in
      let x : (Result KeyValue Refusal) = step_rows h log (rs (mark_of used t)) in
      let n : stepped_number r ≡ behind (admit_by f g (open_by h live)) (late_number short x) = ap stepped_number e ∙ number_behind (admit_by f g (open_by h live)) short x in
      record {
        bad = ap (λ (k : ℕ). eqb k 13) n ∙ behind-bad (late_number short x) f g (open_by h live) (late-bad h log (rs (mark_of used t)) short);
        never = λ q. ap (λ (k : ℕ). eqb k 3) n ∙ rw (open_never h live q) (behind-never (late_number short x) f g);
        ever = λ q. ap (λ (k : ℕ). eqb k 3) n ∙ rw (open_ever h live q) (behind-ever (late_number short x) f g (late_open h log (rs (mark_of used t)) short));
        long = λ q. ap (λ (k : ℕ). eqb k 4) n ∙ rw (open_ever h live q) (behind-long (late_number short x) f g (not short) (late-long h log (rs (mark_of used t)) short));
        answer = λ a. e
            ∙ (λ j. checked_step (keys_by (admit_by f g (open_rows log used t h a j)) short) (step_rows h log (same (mark_of used t) (record { agrees = a; count = refl }) j)));
      }

  module _ {a : Result Mark Refusal} (w : Admits log used t h a) where
    pub scan_refused : (x : Refusal) → a ≡ Err x → Scanning log used.len t h short test (Err x)
    unfolding keys_by
    scan_refused x e = scanning (ap (λ (c : Result ⊤ Refusal). checked_step (keys_by c short) (step_rows h log (rs (mark_of used t)))) (sym (ap check_of e) ∙ w.check))

    module _ (m : Mark) (e : a ≡ Ok m) {b : Bool} (eb : b ≡ short) where
      fine_by : (v : Bool) → b ≡ v → checked_step (keys_by (Ok tt) v) (step_rows h log (rs (mark_of used t))) ≡ checked_step (keys_by check short) (step_rows h log (rs (mark_of used t)))
      fine_by v q = λ j. checked_step (keys_by ((sym (ap check_of e) ∙ w.check) j) ((sym q ∙ eb) j)) (step_rows h log (rs (mark_of used t)))

      pub scan_long : b ≡ false → Scanning log used.len t h short test (Err KeyTooLong)
      unfolding keys_by
      scan_long q = scanning (fine_by false q)

      pub scan_done : b ≡ true → {r : Result KeyValue Refusal} → r ≡ step_rows h log (rs m) → Scanning log used.len t h short test r
      unfolding keys_by
      scan_done q er = scanning (er ∙ ap (λ (k : Mark). step_rows h log (rs k)) (w.mark m e) ∙ fine_by true q)
