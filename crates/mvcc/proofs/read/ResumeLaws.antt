-- Resume keeps its promise. Assumes nothing.
use Prim.Native.Nat.{ℕ}
use mathlib.Core.Path.{◌≡◌, refl, ap, ◌∙◌}
use mathlib.Core.Bool.{Bool, true, false, not}
use mathlib.Core.List.{List}
use lib.Dec.{eqb}
use lib.ListN.{length}
use Rattle.std.specs.Prelude.{Ok, Err, Result, ⊤}
use Rattle.keycode.specs.Tests.{pick, if_done}
use Rattle.keycode.specs.declared.refusal.Refusal.{Refusal}
use Rattle.keycode.proofs.Basics.{nope}
use Rattle.bitcask.specs.declared.request.Used.{Used}
use Rattle.bitcask.specs.recovery.Agree.{fit}
use Rattle.bitcask.specs.recovery.Promises.{changed_number}
use Rattle.bitcask.specs.declared.engine.mark.Mark.{Mark}
use Rattle.bitcask.specs.engine.Marks.{mark_of}
use Rattle.bitcask.specs.engine.Rows.{rows}
use Rattle.bitcask.specs.engine.Spots.{has_row}
use Rattle.mvcc.specs.declared.handle.Handle.{Handle}
use Rattle.mvcc.specs.handle.Handles.{sound_handle, blank_handle}
use Rattle.mvcc.specs.request.Checks.{active_key, open_by, admit_by}
use Rattle.mvcc.proofs.request.CheckLaws.{open_never, open_ever}
use Rattle.mvcc.specs.declared.begun.Begun.{Begun}
use Rattle.mvcc.specs.admission.Admits.{check_of, Admits}
use Rattle.mvcc.proofs.admission.AdmitLaws.{open_rows}
use Rattle.mvcc.specs.read.Promises.{resumed_by, resume_answer, Resumes}

-- ---- the parts of an answer

module _ (used : ℕ) (h : Handle) where
  handle_by : (fits sound active : Bool) → (resumed_by (admit_by fits sound active) used h).handle ≡ if_done (changed_number (resumed_by (admit_by fits sound active) used h).answer) h blank_handle
  unfolding admit_by
  handle_by true true true = refl
  handle_by true true false = refl
  handle_by true false active = refl
  handle_by false sound active = refl

  stays_by : (fits sound active : Bool) → changed_number (resumed_by (admit_by fits sound active) used h).answer ≡ 0
      → (resumed_by (admit_by fits sound active) used h).answer ≡ Ok (record { len = used })
  unfolding admit_by
  stays_by true true true e = refl
  stays_by true true false e = nope (cc)
  stays_by true false active e = nope (cc)
  stays_by false sound active e = nope (cc)

  bad_by : (fits sound active : Bool) → eqb (changed_number (resumed_by (admit_by fits sound active) used h).answer) 13 ≡ not (pick fits sound false)
  unfolding admit_by
  bad_by true true true = refl
  bad_by true true false = refl
  bad_by true false active = refl
  bad_by false sound active = refl

  never_by : (fits sound : Bool) → eqb (changed_number (resumed_by (admit_by fits sound false) used h).answer) 3 ≡ pick fits sound false
  unfolding admit_by
  never_by true true = refl
  never_by true false = refl
  never_by false sound = refl

  ever_by : (fits sound : Bool) → eqb (changed_number (resumed_by (admit_by fits sound true) used h).answer) 0 ≡ pick fits sound false
  unfolding admit_by
  ever_by true true = refl
  ever_by true false = refl
  ever_by false sound = refl

-- ---- the promise

module _ (log : List ℕ) (used : Used) (t : List ℕ) (h : Handle) {a : Result Mark Refusal} (w : Admits log used t h a) where
  keeps : {r : Begun} → r ≡ resumed_by (check_of a) used.len h → Resumes log used.len t h r
  unfolding resume_answer
  keeps {r} e =
      let f : Bool = fit (length log) used.len (length t) in
      let g : Bool = sound_handle h in
      let live : Bool = has_row (active_key h) (rows log t (mark_of used t)) in
      let q : r ≡ resumed_by (admit_by f g (open_by h live)) used.len h = e ∙ ap (λ (x : Result ⊤ Refusal). resumed_by x used.len h) w.check in
      record {
        handle = rw q (handle_by used.len h f g (open_by h live));
        stays = rw q (stays_by used.len h f g (open_by h live));
        bad = rw q (bad_by used.len h f g (open_by h live));
        never = λ o. ap (λ (x : Begun). eqb (changed_number x.answer) 3) q ∙ rw (open_never h live o) (never_by used.len h f g);
        ever = λ o. ap (λ (x : Begun). eqb (changed_number x.answer) 0) q ∙ rw (open_ever h live o) (ever_by used.len h f g);
        answer = λ z. q ∙ rw (open_rows log used t h z);
      }

  pub resume_refused : (r : Refusal) → a ≡ Err r → Resumes log used.len t h (record { answer = Err r; handle = blank_handle })
  resume_refused r e = keeps (rw e)

  pub resume_done : (m : Mark) → a ≡ Ok m → Resumes log used.len t h (record { answer = Ok used; handle = h })
  resume_done m e = keeps (rw e)
