-- Theorem: the handle of a transaction that has ended meets 3 in every call. Assumes nothing.
use Prim.Native.Nat.{ℕ}
use mathlib.Core.Path.{◌≡◌, refl, ◌∙◌, ap}
use mathlib.Core.Bool.{Bool, true, false, ◌||◌}
use mathlib.Core.Logic.{◌≢◌}
use mathlib.Core.List.{List, ◌∷◌}
use lib.Dec.{leb}
use lib.ListN.{length}
use Rattle.std.specs.Prelude.{Result, Err}
use Rattle.bitcask.specs.declared.request.Used.{Used}
use Rattle.keycode.specs.declared.refusal.Refusal.{Refusal}
use Rattle.keycode.specs.declared.parts.Part.{Part}
use Rattle.bitcask.specs.declared.answers.KeyValue.{KeyValue}
use Rattle.keycode.specs.Limits.{max_key, max_value}
use Rattle.keycode.specs.declared.refusal.Refusal.TheVariants.{NotOpen}
use Rattle.keycode.specs.key.Keys.{txn_active}
use Rattle.bitcask.specs.recovery.Agree.{fit}
use Rattle.mvcc.specs.declared.handle.Handle.{Handle}
use Rattle.mvcc.specs.handle.Handles.{sound_handle}
use Rattle.mvcc.specs.declared.begun.Begun.{Begun}
use Rattle.mvcc.specs.request.Given.{refused_by}
use Rattle.mvcc.specs.request.Checks.{admit_by, open_in}
use Rattle.mvcc.specs.read.Promises.{get_answer, Gets, resume_answer, Resumes}
use Rattle.mvcc.specs.write.Writes.{allow_by}
use Rattle.mvcc.specs.write.Promises.{Writes, write_answer}
use Rattle.mvcc.specs.scan.Promises.{keys_by, scan_answer, Scanning}
use Rattle.mvcc.specs.end.Promises.{Commits, commit_answer, RollsBack, rollback_answer}
use Rattle.isolation.specs.history.History.{Status, unborn, opened, done, rolled, status, is_open}
use Rattle.isolation.specs.history.Records.{Map, look}
use Rattle.isolation.specs.history.Store.{is_some}
use Rattle.isolation.proofs.history.RunLaws.{run_open, begin_own}
use Rattle.isolation.specs.records.Stored.{sight_of}
use Rattle.isolation.proofs.records.OrderLaws.{order}
use Rattle.mvcc.specs.world.World.{World, Calls, begins}
use Rattle.mvcc.specs.world.Runs.{After, Gave, by_begin}
use Rattle.isolation.specs.Meaning.{meaning}
use Rattle.isolation.proofs.GivenLaws.{began_trace}
use Rattle.isolation.proofs.KeptLaws.{Sound, Kept, Ready}
use Rattle.isolation.proofs.OpenLaws.{open_usable}

-- ---- ended

not_open_lem : (s : Status) → s ≢ opened → is_open s ≡ false
not_open_lem unborn n = refl
not_open_lem opened n = absurd (n refl)
not_open_lem done n = refl
not_open_lem rolled n = refl

-- the first checks of a sound request with a handle that is not open
refused_by_lem : (f g o : Bool) → f ≡ true → g ≡ true → o ≡ false → admit_by f g o ≡ Err NotOpen
unfolding admit_by
refused_by_lem f g o p q i = rw (p, q, i)

refused_write : (f g ro o short small : Bool) → f ≡ true → g ≡ true → ro ≡ false → o ≡ false → allow_by f g ro o short small ≡ Err NotOpen
unfolding allow_by
refused_write f g ro o short small p q i j = rw (p, q, i, j)

module _ {w : World} {T T₁ : Calls} {m : Map} (k : Kept w T m) (a : Ready w) {x : Begun} {h : Handle} (f : After (begins x ∷ T₁) T) (g : Gave x h)
    (n : status (meaning T) h.version ≢ opened) where
  sound : Sound h
  sound = k.handles h (by_begin f g)

  own : h.read_only ≡ false
  own = begin_own order k.run (sight_of h) (began_trace x g f)

  closed : open_in w.log w.used h ≡ false
  closed =
      open_usable k sound ∙ ap (λ (b : Bool). b || is_some (look m (txn_active h.version))) own
      ∙ run_open order k.run h.version ∙ not_open_lem (status (meaning T) h.version) n

  check : admit_by (fit (length w.log) w.used (length w.table)) (sound_handle h) (open_in w.log w.used h) ≡ Err NotOpen
  check = refused_by_lem (fit (length w.log) w.used (length w.table)) (sound_handle h) (open_in w.log w.used h) a.sound sound.sound closed

  pub ended-gets : {key : List ℕ} {r : Result Part Refusal} → Gets w.log w.used w.table h key r → r ≡ Err NotOpen
  unfolding get_answer
  ended-gets b = b.answer a ∙ rw check

  pub ended-scans : {short : Bool} {test : List ℕ → Bool} {r : Result KeyValue Refusal} → Scanning w.log w.used w.table h short test r → r ≡ Err NotOpen
  unfolding scan_answer keys_by
  ended-scans b = b.answer a ∙ rw check

  pub ended-resumes : {r : Begun} → Resumes w.log w.used w.table h r → r ≡ refused_by NotOpen
  unfolding resume_answer
  ended-resumes b = b.answer a ∙ rw check

  pub ended-writes : {key payload : List ℕ} {size : ℕ} {r : Result Used Refusal} {log t : List ℕ} → Writes w.log w.used w.table h key payload size r log t → r ≡ Err NotOpen
  unfolding write_answer
  ended-writes {key} {payload} {size} b =
      b.answer a
      ∙ rw (refused_write (fit (length w.log) w.used (length w.table)) (sound_handle h) h.read_only (open_in w.log w.used h) (leb (length key) max_key) (leb size max_value) a.sound sound.sound own closed)

  pub ended-commits : {r : Result Used Refusal} {log t : List ℕ} → Commits w.log w.used w.table h r log t → r ≡ Err NotOpen
  unfolding commit_answer
  ended-commits b = b.answer a ∙ rw check

  pub ended_rolls : {r : Result Used Refusal} {log t : List ℕ} → RollsBack w.log w.used w.table h r log t → r ≡ Err NotOpen
  unfolding rollback_answer
  ended_rolls b = b.answer a ∙ rw check
