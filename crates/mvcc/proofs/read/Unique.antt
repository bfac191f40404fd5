-- Two results that a promise admits, where the table agrees with the log, are one. Assumes nothing.
use Prim.Native.Nat.{ℕ}
use mathlib.Core.Path.{◌≡◌, sym, ◌∙◌}
use mathlib.Core.List.{List}
use Rattle.std.specs.Prelude.{Result}
use Rattle.keycode.specs.declared.parts.Part.{Part}
use Rattle.keycode.specs.declared.refusal.Refusal.{Refusal}
use Rattle.bitcask.specs.recovery.Agree.{Agrees}
use Rattle.mvcc.specs.declared.handle.Handle.{Handle}
use Rattle.mvcc.specs.declared.begun.Begun.{Begun}
use Rattle.mvcc.specs.read.Promises.{Gets, Resumes}

pub gets_unique : {log : List ℕ} {used : ℕ} {t : List ℕ} {h : Handle} {key : List ℕ} {r r' : Result Part Refusal} → Agrees log used t → Gets log used t h key r → Gets log used t h key r' → r ≡ r'
gets_unique g w w' = w.answer g ∙ sym (w'.answer g)

pub resumes_unique : {log : List ℕ} {used : ℕ} {t : List ℕ} {h : Handle} {r r' : Begun} → Agrees log used t → Resumes log used t h r → Resumes log used t h r' → r ≡ r'
resumes_unique g w w' = w.answer g ∙ sym (w'.answer g)
