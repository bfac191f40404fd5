-- Two results that a promise admits, where the table agrees with the log, are one. Assumes nothing.
use Prim.Native.Nat.{ℕ}
use mathlib.Core.Path.{◌≡◌, sym, ◌∙◌}
use mathlib.Core.List.{List}
use Rattle.std.specs.Prelude.{Result}
use Rattle.mvcc.specs.declared.report.Versions.{Versions}
use Rattle.keycode.specs.declared.refusal.Refusal.{Refusal}
use Rattle.bitcask.specs.recovery.Agree.{Agrees}
use Rattle.mvcc.specs.declared.begun.Begun.{Begun}
use Rattle.mvcc.specs.read_only.Promises.{BeginsReading, States}

pub reading_unique : {log : List ℕ} {used : ℕ} {t : List ℕ} {r r' : Begun} → Agrees log used t → BeginsReading log used t r → BeginsReading log used t r' → r ≡ r'
reading_unique g w w' = w.answer g ∙ sym (w'.answer g)

pub states_unique : {log : List ℕ} {used : ℕ} {t : List ℕ} {r r' : Result Versions Refusal} → Agrees log used t → States log used t r → States log used t r' → r ≡ r'
states_unique g w w' = w.answer g ∙ sym (w'.answer g)
