-- Two results that the promise of as-of admits, where the table agrees with the log, are one. Assumes nothing.
use Prim.Native.Nat.{ℕ}
use mathlib.Core.Path.{◌≡◌, sym, ◌∙◌}
use mathlib.Core.List.{List}
use Rattle.bitcask.specs.recovery.Agree.{Agrees}
use Rattle.mvcc.specs.declared.begun.Begun.{Begun}
use Rattle.mvcc.specs.as_of.Promises.{BeginsAsOf}

pub as_of_unique : {log : List ℕ} {used : ℕ} {t : List ℕ} {v : ℕ} {r r' : Begun} → Agrees log used t → BeginsAsOf log used t v r → BeginsAsOf log used t v r' → r ≡ r'
as_of_unique g w w' = w.answer g ∙ sym (w'.answer g)
