-- Two results that a scan step's promise admits, where the table agrees with the log, are one. Assumes nothing.
use Prim.Native.Nat.{ℕ}
use mathlib.Core.Path.{◌≡◌, sym, ◌∙◌}
use mathlib.Core.Bool.{Bool}
use mathlib.Core.List.{List}
use Rattle.std.specs.Prelude.{Result}
use Rattle.bitcask.specs.declared.answers.KeyValue.{KeyValue}
use Rattle.keycode.specs.declared.refusal.Refusal.{Refusal}
use Rattle.bitcask.specs.recovery.Agree.{Agrees}
use Rattle.mvcc.specs.declared.handle.Handle.{Handle}
use Rattle.mvcc.specs.scan.Promises.{Scanning}

-- both steps' promises are this one
pub scans_unique : {log : List ℕ} {used : ℕ} {t : List ℕ} {h : Handle} {short : Bool} {test : List ℕ → Bool} {r r' : Result KeyValue Refusal} → Agrees log used t → Scanning log used t h short test r
    → Scanning log used t h short test r' → r ≡ r'
scans_unique g w w' = w.answer g ∙ sym (w'.answer g)
