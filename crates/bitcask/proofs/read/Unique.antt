-- Two results that the promise of get or scan step admits, where the table agrees with the log, are one. Assumes nothing.
use Prim.Native.Nat.{ℕ}
use mathlib.Core.Path.{◌≡◌, sym, ◌∙◌}
use mathlib.Core.Bool.{Bool}
use mathlib.Core.List.{List}
use Rattle.std.specs.Prelude.{Result}
use Rattle.keycode.specs.declared.parts.Part.{Part}
use Rattle.keycode.specs.declared.refusal.Refusal.{Refusal}
use Rattle.bitcask.specs.declared.answers.KeyValue.{KeyValue}
use Rattle.bitcask.specs.recovery.Agree.{Agrees}
use Rattle.bitcask.specs.declared.answers.Bound.{Bound}
use Rattle.bitcask.specs.read.Promises.{Gets, Steps}

pub gets_unique : {log : List ℕ} {used : ℕ} {t key : List ℕ} {r r' : Result Part Refusal} → Agrees log used t → Gets log used t key r → Gets log used t key r' → r ≡ r'
gets_unique g w w' = w.answer g ∙ sym (w'.answer g)

pub steps_unique : {log : List ℕ} {used : ℕ} {t : List ℕ} {lower : Bound} {low : List ℕ} {upper : Bound} {high : List ℕ} {given : Bool} {last : List ℕ} {r r' : Result KeyValue Refusal}
    → Agrees log used t → Steps log used t lower low upper high given last r → Steps log used t lower low upper high given last r' → r ≡ r'
steps_unique g w w' = w.answer g ∙ sym (w'.answer g)
