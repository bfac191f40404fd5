-- Two results that the promise of opening admits are one. Assumes nothing.
use Prim.Native.Nat.{ℕ}
use mathlib.Core.Path.{◌≡◌, sym, ◌∙◌}
use mathlib.Core.List.{List}
use Rattle.std.specs.Prelude.{Result}
use Rattle.bitcask.specs.declared.request.Used.{Used}
use Rattle.keycode.specs.declared.refusal.Refusal.{Refusal}
use Rattle.bitcask.specs.recovery.Promises.{Opens}

pub opens_unique : {log : List ℕ} {used : ℕ} {t : List ℕ} {r r' : Result Used Refusal} {x x' : List ℕ} → Opens log used t r x → Opens log used t r' x' → (r ≡ r') × (x ≡ x')
opens_unique o o' = (o.answer ∙ sym o'.answer, o.table ∙ sym o'.table)
