-- Two results that a promise of an exported function admits are one. Assumes nothing.
use Prim.Native.Nat.{ℕ}
use mathlib.Core.Path.{◌≡◌, sym, ◌∙◌}
use mathlib.Core.List.{List}
use native.Mathlib.Omega.{arith}
use Rattle.std.specs.Prelude.{Result, ℕ}
use Rattle.keycode.specs.declared.refusal.Refusal.{Refusal}
use Rattle.host.specs.Answers.{Tells}
use Rattle.host.specs.Promises.{Gives, Opens}

tells_unique : {a : Result ℕ Refusal} {r r' : ℕ} → Tells a r → Tells a r' → r ≡ r'
tells_unique t t' = omega (arith, t.number, t.value, t'.number, t'.value)

-- the six encodings, decoding and unescaping
pub gives_unique : {a : Result ℕ Refusal} {e d : List ℕ} {r r' : ℕ} {out out' : List ℕ} → Gives a e d r out → Gives a e d r' out' → (r ≡ r') × (out ≡ out')
gives_unique g g' = (tells_unique g.answer g'.answer, g.buffer ∙ sym g'.buffer)

pub opens_unique : {log : List ℕ} {used : ℕ} {t : List ℕ} {r r' : ℕ} {x x' : List ℕ} → Opens log used t r x → Opens log used t r' x' → (r ≡ r') × (x ≡ x')
opens_unique o o' = (tells_unique o.answer o'.answer, o.table ∙ sym o'.table)
