-- Two results that a promise of the key layer admits are one. Assumes nothing.
use mathlib.Core.Path.{◌≡◌, sym, ap, ◌∙◌}
use mathlib.Core.List.{List, ◌++◌}
use lib.ListN.{length, drop}
use Prim.Native.Nat.{ℕ}
use Rattle.std.specs.Prelude.{Result, ℕ}
use Rattle.keycode.specs.declared.refusal.Refusal.{Refusal}
use Rattle.keycode.specs.Tests.{if_done}
use Rattle.keycode.specs.Refusals.{length_number}
use Rattle.keycode.specs.Promises.{Writes}

-- the six encoders, the search bytes of a prefix, and unescaping
pub writes_unique : {a : Result ℕ Refusal} {e d : List ℕ} {r r' : Result ℕ Refusal} {out out' : List ℕ} → Writes a e d r out → Writes a e d r' out' → (r ≡ r') × (out ≡ out')
writes_unique {e = e} {d = d} w w' =
    let q = w.answer ∙ sym w'.answer in
    (q, w.buffer ∙ ap (λ (x : Result ℕ Refusal). if_done (length_number x) (e ++ drop (length e) d) d) q ∙ sym w'.buffer)

-- comparing, decoding and a prefix's end, whose promise is an equation
pub equation_unique : {A : Type 0} {x y z : A} → x ≡ z → y ≡ z → x ≡ y
equation_unique p q = p ∙ sym q
