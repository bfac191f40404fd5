-- What was tried, by what `ok_or` or `ok` made of it. Assumes nothing.
use mathlib.Core.Path.{◌≡◌}
use Rattle.std.specs.Prelude.{Option, None, Some, Result, Ok, Err}
use Rattle.std.specs.Option.{ok_or}
use Rattle.std.specs.Result.{result_ok}
use Rattle.keycode.proofs.Basics.{nope}

module _ {A E : Type 0} where
  pub or_value : (o : Option A) (e : E) {r : Result A E} → r ≡ ok_or o e → (x : A) → r ≡ Ok x → o ≡ Some x
  or_value None e says x q = nope (cc)
  or_value (Some y) e says x q = cc

  pub or_none : (o : Option A) (e : E) {r : Result A E} → r ≡ ok_or o e → (y : E) → r ≡ Err y → (o ≡ None) × (y ≡ e)
  or_none None e says y q = (cc, cc)
  or_none (Some x) e says y q = nope (cc)

  pub ok_value : (d : Result A E) {o : Option A} → o ≡ result_ok d → (x : A) → o ≡ Some x → d ≡ Ok x
  ok_value (Ok y) says x q = cc
  ok_value (Err e) says x q = nope (cc)
