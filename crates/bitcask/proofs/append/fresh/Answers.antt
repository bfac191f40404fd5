-- `fresh`: a key that has a slot wants none.
use Prim.Native.Nat.{ℕ}
use mathlib.Core.Path.{◌≡◌, refl, ap, ◌∙◌}
use mir.Val.{bool_byte}
use Rattle.std.specs.Prelude.{Result, Ok, Err}
use Rattle.std.specs.Result.{is_err}
use Rattle.bitcask.specs.keydir.Slots.{slots_of}
use Rattle.bitcask.specs.change.Append.{wants}
use Rattle.bitcask.proofs.change.AppendLaws.{fresh_is}
use Rattle.bitcask.proofs.append.fresh.Goals as goal

as_number : (f : Result ℕ ℕ) → bool_byte (is_err f) ≡ wants f
as_number (Ok i) = refl
as_number (Err i) = refl

pub returns : goal.returns
returns c =
    let a = c.args in
    c.from.ensures ∙ ap bool_byte c.is_err.ensures.value ∙ as_number c.find.result ∙ fresh_is a.log.now a.key.now (slots_of a.count a.table.now) _ c.find.ensures
