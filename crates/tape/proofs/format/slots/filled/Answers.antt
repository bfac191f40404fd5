-- `filled` looks at a slot's first word.
use mathlib.Core.Path.{refl}
use Rattle.tape.specs.format.Slots.{filled}
use Rattle.tape.proofs.format.slots.filled.Goals as goal

pub returns : goal.returns
unfolding filled
returns c = refl
