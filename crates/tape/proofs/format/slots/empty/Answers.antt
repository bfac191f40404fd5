-- `empty` lays zeros over a slot.
use Rattle.tape.proofs.format.SlotLaws.{empty-laid}
use Rattle.tape.proofs.format.slots.empty.Goals as goal

pub returns : goal.returns
returns c = let a = c.args in empty-laid a.slots.now a.i c.requires.0 c.requires.1 (c.fill.ensures.after (λ y e. e))
