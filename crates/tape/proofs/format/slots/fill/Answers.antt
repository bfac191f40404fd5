-- `fill` lays a handle's words over a slot.
use Rattle.tape.proofs.format.SlotLaws.{fill-laid}
use Rattle.tape.proofs.format.slots.fill.Goals as goal

pub returns : goal.returns
returns c = let a = c.args in fill-laid a.slots.now a.i c.requires.0 c.requires.1 a.handle c.kind_of.ensures c.copy_from_slice.ensures.len c.copy_from_slice.ensures.after
