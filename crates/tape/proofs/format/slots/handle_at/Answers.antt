-- `handle_at` reads a slot's words.
use Rattle.tape.proofs.format.SlotLaws.{handle_read}
use Rattle.tape.proofs.format.slots.handle_at.Goals as goal

pub returns : goal.returns
returns c = let a = c.args in handle_read a.slots.now a.i c.requires.0 c.requires.1 c.copy_from_slice.ensures.after
