-- `slot_at` reads a slot's words.
use Rattle.bitcask.proofs.keydir.SlotLaws.{slot_read}
use Rattle.bitcask.proofs.keydir.slots.slot_at.Goals as goal

pub returns : goal.returns
returns c = slot_read c.args.table.now c.args.i
