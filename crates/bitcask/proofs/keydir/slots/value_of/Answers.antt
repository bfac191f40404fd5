-- `value_of` hands back a slot's value.
use Rattle.bitcask.proofs.keydir.SlotLaws.{value-is}
use Rattle.bitcask.proofs.keydir.slots.value_of.Goals as goal

pub returns : goal.returns
returns c = value-is c.args.log.now c.args.s c.value_at.ensures.0 c.clip.ensures
