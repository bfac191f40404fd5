-- `key_of` hands back a slot's key.
use Rattle.bitcask.proofs.keydir.SlotLaws.{key-is}
use Rattle.bitcask.proofs.keydir.slots.key_of.Goals as goal

pub returns : goal.returns
returns c = key-is c.args.log.now c.args.s c.key_at.ensures.0 c.clip.ensures
