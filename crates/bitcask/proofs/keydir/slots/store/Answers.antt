-- `store` lays a slot's words.
use Rattle.bitcask.proofs.keydir.SlotLaws.{store_is}
use Rattle.bitcask.proofs.keydir.slots.store.Goals as goal

pub returns : goal.returns
returns c = store_is c.args.table.now c.args.at c.args.s c.requires
