-- `key_at`: the key of the row at a spot.
use Rattle.bitcask.proofs.engine.SpotLaws.{spot_within, key-is}
use Rattle.bitcask.proofs.engine.view.View.key_at.Goals as goal

pub slot_at-requires : goal.slot_at-requires
slot_at-requires c = let a = c.args in let v = a.self.now in spot_within v.log.now v.table.now v.mark a.spot v.held c.requires

pub returns : goal.returns
returns c = let a = c.args in let v = a.self.now in key-is v.log.now v.table.now v.mark a.spot v.held c.requires c.slot_at.ensures c.key_of.ensures
