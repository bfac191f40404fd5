-- `value_at`: the value of the row at a spot.
use Rattle.bitcask.proofs.engine.SpotLaws.{spot_within, value-is}
use Rattle.bitcask.proofs.engine.view.View.value_at.Goals as goal

pub slot_at-requires : goal.slot_at-requires
slot_at-requires c = let a = c.args in let v = a.self.now in spot_within v.log.now v.table.now v.mark a.spot v.held c.requires

pub returns : goal.returns
returns c = let a = c.args in let v = a.self.now in value-is v.log.now v.table.now v.mark a.spot v.held c.requires c.slot_at.ensures c.value_of.ensures
