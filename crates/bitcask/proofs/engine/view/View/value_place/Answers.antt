-- `value_place`: where the row shows its value, cut where the log ends.
use Rattle.bitcask.proofs.engine.SpotLaws.{spot_within, value_place_is}
use Rattle.bitcask.proofs.engine.view.View.value_place.Goals as goal

pub slot_at-s-requires : goal.slot_at-s-requires
slot_at-s-requires c = let a = c.args in let v = a.self.now in spot_within v.log.now v.table.now v.mark a.spot v.held c.requires

pub returns : goal.returns
returns c = let a = c.args in let v = a.self.now in value_place_is v.log.now v.table.now v.mark a.spot v.held c.requires c.slot_at-s.ensures c.key_at.ensures.0 c.key_at.ensures.1 c.key_of-key.ensures c.value_of-value.ensures
