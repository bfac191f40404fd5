-- `offset_at`: 8 before the key.
use Rattle.bitcask.proofs.engine.SpotLaws.{spot_within, offset_is}
use Rattle.bitcask.proofs.engine.view.View.offset_at.Goals as goal

pub slot_at-requires : goal.slot_at-requires
slot_at-requires c = let v = c.args.self.now in spot_within v.log.now v.table.now v.mark c.args.spot v.held c.requires

pub returns : goal.returns
returns c =
    let v = c.args.self.now in
    offset_is v.log.now v.table.now v.mark c.args.spot v.held c.requires c.slot_at.ensures c.saturating_sub.ensures
