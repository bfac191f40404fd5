-- `order_at` compares a slot's key with a key.
use Rattle.bitcask.proofs.keydir.PlaceLaws.{order_is}
use Rattle.host.proofs.place.order_at.Goals as goal

pub returns : goal.returns
returns g c =
    let a = c.args in
    order_is a.log.now a.key.now (g.E.Element.words a.table.now) a.count a.i c.requires.0 c.slot_at.ensures c.key_of.ensures c.compare.ensures
