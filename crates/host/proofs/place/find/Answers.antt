use Rattle.bitcask.specs.keydir.Slots.{slots_of}
use Rattle.bitcask.specs.keydir.Place.{order_at}
use Rattle.bitcask.proofs.keydir.HalveLaws.{halving_start, halving_up, halving_at, halving_down, halving_end}
use Rattle.bitcask.proofs.keydir.PlaceLaws.{place_is}
use Rattle.host.proofs.place.find.Goals as goal

pub loop-low-init : goal.loop-low-init
loop-low-init g c = let a = c.args in halving_start (order_at a.log.now a.key.now (slots_of a.count (g.E.Element.words a.table.now))) a.count

pub loop-low-preserved-in-Less : goal.loop-low-preserved-in-Less
loop-low-preserved-in-Less g c = halving_up c.loop-low.invariant c.loop-low-test.true c.order_at-o.ensures c.in-Less.is

pub returns-in-Equal : goal.returns-in-Equal
returns-in-Equal g c =
    let a = c.args in
    place_is a.log.now a.key.now (g.E.Element.words a.table.now) a.count (halving_at c.loop-low.invariant c.loop-low-test.true c.order_at-o.ensures c.in-Equal.is)

pub loop-low-preserved : goal.loop-low-preserved
loop-low-preserved g c = halving_down c.loop-low.invariant c.loop-low-test.true c.order_at-o.ensures c.in-Greater.is

pub returns : goal.returns
returns g c =
    let a = c.args in
    place_is a.log.now a.key.now (g.E.Element.words a.table.now) a.count (halving_end c.loop-low.invariant c.loop-low-test.false)
