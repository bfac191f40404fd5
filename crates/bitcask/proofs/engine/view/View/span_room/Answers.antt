use Rattle.bitcask.specs.engine.Views.{shown}
use Rattle.bitcask.proofs.engine.SpanLaws.{count_start, count_next, count_end, to-rows, here-rows, counted_is}
use Rattle.bitcask.proofs.engine.view.View.span_room.Goals as goal

pub loop-i-init : goal.loop-i-init
loop-i-init c = let a = c.args in count_start (shown a.self.now) a.span.to.number a.room a.span.from.number

pub key_at-key-requires : goal.key_at-key-requires
key_at-key-requires c =
    let a = c.args in let v = a.self.now in
    here-rows (shown v) c.loop-i.i a.span.to.number c.loop-i-test.true (to-rows v.log.now v.table.now v.mark a.span.to c.requires)

pub loop-i-preserved : goal.loop-i-preserved
loop-i-preserved c =
    let a = c.args in let v = a.self.now in
    count_next c.loop-i.invariant (to-rows v.log.now v.table.now v.mark a.span.to c.requires) c.loop-i-test.true c.key_at-key.ensures c.room_after-left.ensures

pub returns : goal.returns
returns c =
    let a = c.args in let v = a.self.now in
    counted_is a.span.from a.span.to (shown v) a.room _ (count_end c.loop-i.invariant (to-rows v.log.now v.table.now v.mark a.span.to c.requires) c.loop-i-test.false)
