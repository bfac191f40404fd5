use Rattle.bitcask.proofs.engine.EndLaws.{lay_start, lay-next, lay_end}
use native.Mathlib.Omega.{arith}
use Rattle.bitcask.proofs.engine.ending.lay_tombs.Goals as goal

pub loop-i-init : goal.loop-i-init
loop-i-init c = let a = c.args in lay_start a.log.now a.table.now a.mark.used.len a.from a.to c.requires.0.within

pub slot_at-requires : goal.slot_at-requires
slot_at-requires c = omega (arith, c.requires.1, c.requires.0.room)

pub tomb_at-at-requires : goal.tomb_at-at-requires
tomb_at-at-requires c = (omega (arith, c.loop-i.invariant.within, c.loop-i.invariant.long), omega (arith, c.loop-i.invariant.long, c.requires.0.small))

pub loop-i-preserved : goal.loop-i-preserved
loop-i-preserved c = lay-next c.loop-i.invariant c.loop-i-test.true c.slot_at.ensures c.tomb_at-at.ensures.0 c.tomb_at-at.auto.log c.tomb_at-at.ensures.1

pub shape_of-log : goal.shape_of-log
shape_of-log c = c.loop-i.invariant.long

pub returns : goal.returns
returns c = lay_end c.loop-i.invariant c.loop-i-test.false c.args.mark.count c.requires.1
