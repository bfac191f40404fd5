use Rattle.bitcask.proofs.compaction.MoveLaws.{moving_start, moving_room, moving_more, moving_end}
use Rattle.bitcask.proofs.compaction.move_all.Goals as goal

pub loop-i-init : goal.loop-i-init
loop-i-init c = moving_start _ _ _ _

pub move_slot-to-requires : goal.move_slot-to-requires
move_slot-to-requires c = let a = c.args in moving_room a.log.now a.table.now a.target.now a.count c.loop-i.invariant c.requires.0 c.requires.1 c.loop-i-test.true c.requires.2

pub loop-i-preserved : goal.loop-i-preserved
loop-i-preserved c = let a = c.args in moving_more a.log.now a.table.now a.target.now a.count c.loop-i.invariant c.requires.0 c.requires.1 c.loop-i-test.true c.move_slot-to.ensures

pub returns : goal.returns
returns c = let a = c.args in moving_end a.log.now a.table.now a.target.now a.count c.loop-i.invariant c.requires.0 c.requires.1 c.loop-i-test.false
