use Rattle.bitcask.proofs.compaction.LiveLaws.{sum_start, sum_end, sum_over, sum_more}
use Rattle.bitcask.proofs.report.live_upto.Goals as goal

pub loop-i-init : goal.loop-i-init
loop-i-init c = sum_start _ _ _

pub returns-then-cap-total : goal.returns-then-cap-total
returns-then-cap-total c = sum_over c.loop-i.invariant _ c.loop-i-test.true c.slot_at-s.ensures c.entry_bytes-n.ensures.0 c.if-cap-total.true

pub loop-i-preserved : goal.loop-i-preserved
loop-i-preserved c = sum_more c.loop-i.invariant _ c.loop-i-test.true c.slot_at-s.ensures c.entry_bytes-n.ensures.0 c.if-cap-total.false

pub returns : goal.returns
returns c = sum_end c.loop-i.invariant c.loop-i-test.false
