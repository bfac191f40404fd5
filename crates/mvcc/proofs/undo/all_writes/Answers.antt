use Rattle.bitcask.specs.engine.Views.{shown}
use Rattle.mvcc.proofs.undo.UndoStepLaws.{test_start, test_end, test_stands, test_bad, test_next, test_less}
use Rattle.mvcc.proofs.undo.all_writes.Goals as goal

pub loop-span-init : goal.loop-span-init
loop-span-init c = let a = c.args in test_start (shown a.view.now) a.span.from a.span.to c.requires

pub key_at-requires : goal.key_at-requires
key_at-requires c = (test_stands c.loop-span.invariant c.meet.ensures c.loop-span-test.true)

pub returns-then-not-is_write : goal.returns-then-not-is_write
returns-then-not-is_write c = test_bad c.loop-span.invariant c.meet.ensures c.loop-span-test.true c.key_at.ensures c.is_write.ensures c.if-not-is_write.true

pub next-at-requires : goal.next-at-requires
next-at-requires c = (test_stands c.loop-span.invariant c.meet.ensures c.loop-span-test.true)

pub loop-span-smaller : goal.loop-span-smaller
loop-span-smaller c = test_less c.loop-span.invariant c.meet.ensures c.loop-span-test.true c.key_at.ensures c.is_write.ensures c.if-not-is_write.false _ c.next-at.ensures

pub loop-span-preserved : goal.loop-span-preserved
loop-span-preserved c = test_next c.loop-span.invariant c.meet.ensures c.loop-span-test.true c.key_at.ensures c.is_write.ensures c.if-not-is_write.false _ c.next-at.ensures

pub returns : goal.returns
returns c = test_end c.loop-span.invariant c.meet.ensures c.loop-span-test.false
