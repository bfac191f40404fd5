use mathlib.Core.Path.{◌∙◌}
use borrow.Author.Rules.{rules}
use native.Mathlib.Omega.{arith}
use Rattle.mvcc.proofs.snapshot.ActiveLaws.{gather_start, gather_end, gather_stands, gather_bad, gather_more, gather_fits}
use Rattle.mvcc.proofs.snapshot.gather.Goals as goal

pub loop-span-init : goal.loop-span-init
loop-span-init c = gather_start _ _ _ _

pub returns-in_err-version : goal.returns-in_err-version
returns-in_err-version c = c.from_residual.ensures ∙ gather_bad c.loop-span.invariant c.requires c.meet.ensures c.loop-span-test.true c.key_at.ensures c.version_in.ensures (search rules)

pub overflow_add-tally : goal.overflow_add-tally
overflow_add-tally c = let a = c.args in omega (arith, gather_fits a.view.now.log.now a.view.now.table.now a.view.now.mark c.args.view.now.held _ _ c.loop-span.invariant.near (gather_stands c.loop-span.invariant c.requires c.meet.ensures c.loop-span-test.true))

pub loop-span-preserved : goal.loop-span-preserved
loop-span-preserved c = gather_more c.loop-span.invariant c.requires c.meet.ensures c.loop-span-test.true c.key_at.ensures c.version_in.ensures _ c.in_ok-version.was c.with-handle.ensures _ c.next-at.ensures

pub returns : goal.returns
returns c = gather_end c.loop-span.invariant c.requires c.meet.ensures c.loop-span-test.false
