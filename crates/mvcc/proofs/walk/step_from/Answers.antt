use mathlib.Core.Path.{refl}
use Rattle.mvcc.proofs.walk.WalkLaws.{walk_end, walk_stands, walk_less, walk_over, walk_more}
use Rattle.mvcc.proofs.walk.step_from.Goals as goal

pub loop-p-init : goal.loop-p-init
loop-p-init c = record { same = refl }

pub record_at-row-requires : goal.record_at-row-requires
record_at-row-requires c = (walk_stands c.loop-p.invariant c.row_from.ensures _ c.in-Some.is)

pub returns-then-is_over : goal.returns-then-is_over
returns-then-is_over c = walk_over c.loop-p.invariant c.row_from.ensures _ c.in-Some.is c.record_at-row.ensures c.next-walk.ensures c.is_over.ensures c.if-is_over.true c.answer.ensures

pub next-at-requires : goal.next-at-requires
next-at-requires c = (walk_stands c.loop-p.invariant c.row_from.ensures _ c.in-Some.is)

pub loop-p-smaller : goal.loop-p-smaller
loop-p-smaller c = walk_less c.loop-p.invariant c.row_from.ensures _ c.in-Some.is _ c.next-at.ensures

pub loop-p-preserved : goal.loop-p-preserved
loop-p-preserved c = walk_more c.loop-p.invariant c.row_from.ensures _ c.in-Some.is c.record_at-row.ensures c.next-walk.ensures _ c.next-at.ensures

pub returns : goal.returns
returns c = walk_end c.loop-p.invariant c.row_from.ensures c.in_default.is c.answer-2.ensures
