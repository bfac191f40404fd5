-- `step_at` tells what stands at an index.
use Rattle.keycode.proofs.StringLaws.{step_past, step_other, step-last, step_closed, step-zero, step-bad}
use Rattle.keycode.proofs.strings.step_at.Goals as goal

pub returns-then-s-i : goal.returns-then-s-i
returns-then-s-i c = step_past c.args.s.now _ c.if-s-i.true

pub returns-then-x-ne0 : goal.returns-then-x-ne0
returns-then-x-ne0 c = step_other c.args.s.now _ c.if-s-i.false c.if-x-ne0.true

pub returns-then-s-j : goal.returns-then-s-j
returns-then-s-j c = step-last c.args.s.now _ c.if-s-i.false c.if-x-ne0.false c.if-s-j.true

pub returns-then-y-eq0 : goal.returns-then-y-eq0
returns-then-y-eq0 c = step_closed c.args.s.now _ c.if-s-i.false c.if-x-ne0.false c.if-s-j.false c.if-y-eq0.true

pub returns-then-y : goal.returns-then-y
returns-then-y c = step-zero c.args.s.now _ c.if-s-i.false c.if-x-ne0.false c.if-s-j.false c.if-y.true

pub returns-else-y : goal.returns-else-y
returns-else-y c = step-bad c.args.s.now _ c.if-s-i.false c.if-x-ne0.false c.if-s-j.false c.if-y-eq0.false c.if-y.false
