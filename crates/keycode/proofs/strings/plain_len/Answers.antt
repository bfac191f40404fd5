use mathlib.Core.Path.{ap, ◌∙◌}
use Rattle.std.proofs.Common.{rules, Ok}
use Rattle.keycode.proofs.StringLaws.{at_byte, count_on, count_ill, count-over, count_done, closed_here, bad-here}
use native.Mathlib.Omega.{arith}
use Rattle.keycode.proofs.strings.plain_len.Goals as goal

pub returns-in_default : goal.returns-in_default
returns-in_default c = count_ill c.loop-i.invariant (closed_here c.args.s.now _ c.loop-i.invariant.upto _ c.step_at.ensures (search rules)).0

pub returns-in_default-2 : goal.returns-in_default-2
returns-in_default-2 c = count_ill c.loop-i.invariant ((bad-here c.args.s.now _ c.loop-i.invariant.upto _ c.step_at.ensures _ c.in_default.is).0 c.loop-i-test.true)

pub loop-i-smaller : goal.loop-i-smaller
loop-i-smaller c = let a = at_byte c.args.s.now _ c.loop-i.invariant.upto _ c.step_at.ensures _ _ (c.in-Ok-Some.is ∙ ap Ok c.in-Ok-Some.field-0-is) in omega (arith, (count_on c.loop-i.invariant a).0, a.within)

pub loop-i-preserved : goal.loop-i-preserved
loop-i-preserved c = (count_on c.loop-i.invariant (at_byte c.args.s.now _ c.loop-i.invariant.upto _ c.step_at.ensures _ _ (c.in-Ok-Some.is ∙ ap Ok c.in-Ok-Some.field-0-is))).1

pub returns-then-n-gt-MAX_KEY : goal.returns-then-n-gt-MAX_KEY
returns-then-n-gt-MAX_KEY c = count-over c.loop-i.invariant c.loop-i-test.false c.if-n-gt-MAX_KEY.true

pub returns-else-n-gt-MAX_KEY : goal.returns-else-n-gt-MAX_KEY
returns-else-n-gt-MAX_KEY c = count_done c.loop-i.invariant c.loop-i-test.false c.if-n-gt-MAX_KEY.false
