use mathlib.Core.Path.{sym, ap, ◌∙◌}
use Rattle.std.proofs.Common.{rules, Ok}
use Rattle.keycode.proofs.StringLaws.{at_byte, byte_length, scan_over, scan_on, closed_here, bad-here}
use native.Mathlib.Omega.{arith}
use Rattle.keycode.proofs.strings.scan.Goals as goal

pub returns-in_err-j : goal.returns-in_err-j
returns-in_err-j c = rw (c.loop-j.invariant.2, (bad-here c.args.s.now _ c.loop-j.invariant.1 _ c.step_at.ensures _ (c.in_err-j.was)).1 c.loop-j.left) (search rules)

pub overflow_sub-result : goal.overflow_sub-result
overflow_sub-result c = let a = at_byte c.args.s.now _ c.loop-j.invariant.1 _ c.step_at.ensures _ _ (c.in_ok-j.was ∙ ap Ok c.in-Some.is) in omega (arith, a.next, (byte_length c.in-Some.field-0-0).0)

pub returns-then-left-eq0 : goal.returns-then-left-eq0
returns-then-left-eq0 c = sym (c.loop-j.invariant.2 ∙ scan_over (at_byte c.args.s.now _ c.loop-j.invariant.1 _ c.step_at.ensures _ _ (c.in_ok-j.was ∙ ap Ok c.in-Some.is)) _ c.if-left-eq0.true)

pub loop-j-smaller : goal.loop-j-smaller
loop-j-smaller c = let a = at_byte c.args.s.now _ c.loop-j.invariant.1 _ c.step_at.ensures _ _ (c.in_ok-j.was ∙ ap Ok c.in-Some.is) in omega (arith, a.next, a.within, (byte_length c.in-Some.field-0-0).0)

pub loop-j-preserved : goal.loop-j-preserved
loop-j-preserved c =
    let a = at_byte c.args.s.now _ c.loop-j.invariant.1 _ c.step_at.ensures _ _ (c.in_ok-j.was ∙ ap Ok c.in-Some.is) in
    (omega (arith, a.next), a.within, c.loop-j.invariant.2 ∙ scan_on a _ c.if-left-eq0.false)

pub returns : goal.returns
returns c = sym (c.loop-j.invariant.2 ∙ (closed_here c.args.s.now _ c.loop-j.invariant.1 _ c.step_at.ensures (search rules)).1 _)
