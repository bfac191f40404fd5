use mathlib.Core.Path.{ap, ◌∙◌}
use Rattle.std.proofs.Common.{rules, Ok}
use Rattle.keycode.proofs.BufferLaws.{lay_end}
use Rattle.keycode.proofs.StringLaws.{at_byte, step_on_lem, unescape_on, unescape_bad, closed_here, never}
use native.Mathlib.Omega.{arith}
use Rattle.keycode.proofs.strings.unescape_into.Goals as goal

pub bounds-out-o : goal.bounds-out-o
bounds-out-o c = (unescape_on (at_byte c.args.s.now _ c.loop-b.invariant.0 _ c.step_at.ensures _ _ (c.in-Ok-Some.is ∙ ap Ok c.in-Ok-Some.field-0-is)) c.loop-b.invariant.2 c.loop-b.invariant.1).0

pub loop-b-smaller : goal.loop-b-smaller
loop-b-smaller c = let a = at_byte c.args.s.now _ c.loop-b.invariant.0 _ c.step_at.ensures _ _ (c.in-Ok-Some.is ∙ ap Ok c.in-Ok-Some.field-0-is) in omega (arith, a.within, step_on_lem a)

pub loop-b-preserved : goal.loop-b-preserved
loop-b-preserved c =
    let a = at_byte c.args.s.now _ c.loop-b.invariant.0 _ c.step_at.ensures _ _ (c.in-Ok-Some.is ∙ ap Ok c.in-Ok-Some.field-0-is) in
    let q = unescape_on a c.loop-b.invariant.2 c.loop-b.invariant.1 in (a.within, q.2, q.1)

pub returns-in_default : goal.returns-in_default
returns-in_default c = never c.loop-b.invariant.1 (closed_here c.args.s.now _ c.loop-b.invariant.0 _ c.step_at.ensures (search rules)).0

pub returns-in_default-2 : goal.returns-in_default-2
returns-in_default-2 c = (lay_end c.loop-b.invariant.2 (unescape_bad c.args.s.now _ c.loop-b.invariant.0 c.loop-b.invariant.1 _ c.step_at.ensures _ c.in_default.is)).1
