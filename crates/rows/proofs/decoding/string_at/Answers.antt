use mathlib.Core.Path.{refl, ap, ◌∙◌}
use native.Mathlib.Omega.{arith}
use Rattle.std.proofs.Common.{rules}
use Rattle.std.specs.Prelude.{Ok}
use Rattle.keycode.proofs.StringLaws.{at_byte, step_on_lem}
use Rattle.rows.proofs.ReadLaws.{step_some, step_none, string_begin, string_next, string_closed, string_bad}
use Rattle.rows.proofs.decoding.string_at.Goals as goal

pub loop-b-init : goal.loop-b-init
loop-b-init c = string_begin c.args.key.now c.args.at _ refl c.requires

pub returns-in_err-b : goal.returns-in_err-b
returns-in_err-b c =
    let n = step_none _ _ c.ok.ensures.value c.in_err-b.was in
    c.from_residual.ensures ∙ string_bad c.loop-b.invariant _ c.step_at.ensures n.0 n.1

pub loop-b-smaller : goal.loop-b-smaller
loop-b-smaller c =
    let a = at_byte c.args.key.now c.loop-b.i c.loop-b.invariant.upto _ c.step_at.ensures _ _
    (step_some _ _ _ c.ok.ensures.value c.in_ok-b.was ∙ ap Ok c.in-Some.is) in
    omega (arith, step_on_lem a, a.within)

pub loop-b-preserved : goal.loop-b-preserved
loop-b-preserved c =
    string_next c.loop-b.invariant _ _ c.feed-state.result
    (at_byte c.args.key.now c.loop-b.i c.loop-b.invariant.upto _ c.step_at.ensures _ _
    (step_some _ _ _ c.ok.ensures.value c.in_ok-b.was ∙ ap Ok c.in-Some.is))
    c.feed-state.ensures

pub returns : goal.returns
returns c =
    string_closed c.loop-b.invariant _ c.step_at.ensures
    (step_some _ _ _ c.ok.ensures.value c.in_ok-b.was ∙ ap Ok (search rules)) _ c.closed.ensures
