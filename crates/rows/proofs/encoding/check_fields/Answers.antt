use mathlib.Core.Path.{◌≡◌, ◌∙◌}
use Rattle.std.proofs.Common.{rules}
use Rattle.std.specs.Prelude.{Err}
use Rattle.rows.proofs.CheckLaws.{check_end, check_on, check-bad}
use Rattle.rows.proofs.encoding.check_fields.Goals as goal

pub returns-in_err-check_field : goal.returns-in_err-check_field
returns-in_err-check_field c =
    let e : c.from_residual.result ≡ Err c.in_err-check_field.field-0.0 = search rules in
    e ∙ check-bad c.args.texts.now c.args.fields.now c.loop-field.field-index c.loop-field.invariant
    c.loop-field-test.true _ c.check_field.ensures _ c.in_err-check_field.was

pub loop-field-preserved : goal.loop-field-preserved
loop-field-preserved c =
    check_on c.args.texts.now c.args.fields.now c.loop-field.field-index c.loop-field.invariant
    c.loop-field-test.true _ c.check_field.ensures _ c.in_ok-check_field.was

pub returns : goal.returns
returns c =
    check_end c.args.texts.now c.args.fields.now c.loop-field.field-index c.loop-field.invariant
    c.loop-field-test.false
