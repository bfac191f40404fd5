use mathlib.Core.Path.{◌∙◌}
use Rattle.rows.proofs.EncodeLaws.{row_on, row_short, row_left}
use Rattle.rows.proofs.encoding.row_room.Goals as goal

pub returns-in_err-left : goal.returns-in_err-left
returns-in_err-left c =
    c.from_residual.ensures ∙ row_short c.args.texts.now c.args.fields.now c.loop-field.field-index c.loop-field-test.true
    c.args.room c.loop-field.left c.loop-field.invariant _ c.field_room.ensures c.in_err-left.was

pub loop-field-preserved : goal.loop-field-preserved
loop-field-preserved c =
    row_on c.args.texts.now c.args.fields.now c.loop-field.field-index c.loop-field-test.true
    c.args.room c.loop-field.left c.loop-field.invariant _ c.field_room.ensures _ c.in_ok-left.was

pub returns : goal.returns
returns c =
    row_left c.args.texts.now c.args.fields.now c.loop-field.field-index c.args.room c.loop-field.left
    c.loop-field-test.false c.loop-field.invariant
