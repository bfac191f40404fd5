use Rattle.rows.proofs.EncodeLaws.{put-room, put_on, put_end}
use Rattle.rows.proofs.encoding.put_row.Goals as goal

pub put_field-at-requires : goal.put_field-at-requires
put_field-at-requires c =
    put-room c.args.texts.now c.args.fields.now c.loop-field.field-index c.loop-field-test.true c.loop-field.invariant

pub loop-field-preserved : goal.loop-field-preserved
loop-field-preserved c =
    put_on c.args.texts.now c.args.fields.now c.loop-field.field-index c.loop-field-test.true
    c.loop-field.invariant _ _ c.put_field-at.ensures

pub returns : goal.returns
returns c =
    put_end c.args.texts.now c.args.fields.now c.loop-field.field-index c.loop-field-test.false c.loop-field.invariant
