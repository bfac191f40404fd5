-- `field_room` takes the length of the variant's bytes.
use Rattle.rows.proofs.EncodeLaws.{bytes-string, flag_long, word_long, field_left, as_left}
use Rattle.rows.proofs.encoding.field_room.Goals as goal

pub returns-in-Flag : goal.returns-in-Flag
returns-in-Flag c =
    field_left c.args.texts.now c.args.field 1 c.args.left _
    (flag_long c.args.texts.now c.args.field _ c.in-Flag.is) c.checked_sub.ensures

pub returns-in-U64 : goal.returns-in-U64
returns-in-U64 c =
    field_left c.args.texts.now c.args.field 8 c.args.left _
    (word_long c.args.texts.now c.args.field c.in-U64.is) c.checked_sub-in-U64.ensures

pub returns-in-Bytes : goal.returns-in-Bytes
returns-in-Bytes c =
    as_left _ _ (bytes-string c.args.texts.now c.args.field c.in-Bytes.p _ c.in-Bytes.is c.clip.ensures)
    0 c.args.left _ c.string_room.ensures
