-- `check_bytes` is 13 where the part reaches past the texts.
use Rattle.rows.proofs.CheckLaws.{bytes_past, bytes_fine}
use Rattle.rows.proofs.encoding.check_bytes.Goals as goal

pub returns-then-is_within : goal.returns-then-is_within
returns-then-is_within c = bytes_fine c.args.texts.now c.args.p _ c.is_within.ensures c.if-is_within.true

pub returns-else-is_within : goal.returns-else-is_within
returns-else-is_within c = bytes_past c.args.texts.now c.args.p _ c.is_within.ensures c.if-is_within.false
