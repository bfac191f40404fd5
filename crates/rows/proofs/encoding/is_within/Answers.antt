-- `is_within` compares by differences, so that no sum can wrap.
use Rattle.rows.proofs.CheckLaws.{start_past, lies_within}
use Rattle.rows.proofs.encoding.is_within.Goals as goal

pub returns-then-p-texts : goal.returns-then-p-texts
returns-then-p-texts c = lies_within c.args.texts.now c.args.p c.if-p-texts.true

pub returns-else-p-texts : goal.returns-else-p-texts
returns-else-p-texts c = start_past c.args.texts.now c.args.p c.if-p-texts.false
