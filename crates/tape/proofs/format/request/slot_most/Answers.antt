-- `slot_most` answers the last slot that a command may name.
use Rattle.tape.proofs.format.RequestLaws.{slot-used, slot_unused}
use Rattle.tape.proofs.format.request.slot_most.Goals as goal

pub returns-then-command-le9 : goal.returns-then-command-le9
returns-then-command-le9 c = slot-used _ c.if-command-le9.true

pub returns-else-command-le9 : goal.returns-else-command-le9
returns-else-command-le9 c = slot_unused _ c.if-command-le9.false
