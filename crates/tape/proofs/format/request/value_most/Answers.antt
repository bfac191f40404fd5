-- `value_most` answers how long a command's value may be.
use Rattle.tape.proofs.format.RequestLaws.{value-used, value_unused}
use Rattle.tape.proofs.format.request.value_most.Goals as goal

pub returns-then-command-eq5 : goal.returns-then-command-eq5
returns-then-command-eq5 c = value-used _ c.if-command-eq5.true

pub returns-else-command-eq5 : goal.returns-else-command-eq5
returns-else-command-eq5 c = value_unused _ c.if-command-eq5.false
