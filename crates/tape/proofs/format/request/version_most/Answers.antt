-- `version_most` answers how large a command's version may be.
use Rattle.tape.proofs.format.RequestLaws.{version-used, version_unused}
use Rattle.tape.proofs.format.request.version_most.Goals as goal

pub returns-then-command-eq3 : goal.returns-then-command-eq3
returns-then-command-eq3 c = version-used _ c.if-command-eq3.true

pub returns-else-command-eq3 : goal.returns-else-command-eq3
returns-else-command-eq3 c = version_unused _ c.if-command-eq3.false
