-- `between` tests a command against two ends.
use Rattle.tape.proofs.format.RequestLaws.{between-below, between-from}
use Rattle.tape.proofs.format.request.between.Goals as goal

pub returns-then-low-command : goal.returns-then-low-command
returns-then-low-command c = between-from _ _ _ c.if-low-command.true

pub returns-else-low-command : goal.returns-else-low-command
returns-else-low-command c = between-below _ _ _ c.if-low-command.false
