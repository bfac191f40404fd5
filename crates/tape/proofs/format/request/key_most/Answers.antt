-- `key_most` answers how long a command's key may be.
use Rattle.tape.proofs.format.RequestLaws.{key-used, key_unused}
use Rattle.tape.proofs.format.request.key_most.Goals as goal

pub returns-then-between : goal.returns-then-between
returns-then-between c = key-used _ c.between.ensures c.if-between.true

pub returns-else-between : goal.returns-else-between
returns-else-between c = key_unused _ c.between.ensures c.if-between.false
