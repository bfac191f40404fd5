use Rattle.tape.proofs.CallLaws.{used-after, used-writing, used_reading}
use Rattle.tape.proofs.calls.started_used.Goals as goal

pub returns-then-command-eq1 : goal.returns-then-command-eq1
returns-then-command-eq1 c = used-writing c.args.command c.args.answer c.args.used.len c.if-command-eq1.true (used-after c.args.answer c.args.used c.unwrap_or.ensures)

pub returns-else-command-eq1 : goal.returns-else-command-eq1
returns-else-command-eq1 c = used_reading c.args.command c.args.answer c.args.used.len c.if-command-eq1.false
