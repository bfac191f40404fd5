use Rattle.tape.proofs.CallLaws.{commit_done, rollback_done}
use Rattle.tape.proofs.calls.ended.Goals as goal

pub returns-then-command-eq8 : goal.returns-then-command-eq8
returns-then-command-eq8 c = commit_done c.args.log.now c.args.used.len c.args.table.now c.args.command c.args.handle c.if-command-eq8.true c.commit.ensures

pub returns-else-command-eq8 : goal.returns-else-command-eq8
returns-else-command-eq8 c = rollback_done c.args.log.now c.args.used.len c.args.table.now c.args.command c.args.handle c.if-command-eq8.false c.rollback.ensures
