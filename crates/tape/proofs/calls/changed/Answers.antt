use Rattle.tape.proofs.CallLaws.{set_done, delete_done}
use Rattle.tape.proofs.calls.changed.Goals as goal

pub returns-then-command-eq5 : goal.returns-then-command-eq5
returns-then-command-eq5 c = set_done c.args.log.now c.args.used.len c.args.table.now c.args.command c.args.handle c.args.key.now c.args.value.now c.if-command-eq5.true c.set.ensures

pub returns-else-command-eq5 : goal.returns-else-command-eq5
returns-else-command-eq5 c = delete_done c.args.log.now c.args.used.len c.args.table.now c.args.command c.args.handle c.args.key.now c.args.value.now c.if-command-eq5.false c.delete.ensures
