use Rattle.tape.proofs.CallLaws.{begun-writing, begun_reading, begun_as_of}
use Rattle.tape.proofs.calls.begun.Goals as goal

pub returns-then-command-eq1 : goal.returns-then-command-eq1
returns-then-command-eq1 c = begun-writing c.args.log.now c.args.used.len c.args.table.now c.args.command c.args.version c.if-command-eq1.true c.begin.ensures

pub returns-then-command-eq2 : goal.returns-then-command-eq2
returns-then-command-eq2 c = begun_reading c.args.log.now c.args.used.len c.args.table.now c.args.command c.args.version c.if-command-eq1.false c.if-command-eq2.true c.begin_read_only.ensures

pub returns-else-command-eq2 : goal.returns-else-command-eq2
returns-else-command-eq2 c = begun_as_of c.args.log.now c.args.used.len c.args.table.now c.args.command c.args.version c.if-command-eq1.false c.if-command-eq2.false c.begin_as_of.ensures
