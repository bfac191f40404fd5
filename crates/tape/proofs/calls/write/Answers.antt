use Rattle.tape.proofs.CallLaws.{used-after, write_lays}
use Rattle.tape.proofs.calls.write.Goals as goal

pub returns : goal.returns
returns c = write_lays c.args.out.now c.args.handle c.args.command c.args.key.now c.args.value.now _ c.changed-answer.ensures (used-after c.changed-answer.result c.args.used c.unwrap_or.ensures) c.answer_changed.ensures
