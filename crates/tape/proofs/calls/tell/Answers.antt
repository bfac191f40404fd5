use Rattle.tape.proofs.CallLaws.{tell_lays}
use Rattle.tape.proofs.calls.tell.Goals as goal

pub returns : goal.returns
returns c = tell_lays c.args.out.now c.status.ensures c.answer_counted.ensures
