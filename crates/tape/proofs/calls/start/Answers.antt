use Rattle.tape.proofs.CallLaws.{start_lays}
use Rattle.tape.proofs.calls.start.Goals as goal

pub returns : goal.returns
returns c = start_lays c.args.out.now c.args.slots.now c.args.q _ c.fill_given.ensures.1 c.begun-answer.ensures c.started_used.ensures c.fill_given.ensures.0 c.answer_given.ensures
