use Rattle.tape.proofs.CallLaws.{used-after, end_lays}
use Rattle.tape.proofs.calls.end.Goals as goal

pub returns : goal.returns
returns c = end_lays c.args.out.now c.args.handle c.args.slots.now c.args.q _ c.ended-answer.ensures (used-after c.ended-answer.result c.args.used c.unwrap_or.ensures) c.empty_ended.ensures c.answer_changed.ensures
