use Rattle.tape.proofs.CallLaws.{done-is, used-after, tidy_lays}
use Rattle.tape.proofs.calls.tidy.Goals as goal

pub returns : goal.returns
returns c = tidy_lays c.args.out.now c.compact-answer.ensures (used-after c.compact-answer.result c.args.used c.unwrap_or.ensures) (done-is c.compact-answer.result c.is_ok.ensures.value) c.answer_used.ensures
