use Rattle.tape.proofs.CallLaws.{look-lays}
use Rattle.tape.proofs.calls.look.Goals as goal

pub returns : goal.returns
returns c = look-lays c.args.out.now c.get.ensures c.answer_got.ensures
