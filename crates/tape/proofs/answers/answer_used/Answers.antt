-- src/answers.rt:116:23
use Rattle.tape.specs.Answers.{used_bytes}
use Rattle.tape.proofs.AnswerLaws.{laid_for}
use Rattle.tape.proofs.answers.answer_used.Goals as goal

-- src/answers.rt:111:1
pub returns-in-Ok : goal.returns-in-Ok
returns-in-Ok c = laid_for c.args.out.now used_bytes 0 c.in-Ok.is c.put_word.ensures

-- src/answers.rt:111:1
pub returns-in-Err : goal.returns-in-Err
returns-in-Err c = laid_for c.args.out.now used_bytes 0 c.in-Err.is c.put_refusal.ensures
