-- src/answers.rt:127:23
use Rattle.tape.specs.Answers.{count_bytes}
use Rattle.tape.proofs.AnswerLaws.{laid_for}
use Rattle.tape.proofs.answers.answer_counted.Goals as goal

-- src/answers.rt:122:1
pub returns-in-Ok : goal.returns-in-Ok
returns-in-Ok c = laid_for c.args.out.now count_bytes 0 c.in-Ok.is c.put_word.ensures

-- src/answers.rt:122:1
pub returns-in-Err : goal.returns-in-Err
returns-in-Err c = laid_for c.args.out.now count_bytes 0 c.in-Err.is c.put_refusal.ensures
