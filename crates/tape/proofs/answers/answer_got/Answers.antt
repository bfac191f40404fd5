-- src/answers.rt:84:21
use mathlib.Core.Path.{sym}
use Rattle.tape.specs.Answers.{value_bytes, got_bytes}
use Rattle.tape.proofs.AnswerLaws.{laid_for}
use Rattle.tape.proofs.answers.answer_got.Goals as goal

-- src/answers.rt:79:1
pub returns-in-Ok : goal.returns-in-Ok
returns-in-Ok c = laid_for c.args.out.now (got_bytes c.args.log.now) 0 c.in-Ok.is (laid_for c.args.out.now value_bytes 0 (sym c.part.ensures) c.answer_value.ensures)

-- src/answers.rt:79:1
pub returns-in-Err : goal.returns-in-Err
returns-in-Err c = laid_for c.args.out.now (got_bytes c.args.log.now) 0 c.in-Err.is c.put_refusal.ensures
