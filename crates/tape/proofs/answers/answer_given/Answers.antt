-- src/answers.rt:50:38
use Rattle.std.specs.Prelude.{Result}
use Rattle.bitcask.specs.declared.request.Used.{Used}
use Rattle.keycode.specs.declared.refusal.Refusal.{Refusal}
use Rattle.tape.specs.Answers.{given_bytes}
use Rattle.tape.proofs.AnswerLaws.{laid_for}
use Rattle.tape.proofs.answers.answer_given.Goals as goal

-- src/answers.rt:45:1
pub returns-in-Ok : goal.returns-in-Ok
returns-in-Ok c = laid_for c.args.out.now (λ (a : Result Used Refusal). given_bytes c.args.command a c.args.version) 0 c.in-Ok.is c.put_word.ensures

-- src/answers.rt:45:1
pub returns-in-Err : goal.returns-in-Err
returns-in-Err c = laid_for c.args.out.now (λ (a : Result Used Refusal). given_bytes c.args.command a c.args.version) 0 c.in-Err.is c.put_refusal.ensures
