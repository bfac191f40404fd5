-- src/answers.rt:95:39
use Rattle.std.specs.Prelude.{Result}
use Rattle.bitcask.specs.declared.request.Used.{Used}
use Rattle.keycode.specs.declared.refusal.Refusal.{Refusal}
use Rattle.bitcask.specs.recovery.Promises.{changed_number}
use Rattle.tape.specs.format.Layout.{plainly}
use Rattle.tape.proofs.AnswerLaws.{laid_for}
use Rattle.tape.proofs.answers.answer_changed.Goals as goal

-- src/answers.rt:90:1
pub returns-in-Ok : goal.returns-in-Ok
returns-in-Ok c = laid_for c.args.out.now (λ (a : Result Used Refusal). plainly (changed_number a) c.args.command) 0 c.in-Ok.is c.put_plain.ensures

-- src/answers.rt:90:1
pub returns-in-Err : goal.returns-in-Err
returns-in-Err c = laid_for c.args.out.now (λ (a : Result Used Refusal). plainly (changed_number a) c.args.command) 0 c.in-Err.is c.put_refusal.ensures
