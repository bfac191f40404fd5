-- src/answers.rt:71:9
use native.Mathlib.Omega.{arith}
use Rattle.tape.proofs.AnswerLaws.{value-over, value-laid}
use Rattle.tape.proofs.answers.answer_value.Goals as goal

-- src/answers.rt:72:9
pub returns-then-value-gt-VALUE_ROOM : goal.returns-then-value-gt-VALUE_ROOM
returns-then-value-gt-VALUE_ROOM c = value-over c.args.out.now c.args.value.now c.if-value-gt-VALUE_ROOM.true c.put_plain.ensures

-- src/answers.rt:66:1
pub returns : goal.returns
returns c = value-laid c.args.out.now c.args.value.now (omega arith) c.put_record.ensures
