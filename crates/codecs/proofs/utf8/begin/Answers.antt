-- `begin` finds the row of the table that a byte begins.
use native.Mathlib.Omega.{arith}
use Rattle.codecs.proofs.StateLaws.{begin_ascii, begin_stray, begin_two, begin_e0, begin_three, begin_ed, begin_f0, begin_four, begin_f4, begin_over}
use Rattle.codecs.proofs.utf8.begin.Goals as goal

pub returns-in-0-to-127 : goal.returns-in-0-to-127
returns-in-0-to-127 c = begin_ascii c.args.b (omega arith)

pub returns-in-194-to-223 : goal.returns-in-194-to-223
returns-in-194-to-223 c = begin_two c.args.b (omega arith) (omega arith)

pub returns-in-224 : goal.returns-in-224
returns-in-224 c = begin_e0 c.args.b c.in-224.is

pub returns-in-225-to-236 : goal.returns-in-225-to-236
returns-in-225-to-236 c = begin_three c.args.b (omega arith) (omega arith) (omega arith)

pub returns-in-237 : goal.returns-in-237
returns-in-237 c = begin_ed c.args.b c.in-237.is

pub returns-in-240 : goal.returns-in-240
returns-in-240 c = begin_f0 c.args.b c.in-240.is

pub returns-in-241-to-243 : goal.returns-in-241-to-243
returns-in-241-to-243 c = begin_four c.args.b (omega arith) (omega arith)

pub returns-in-244 : goal.returns-in-244
returns-in-244 c = begin_f4 c.args.b c.in-244.is

pub returns-in_default : goal.returns-in_default
returns-in_default c = begin_stray c.args.b (omega arith) (omega arith)

pub returns-in_default-2 : goal.returns-in_default-2
returns-in_default-2 c = begin_over c.args.b (omega arith)
