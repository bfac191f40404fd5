use Rattle.keycode.proofs.NumberLaws.{digits_start, digits_turn, digits_end}
use native.Mathlib.Omega.{arith}
use Rattle.keycode.proofs.number.put_number.Goals as goal

pub loop-i-init : goal.loop-i-init
loop-i-init c = digits_start c.args.v c.args.width c.args.at c.args.out.now

pub overflow_add-out : goal.overflow_add-out
overflow_add-out c = omega (arith, c.loop-i.invariant.upto, c.requires.1)

pub bounds-out-at : goal.bounds-out-at
bounds-out-at c = omega (arith, c.loop-i.invariant.upto, c.loop-i.invariant.long, c.requires.1)

pub loop-i-preserved : goal.loop-i-preserved
loop-i-preserved c = digits_turn c.loop-i.invariant c.requires.1 c.loop-i-test.true

pub shape_of-out : goal.shape_of-out
shape_of-out c = c.loop-i.invariant.long

pub returns : goal.returns
returns c = digits_end c.loop-i.invariant c.requires.1 c.requires.0 c.loop-i-test.false
