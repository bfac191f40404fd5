use mathlib.Core.Path.{refl}
use Rattle.keycode.specs.Number.{num, num_from}
use Rattle.keycode.proofs.NumberLaws.{read_turn, read_all, read_fits}
use native.Mathlib.Omega.{arith}
use Rattle.keycode.proofs.number.get_number.Goals as goal

pub loop-b-init : goal.loop-b-init
unfolding num num_from
loop-b-init c = (omega arith, refl)

pub overflow_mul-n : goal.overflow_mul-n
overflow_mul-n c = omega (arith, read_fits c.args.s.now c.loop-b.n c.loop-b.b-index (λ j. (c.type_inv.s j).fits) c.requires c.loop-b-test.true c.loop-b.invariant.1)

pub overflow_add-n : goal.overflow_add-n
overflow_add-n c = omega (arith, read_fits c.args.s.now c.loop-b.n c.loop-b.b-index (λ j. (c.type_inv.s j).fits) c.requires c.loop-b-test.true c.loop-b.invariant.1, c.from.ensures, (c.type_inv.s c.loop-b.b-index).fits)

pub loop-b-preserved : goal.loop-b-preserved
loop-b-preserved c = (omega arith, read_turn c.args.s.now c.loop-b.n c.loop-b.b-index c.from.result c.loop-b-test.true c.loop-b.invariant.1 c.from.ensures)

pub returns : goal.returns
returns c = read_all c.args.s.now _ _ c.loop-b-test.false c.loop-b.invariant.1
