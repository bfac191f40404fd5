-- `carry` carries out any command.
use native.Mathlib.Omega.{arith}
use Rattle.tape.proofs.TurnLaws.{carry_start, carry_held, carry_tidy, carry_tell}
use Rattle.tape.proofs.turn.carry.Goals as goal

pub returns-then-c-le3 : goal.returns-then-c-le3
returns-then-c-le3 c = let a = c.args in carry_start a.log.now a.spare.now a.used a.table.now a.slots.now a.q a.key.now a.value.now _ a.out.now _ c.if-c-le3.true c.start-u.ensures c.one_answer.ensures

pub returns-then-c-le9 : goal.returns-then-c-le9
returns-then-c-le9 c = let a = c.args in carry_held a.log.now a.spare.now a.used a.table.now a.slots.now a.q a.key.now a.value.now _ a.out.now _ c.carry_handle.ensures

pub returns-then-c-eq10 : goal.returns-then-c-eq10
returns-then-c-eq10 c = let a = c.args in carry_tidy a.log.now a.spare.now a.used a.table.now a.slots.now a.q a.key.now a.value.now _ a.out.now _ c.if-c-eq10.true c.tidy.ensures

pub returns : goal.returns
returns c = let a = c.args in carry_tell a.log.now a.spare.now a.used a.table.now a.slots.now a.q a.key.now a.value.now _ a.out.now _ (omega arith) c.tell.ensures c.one_answer-2.ensures
