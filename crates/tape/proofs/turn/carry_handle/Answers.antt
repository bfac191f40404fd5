-- `carry_handle` carries out the commands that want a handle.
use native.Mathlib.Omega.{arith}
use Rattle.tape.proofs.TurnLaws.{held_look, held_scan, held_write, held_end}
use Rattle.tape.proofs.turn.carry_handle.Goals as goal

pub returns-then-c-eq4 : goal.returns-then-c-eq4
returns-then-c-eq4 c = let a = c.args in held_look a.log.now a.used a.table.now a.slots.now a.q a.key.now a.value.now _ a.out.now _ c.handle_at-h.ensures c.if-c-eq4.true c.look.ensures c.one_answer.ensures

pub returns-then-c-eq7 : goal.returns-then-c-eq7
returns-then-c-eq7 c = let a = c.args in held_scan a.log.now a.used a.table.now a.slots.now a.q a.key.now a.value.now _ a.out.now _ c.handle_at-h.ensures c.if-c-eq7.true c.scan-len.ensures

pub returns-then-c-le6 : goal.returns-then-c-le6
returns-then-c-le6 c = let a = c.args in held_write a.log.now a.used a.table.now a.slots.now a.q a.key.now a.value.now _ a.out.now _ c.handle_at-h.ensures (omega (arith, c.requires.3, c.if-c-eq4.false)) c.if-c-le6.true c.write-u.ensures c.one_answer-then-c-le6.ensures

pub returns : goal.returns
returns c = let a = c.args in held_end a.log.now a.used a.table.now a.slots.now a.q a.key.now a.value.now _ a.out.now _ c.handle_at-h.ensures (omega (arith, c.requires.3, c.if-c-eq4.false, c.if-c-eq7.false, c.if-c-le6.false)) c.requires.4 c.end-u.ensures c.one_answer-2.ensures
