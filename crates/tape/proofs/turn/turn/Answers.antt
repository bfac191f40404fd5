-- `turn` tests a record, and carries out its command.
use mathlib.Core.Path.{◌∙◌, sym, subst}
use native.Mathlib.Omega.{arith}
use Prim.Native.Nat.{◌<◌, ◌≤◌}
use Rattle.tape.specs.declared.format.request.Request.{Request}
use Rattle.tape.proofs.AdmitLaws.{slot-below, command_least, command_most}
use Rattle.tape.proofs.TurnLaws.{turn-short, turn-bad, turn-good}
use Rattle.tape.proofs.turn.turn.Goals as goal

pub returns-then-bytes-ne-RECORD : goal.returns-then-bytes-ne-RECORD
returns-then-bytes-ne-RECORD c = let a = c.args in turn-short a.log.now a.spare.now a.used a.table.now a.slots.now a.bytes.now _ a.out.now _ c.if-bytes-ne-RECORD.true c.put_plain.ensures c.one_answer.ensures

pub carry-requires : goal.carry-requires
carry-requires c =
    let a = c.args in
    let e = sym c.admitted-good.ensures ∙ c.if-good.true in
    let q = sym c.fields-q.ensures in (
      c.requires.0,
      c.requires.1,
      subst (λ (i : Request). i.slot < 16) q (slot-below a.bytes.now a.slots.now e),
      subst (λ (i : Request). 1 ≤ i.command) q (command_least a.bytes.now a.slots.now e),
      subst (λ (i : Request). i.command ≤ 11) q (command_most a.bytes.now a.slots.now e),
    )

pub returns-then-good : goal.returns-then-good
returns-then-good c = let a = c.args in turn-good a.log.now a.spare.now a.used a.table.now a.slots.now a.bytes.now _ a.out.now _ c.fields-q.result (omega (arith, c.if-bytes-ne-RECORD.false)) c.fields-q.ensures c.admitted-good.ensures c.if-good.true c.clip-key.ensures c.clip-value.ensures c.carry.ensures

pub returns : goal.returns
returns c = let a = c.args in turn-bad a.log.now a.spare.now a.used a.table.now a.slots.now a.bytes.now _ a.out.now _ c.fields-q.result (omega arith) c.fields-q.ensures c.admitted-good.ensures c.if-good.false c.put_plain-2.ensures c.one_answer-2.ensures
