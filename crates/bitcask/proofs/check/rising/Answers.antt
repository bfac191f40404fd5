use mathlib.Core.Path.{◌≡◌, sym, ap, ◌∙◌}
use Prim.Native.Nat.{ℕ, ◌+◌, ◌-◌}
use lib.ListN.{drop}
use Rattle.bitcask.specs.keydir.Slots.{slots_of}
use Rattle.bitcask.specs.check.Told.{risen}
use Rattle.bitcask.proofs.keydir.SlotLaws.{slots_length}
use Rattle.bitcask.proofs.check.TellLaws.{rise_done, rise_turn, rise_stop}
use native.Mathlib.Omega.{arith}
use Rattle.bitcask.proofs.check.rising.Goals as goal

pub returns-then-not-in_order : goal.returns-then-not-in_order
returns-then-not-in_order c =
    let a = c.args in
    let n = slots_length a.slots.count a.slots.table.now in
    rise_stop a.log.now (slots_of a.slots.count a.slots.table.now) (c.loop-i.i - 1) (omega arith) (omega arith) (sym c.in_order.ensures ∙ c.if-not-in_order.true) ∙ sym c.loop-i.invariant

pub loop-i-preserved : goal.loop-i-preserved
loop-i-preserved c =
    let a = c.args in
    let n = slots_length a.slots.count a.slots.table.now in
    let e : c.loop-i.i - 1 + 1 ≡ c.loop-i.i + 1 - 1 = omega arith in
    c.loop-i.invariant
    ∙ rise_turn a.log.now (slots_of a.slots.count a.slots.table.now) (c.loop-i.i - 1) (omega arith) (omega arith) (sym c.in_order.ensures ∙ c.if-not-in_order.false)
    ∙ ap (λ (k : ℕ). risen a.log.now (drop k (slots_of a.slots.count a.slots.table.now))) e

pub returns : goal.returns
returns c =
    let a = c.args in
    let n = slots_length a.slots.count a.slots.table.now in
    rise_done a.log.now (slots_of a.slots.count a.slots.table.now) (c.loop-i.i - 1) (omega arith) ∙ sym c.loop-i.invariant
