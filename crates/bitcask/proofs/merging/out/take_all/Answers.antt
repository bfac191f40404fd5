use native.Mathlib.Omega.{arith}
use mathlib.Core.Path.{◌∙◌}
use Rattle.bitcask.specs.keydir.Slots.{slots_of}
use Rattle.bitcask.proofs.keydir.WordLaws.{cleared}
use Rattle.bitcask.proofs.keydir.SlotLaws.{slot_at_is, slots_length}
use Rattle.bitcask.proofs.merging.OutLaws.{taking_start, taking_turn, taking_end}
use Rattle.bitcask.proofs.merging.out.take_all.Goals as goal

pub loop-p-init : goal.loop-p-init
loop-p-init c = let a = c.args in taking_start a.log.now a.table.now a.count (slots_of a.waiting a.pend.now)

pub loop-p-preserved : goal.loop-p-preserved
loop-p-preserved c =
    let l = c.loop-p in
    let a = c.args in
    taking_turn l.invariant _ _ _ _ _ (omega (arith, slots_length a.waiting a.pend.now))
    (c.slot_at.ensures ∙ slot_at_is a.waiting a.pend.now l.p (omega arith))
    c.key_of.ensures c.take_one-gap.ensures

pub returns : goal.returns
returns c =
    let a = c.args in
    let l = c.loop-p in
    let w = l.invariant in
    taking_end w c.requires.0 (omega (arith, slots_length a.waiting a.pend.now))
    c.close.ensures (cleared c.close.new.table _ _ (omega (arith, w.within, w.order)) (omega (arith, w.long, c.close.auto.table)) (c.fill.ensures.after (λ y e. e)))
