use native.Mathlib.Omega.{arith}
use Prim.Native.Nat.{◌-◌}
use mathlib.Core.Path.{sym, ◌∙◌}
use Rattle.bitcask.specs.keydir.Slots.{slots_of}
use Rattle.bitcask.proofs.keydir.SlotLaws.{slots_length, slot_at_is}
use Rattle.bitcask.proofs.merging.PutLaws.{putting_start, putting_new, putting_turn, putting_room, putting_end}
use Rattle.bitcask.proofs.merging.put.put_all.Goals as goal

pub loop-p-init : goal.loop-p-init
loop-p-init c =
    let a = c.args in
    putting_start a.log.now a.table.now a.count (slots_of a.waiting a.pend.now) a.waiting a.new (sym (slots_length a.waiting a.pend.now))
    c.requires.2

pub put_next-room-requires : goal.put_next-room-requires
put_next-room-requires c =
    let a = c.args in
    let w = c.loop-p.invariant in (
      putting_new w c.loop-p-test.true _ (c.slot_at.ensures ∙ slot_at_is a.waiting a.pend.now
          (c.loop-p.p - 1) (omega (arith, w.upto, slots_length a.waiting a.pend.now))),
      omega (arith, putting_room w, c.requires.0, c.requires.2, w.long),
    )

pub loop-p-preserved : goal.loop-p-preserved
loop-p-preserved c =
    let a = c.args in
    let w = c.loop-p.invariant in
    putting_turn w c.loop-p-test.true _ _ _ _ (c.slot_at.ensures ∙ slot_at_is a.waiting
    a.pend.now (c.loop-p.p - 1) (omega (arith, w.upto, slots_length a.waiting a.pend.now)))
    c.put_next-room.ensures

pub returns : goal.returns
returns c = putting_end c.loop-p.invariant (omega (arith, c.requires.0)) c.loop-p-test.false
