use mathlib.Core.Path.{refl, ◌∙◌}
use native.Mathlib.Omega.{arith}
use Rattle.bitcask.specs.keydir.Slots.{slots_of}
use Rattle.bitcask.specs.merging.Merge.{news}
use Rattle.bitcask.proofs.merging.PutLaws.{news-turn, new_new, new_gone}
use Rattle.bitcask.proofs.merging.put.count_new.Goals as goal
use Rattle.bitcask.proofs.merging.put.count_new.Goals.{then-not-is_gone, else-not-is_gone}

pub loop-p-init : goal.loop-p-init
unfolding slots_of news
loop-p-init c = (omega arith, refl)

pub loop-p-preserved : goal.loop-p-preserved
loop-p-preserved c =
    let l = c.loop-p in
    let a = c.args in
    elim c.if-not-is_gone.branch [
      | then-not-is_gone w ↦ (
        omega (arith, w.n-is, l.invariant.0),
        w.n-is ∙ news-turn a.pend.now a.waiting l.p l.n c.loop-p-test.true l.invariant.1 c.slot_at.ensures (new_new c.slot_at.result c.is_gone.ensures w.if-not-is_gone.true),
      )
      | else-not-is_gone w ↦ (
        omega (arith, w.n-is, l.invariant.0),
        w.n-is ∙ omega (arith, news-turn a.pend.now a.waiting l.p l.n c.loop-p-test.true l.invariant.1 c.slot_at.ensures (new_gone c.slot_at.result c.is_gone.ensures w.if-not-is_gone.false)),
      )
    ]
