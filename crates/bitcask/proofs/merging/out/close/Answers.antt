-- `close` moves where there is a gap; where there is none the words are those that stand there.
use native.Mathlib.Omega.{arith}
use Prim.Native.Nat.{◌*◌}
use Rattle.bitcask.specs.keydir.Slots.{slot_words}
use Rattle.bitcask.proofs.keydir.WordLaws.{copy_self, within_is}
use Rattle.bitcask.proofs.merging.out.close.Goals as goal

pub returns-then-gap : goal.returns-then-gap
returns-then-gap c =
    let a = c.args in
    within_is a.table.now (slot_words * a.gap.from) (slot_words * a.end) (slot_words * a.gap.to) (omega (arith, c.requires.1)) c.requires.2 c.copy_within.ensures.after

pub returns-else-gap : goal.returns-else-gap
returns-else-gap c =
    let a = c.args in
    let q = c.requires in
    copy_self a.table.now (slot_words * a.gap.from) (slot_words * a.end) (slot_words * a.gap.to) (omega (arith, q.0)) (omega (arith, q.1)) q.2
