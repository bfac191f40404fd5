-- `put_one` moves the slots behind the place up over the free ones and lays the new slot before them.
use Prim.Native.Nat.{◌+◌, ◌*◌}
use native.Mathlib.Omega.{arith}
use Rattle.bitcask.specs.keydir.Slots.{slot_words}
use Rattle.bitcask.proofs.keydir.WordLaws.{within_is}
use Rattle.bitcask.proofs.merging.PutLaws.{next_puts}
use Rattle.bitcask.proofs.merging.put.put_one.Goals as goal

pub returns : goal.returns
returns c =
    let a = c.args in
    let r = a.room in
    let j = c.below-j.result in
    next_puts a.log.now a.table.now r.end r.left a.s c.requires.0 c.requires.1 c.requires.2 c.key_of.ensures c.below-j.ensures.0
    (within_is a.table.now (slot_words * j) (slot_words * r.end) (slot_words * j + slot_words * r.left) (omega (arith, c.below-j.ensures.1)) (omega (arith, c.requires.2))
    c.copy_within.ensures.after)
    c.store.ensures
