-- `flush` is the two passes.
use native.Mathlib.Omega.{arith}
use Rattle.bitcask.specs.keydir.Slots.{slots_of}
use Rattle.bitcask.proofs.keydir.SlotLaws.{slots_length}
use Rattle.bitcask.proofs.merging.PutLaws.{news_most}
use Rattle.bitcask.proofs.merging.FlushLaws.{flush_full, flush_done}
use Rattle.bitcask.proofs.merging.flush.Goals as goal

pub overflow_add-n : goal.overflow_add-n
overflow_add-n c =
    let a = c.args in
    omega (
      arith,
      c.take_all-n.ensures.within,
      c.count_new-new.ensures,
      news_most (slots_of a.waiting a.pend.now),
      slots_length
          a.waiting a.pend.now,
    )

pub returns-then-table-n : goal.returns-then-table-n
returns-then-table-n c =
    let a = c.args in
    flush_full a.log.now a.table.now a.count (slots_of a.waiting a.pend.now) c.requires.0 c.take_all-n.ensures
    c.take_all-n.auto.table c.count_new-new.ensures c.if-table-n.true

pub returns : goal.returns
returns c =
    let a = c.args in
    flush_done a.log.now a.table.now a.count (slots_of a.waiting a.pend.now) c.requires.0
    c.take_all-n.ensures
    c.take_all-n.auto.table c.count_new-new.ensures
    c.if-table-n.false c.put_all.auto.table c.put_all.ensures
