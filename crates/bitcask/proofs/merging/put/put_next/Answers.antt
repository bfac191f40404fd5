-- `put_next` passes a marked slot and puts in a new one.
use native.Mathlib.Omega.{arith}
use mathlib.Core.Path.{◌∙◌, sym}
use Rattle.bitcask.proofs.merging.PutLaws.{new_new, next-gone}
use Rattle.bitcask.proofs.merging.put.put_next.Goals as goal

pub returns-then-is_gone : goal.returns-then-is_gone
returns-then-is_gone c =
    let a = c.args in
    next-gone a.log.now a.table.now a.room.end a.room.left a.s (sym c.is_gone.ensures ∙ c.if-is_gone.true) c.requires.1

pub put_one-requires : goal.put_one-requires
put_one-requires c = (
  sym c.is_gone.ensures ∙ c.if-is_gone.false,
  omega (
    arith,
    c.requires.0,
    new_new _
        c.is_gone.ensures c.if-is_gone.false,
  ),
  c.requires.1,
)

pub overflow_sub-result : goal.overflow_sub-result
overflow_sub-result c =
    omega (
      arith,
      c.requires.0,
      new_new _
          c.is_gone.ensures c.if-is_gone.false,
    )

pub returns : goal.returns
returns c = c.put_one.ensures
