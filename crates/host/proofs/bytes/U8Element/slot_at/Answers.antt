-- `slot_at` reads a slot's three words.
use Rattle.host.proofs.ByteLaws.{slot_is}
use Rattle.host.specs.Table.{words-length}
use native.Mathlib.Omega.{arith}
use Rattle.host.proofs.bytes.U8Element.slot_at.Goals as goal

pub overflow_mul-at : goal.overflow_mul-at
overflow_mul-at c = omega (arith, words-length c.args.table.now)

pub overflow_add-at : goal.overflow_add-at
overflow_add-at c = omega (arith, words-length c.args.table.now)

pub overflow_add-at-2 : goal.overflow_add-at-2
overflow_add-at-2 c = omega (arith, words-length c.args.table.now)

pub returns : goal.returns
returns c = let a = c.args in slot_is a.table.now a.i c.requires c.word_at.ensures c.word_at-2.ensures c.word_at-3.ensures
