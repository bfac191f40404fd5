-- `store` lays a slot's three words.
use Rattle.host.proofs.ByteLaws.{store_is}
use Rattle.host.specs.Table.{words-length}
use native.Mathlib.Omega.{arith}
use Rattle.host.proofs.bytes.U8Element.store.Goals as goal

pub overflow_mul-at : goal.overflow_mul-at
overflow_mul-at c = omega (arith, words-length c.args.table.now)

pub put_word-requires : goal.put_word-requires
put_word-requires c = omega (arith, words-length c.args.table.now, c.requires)

pub overflow_add-at : goal.overflow_add-at
overflow_add-at c = omega (arith, words-length c.args.table.now)

pub put_word-requires-2 : goal.put_word-requires-2
put_word-requires-2 c = omega (arith, words-length c.args.table.now, c.requires, c.put_word.auto.table)

pub overflow_add-at-2 : goal.overflow_add-at-2
overflow_add-at-2 c = omega (arith, words-length c.args.table.now)

pub put_word-requires-3 : goal.put_word-requires-3
put_word-requires-3 c = omega (arith, words-length c.args.table.now, c.requires, c.put_word.auto.table, c.put_word-2.auto.table)

pub returns : goal.returns
returns c = let a = c.args in store_is a.table.now a.i a.s c.requires c.put_word.ensures c.put_word-2.ensures c.put_word-3.ensures
