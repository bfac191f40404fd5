-- `shift` moves bytes by whole slots.
use Rattle.host.proofs.ByteLaws.{shift_words}
use Rattle.host.specs.Table.{words-length}
use native.Mathlib.Omega.{arith}
use Rattle.host.proofs.bytes.U8Element.shift.Goals as goal

pub overflow_mul-from : goal.overflow_mul-from
overflow_mul-from c = omega (arith, words-length c.args.table.now)

pub overflow_mul-to : goal.overflow_mul-to
overflow_mul-to c = omega (arith, words-length c.args.table.now)

pub overflow_mul-at : goal.overflow_mul-at
overflow_mul-at c = omega (arith, words-length c.args.table.now)

pub copy_within-requires-clause-in_bounds : goal.copy_within-requires-clause-in_bounds
copy_within-requires-clause-in_bounds c = omega (arith, words-length c.args.table.now, c.requires.1)

pub copy_within-requires-clause-dest_in_bounds : goal.copy_within-requires-clause-dest_in_bounds
copy_within-requires-clause-dest_in_bounds c = omega (arith, words-length c.args.table.now, c.requires.0, c.requires.2)

pub returns : goal.returns
returns c = let a = c.args in shift_words a.table.now a.from a.to a.at c.requires.0 c.requires.1 c.requires.2 c.copy_within.ensures.after
