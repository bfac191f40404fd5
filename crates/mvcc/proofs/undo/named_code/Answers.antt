-- `named_code` lays the tag, the escaped user key and the version.
use lib.ListN.{length-drop}
use Rattle.mvcc.proofs.undo.UndoKeyLaws.{write_within, named_made}
use borrow.Author.Rules.{rules}
use native.Mathlib.Omega.{arith}
use Rattle.mvcc.proofs.undo.named_code.Goals as goal

pub slice_bounds-copy_into-count : goal.slice_bounds-copy_into-count
slice_bounds-copy_into-count c = omega (arith, write_within c.args.write.now (λ i. (c.type_inv.write i).fits) c.requires)

pub slice_bounds-copy_into-start : goal.slice_bounds-copy_into-start
slice_bounds-copy_into-start c = omega (arith, write_within c.args.write.now (λ i. (c.type_inv.write i).fits) c.requires)

pub copy_into-requires : goal.copy_into-requires
copy_into-requires c = omega (arith, write_within c.args.write.now (λ i. (c.type_inv.write i).fits) c.requires, length-drop 9 c.args.write.now)

pub overflow_sub-n : goal.overflow_sub-n
overflow_sub-n c = omega (arith, write_within c.args.write.now (λ i. (c.type_inv.write i).fits) c.requires)

pub put_number-requires : goal.put_number-requires
put_number-requires c = (search rules, omega (arith, write_within c.args.write.now (λ i. (c.type_inv.write i).fits) c.requires, c.copy_into.auto.out))

pub returns : goal.returns
returns c = named_made c.args.write.now (λ i. (c.type_inv.write i).fits) c.args.version _ _ c.copy_into.ensures.1 c.put_number.ensures
