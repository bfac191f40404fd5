-- `escape_into` lays a string and its end.
use lib.ListN.{length-set}
use Rattle.keycode.proofs.StringLaws.{escape-length, end_room, end_store}
use native.Mathlib.Omega.{arith}
use Rattle.keycode.proofs.strings.escape_into.Goals as goal

pub escape_body_into-o-requires : goal.escape_body_into-o-requires
escape_body_into-o-requires c = omega (arith, escape-length c.args.key.now)

pub bounds-out-o : goal.bounds-out-o
bounds-out-o c = omega (arith, end_room c.args.key.now _ _ _ _ c.requires c.escape_body_into-o.ensures)

pub overflow_add-out : goal.overflow_add-out
overflow_add-out c = omega (arith, end_room c.args.key.now _ _ _ _ c.requires c.escape_body_into-o.ensures)

pub bounds-out-o-2 : goal.bounds-out-o-2
bounds-out-o-2 c = simp length-set (omega (arith, end_room c.args.key.now _ _ _ _ c.requires c.escape_body_into-o.ensures))

pub overflow_add-result : goal.overflow_add-result
overflow_add-result c = omega (arith, end_room c.args.key.now _ _ _ _ c.requires c.escape_body_into-o.ensures)

pub returns : goal.returns
returns c = end_store c.args.key.now _ _ _ _ c.requires c.escape_body_into-o.ensures
