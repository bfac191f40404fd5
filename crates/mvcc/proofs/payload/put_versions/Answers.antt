use Rattle.mvcc.proofs.payload.PayloadLaws.{lay-set, set_room, set-turn, set-laid}
use native.Mathlib.Omega.{arith}
use Rattle.mvcc.proofs.payload.put_versions.Goals as goal

pub loop-version-init : goal.loop-version-init
loop-version-init c = lay-set _ _ c.requires

pub put_number-requires : goal.put_number-requires
put_number-requires c = (c.type_inv.version.fits, set_room c.args.set.now _ c.loop-version.invariant c.loop-version-test.true)

pub overflow_add-o : goal.overflow_add-o
overflow_add-o c = omega (arith, set_room c.args.set.now _ c.loop-version.invariant c.loop-version-test.true, c.loop-version.invariant.long)

pub loop-version-preserved : goal.loop-version-preserved
loop-version-preserved c = set-turn c.args.set.now _ c.loop-version.invariant c.loop-version-test.true _ c.put_number.ensures

pub shape_of-out : goal.shape_of-out
shape_of-out c = c.loop-version.invariant.long

pub returns : goal.returns
returns c = set-laid c.args.set.now _ c.loop-version.invariant (omega arith)
