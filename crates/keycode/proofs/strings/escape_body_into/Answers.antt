use Rattle.keycode.proofs.BufferLaws.{lay_start, lay-more, lay_end}
use Rattle.keycode.proofs.StringLaws.{body_drop, body_done, escape-room}
use native.Mathlib.Omega.{arith}
use Rattle.keycode.proofs.strings.escape_body_into.Goals as goal

pub loop-b-init : goal.loop-b-init
loop-b-init c = (omega arith, lay_start _ _ _ c.requires)

pub put_escaped-o-requires : goal.put_escaped-o-requires
put_escaped-o-requires c = escape-room c.args.key.now _ c.loop-b.invariant.1 c.loop-b-test.true

pub loop-b-preserved : goal.loop-b-preserved
loop-b-preserved c = (omega arith, lay-more c.loop-b.invariant.1 _ _ _ _ (body_drop c.args.key.now _ c.loop-b-test.true) c.put_escaped-o.ensures.0 c.put_escaped-o.ensures.1)

pub shape_of-out : goal.shape_of-out
shape_of-out c = c.loop-b.invariant.1.long

pub returns : goal.returns
returns c = lay_end c.loop-b.invariant.1 (body_done c.args.key.now _ c.loop-b-test.false)
