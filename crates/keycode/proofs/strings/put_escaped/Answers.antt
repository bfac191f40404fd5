-- `put_escaped` lays one byte, escaped.
use lib.ListN.{length, length-set}
use mathlib.Core.Path.{ap}
use Rattle.keycode.proofs.StringLaws.{byte_zero, byte_length, store_zero, store_other}
use native.Mathlib.Omega.{arith}
use Rattle.keycode.proofs.strings.put_escaped.Goals as goal

pub bounds-out-at : goal.bounds-out-at
bounds-out-at c = omega (arith, (byte_length c.args.b).0)

pub bounds-out-at-then-b-eq0 : goal.bounds-out-at-then-b-eq0
bounds-out-at-then-b-eq0 c = simp length-set (omega (arith, ap length (byte_zero _ c.if-b-eq0.true)))

pub returns-then-b-eq0 : goal.returns-then-b-eq0
returns-then-b-eq0 c = store_zero _ _ _ c.requires c.if-b-eq0.true

pub returns-else-b-eq0 : goal.returns-else-b-eq0
returns-else-b-eq0 c = store_other _ _ _ c.requires c.if-b-eq0.false
