-- `escaped_byte_len`: a 00 is two bytes, any other one.
use Rattle.keycode.proofs.StringLaws.{byte_zero, byte_other}
use Rattle.keycode.proofs.strings.escaped_byte_len.Goals as goal

pub returns-then-b-eq0 : goal.returns-then-b-eq0
returns-then-b-eq0 c = rw (byte_zero _ c.if-b-eq0.true)

pub returns-else-b-eq0 : goal.returns-else-b-eq0
returns-else-b-eq0 c = rw (byte_other _ c.if-b-eq0.false)
