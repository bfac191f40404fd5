-- `exactly` tests a key's length.
use Rattle.keycode.proofs.key.DecodeLaws.{exactly-few, exactly-over, exactly_read}
use Rattle.keycode.proofs.key.decoding.exactly.Goals as goal

pub returns-then-len-n : goal.returns-then-len-n
returns-then-len-n c = exactly-few c.args.n c.args.len c.args.key c.if-len-n.true

pub returns-then-n-len : goal.returns-then-n-len
returns-then-n-len c = exactly-over c.args.n c.args.len c.args.key c.if-n-len.true

pub returns-else-n-len : goal.returns-else-n-len
returns-else-n-len c = exactly_read c.args.n c.args.len c.args.key c.if-len-n.false c.if-n-len.false
