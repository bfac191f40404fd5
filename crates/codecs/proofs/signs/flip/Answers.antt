-- `flip` goes by the sign.
use Rattle.codecs.proofs.CastLaws.{under_flipped, over-flipped}
use Rattle.codecs.proofs.signs.flip.Goals as goal

pub returns-then-w-lt-SIGN : goal.returns-then-w-lt-SIGN
returns-then-w-lt-SIGN c = under_flipped c.args.w c.if-w-lt-SIGN.true

pub returns-else-w-lt-SIGN : goal.returns-else-w-lt-SIGN
returns-else-w-lt-SIGN c = over-flipped c.args.w c.if-w-lt-SIGN.false
