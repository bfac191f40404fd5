-- `unflip` undoes it by the half that the number lies in.
use Rattle.codecs.proofs.CastLaws.{under_unflipped, over-unflipped}
use Rattle.codecs.proofs.signs.unflip.Goals as goal

pub returns-then-m-lt-SIGN : goal.returns-then-m-lt-SIGN
returns-then-m-lt-SIGN c = under_unflipped c.args.m c.if-m-lt-SIGN.true

pub returns-else-m-lt-SIGN : goal.returns-else-m-lt-SIGN
returns-else-m-lt-SIGN c = over-unflipped c.args.m c.if-m-lt-SIGN.false c.ranges.m.fits
