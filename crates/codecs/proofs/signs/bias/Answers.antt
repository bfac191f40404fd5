-- `bias` flips the top bit of the number's 64.
use Rattle.codecs.proofs.CastLaws.{bias_done}
use Rattle.codecs.proofs.signs.bias.Goals as goal

pub returns : goal.returns
returns c = bias_done c.args.v _ c.ranges.v c.cast_unsigned.ensures
