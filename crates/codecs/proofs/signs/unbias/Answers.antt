-- `unbias` undoes it.
use Rattle.codecs.proofs.CastLaws.{unbias_done}
use Rattle.codecs.proofs.signs.unbias.Goals as goal

pub returns : goal.returns
returns c = unbias_done c.args.m _ c.ranges.m.fits (record { sfits = c.cast_signed.type_inv }) c.cast_signed.ensures
