-- `value_len` is the sign test of the signed number.
use Rattle.bitcask.proofs.entry.LengthLaws.{length_tried}
use Rattle.bitcask.proofs.entry.length.value_len.Goals as goal

pub returns : goal.returns
returns c = length_tried c.args.raw c.ranges.raw.fits c.try_from.result (record { sfits = c.cast_signed.type_inv }) c.cast_signed.ensures c.try_from.ensures c.ok.ensures.value
