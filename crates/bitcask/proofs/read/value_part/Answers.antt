-- `value_part`: a value stands behind its key.
use Rattle.bitcask.proofs.read.value_part.Goals as goal

pub returns : goal.returns
returns c = λ j. record { at = c.value_at.ensures.0 j; len = c.args.s.vlen }
