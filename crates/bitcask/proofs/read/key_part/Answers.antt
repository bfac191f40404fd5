-- `key_part`: a key stands 8 bytes behind its entry's offset.
use Rattle.bitcask.proofs.read.key_part.Goals as goal

pub returns : goal.returns
returns c = λ j. record { at = c.key_at.ensures.0 j; len = c.args.s.klen }
