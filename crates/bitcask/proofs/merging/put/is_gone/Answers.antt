-- `is_gone` reads the mark.
use mathlib.Core.Path.{refl}
use Rattle.bitcask.specs.merging.Merge.{is_gone}
use Rattle.bitcask.proofs.merging.put.is_gone.Goals as goal

pub returns : goal.returns
unfolding is_gone
returns c = refl
