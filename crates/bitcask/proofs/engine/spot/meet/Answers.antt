-- `meet` compares ranks.
use mathlib.Core.Path.{refl}
use Rattle.bitcask.specs.engine.Spots.{rank}
use Rattle.bitcask.proofs.engine.spot.meet.Goals as goal

pub returns : goal.returns
unfolding rank
returns c = refl
