-- `room_in`: what lies behind the entries.
use mathlib.Core.Path.{refl}
use Rattle.bitcask.specs.engine.Judging.{room_in}
use Rattle.bitcask.proofs.engine.view.View.room_in.Goals as goal

pub returns : goal.returns
unfolding room_in
returns c = refl
