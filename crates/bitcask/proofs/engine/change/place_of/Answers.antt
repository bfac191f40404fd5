-- `place_of`: a spot as the table knows it.
use Rattle.bitcask.proofs.engine.SetLaws.{place_at, place_absent}
use Rattle.bitcask.proofs.engine.change.place_of.Goals as goal

pub returns-in-Ok : goal.returns-in-Ok
returns-in-Ok c = place_at _ _ c.in-Ok.is

pub returns-in-Err : goal.returns-in-Err
returns-in-Err c = place_absent _ _ c.in-Err.is
