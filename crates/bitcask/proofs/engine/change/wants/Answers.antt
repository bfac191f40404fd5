-- `wants`: a new key wants a row.
use Rattle.bitcask.proofs.engine.SetLaws.{wants-at, wants_absent}
use Rattle.bitcask.proofs.engine.change.wants.Goals as goal

pub returns-in-Ok : goal.returns-in-Ok
returns-in-Ok c = wants-at _ _ c.in-Ok.is

pub returns-in-Err : goal.returns-in-Err
returns-in-Err c = wants_absent _ _ c.in-Err.is
