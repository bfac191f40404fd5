-- `find`: the place that the table has for a key, as a spot.
use Rattle.bitcask.proofs.engine.SpotLaws.{find_at, find_absent}
use Rattle.bitcask.proofs.engine.view.View.find.Goals as goal

pub returns-in-Ok : goal.returns-in-Ok
returns-in-Ok c = let a = c.args in let v = a.self.now in find_at v.log.now v.table.now v.mark a.key.now _ c.find.ensures _ c.in-Ok.is

pub returns-in-Err : goal.returns-in-Err
returns-in-Err c = let a = c.args in let v = a.self.now in find_absent v.log.now v.table.now v.mark a.key.now _ c.find.ensures _ c.in-Err.is
