-- `tjaldrum_open` packs what `open` answers.
use Rattle.host.proofs.OpenLaws.{opens}
use Rattle.host.proofs.opening.tjaldrum_open.Goals as goal

pub returns : goal.returns
returns c = let a = c.args in opens a.log.now a.used a.table.now c.open.ensures c.told.ensures
