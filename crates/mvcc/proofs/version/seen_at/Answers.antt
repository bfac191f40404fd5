-- `seen_at`: the key's version first, then what it says.
use Rattle.bitcask.specs.engine.Views.{shown}
use Rattle.bitcask.specs.engine.Spots.{row_at}
use Rattle.mvcc.proofs.version.SeenLaws.{seen_broken, seen_version}
use Rattle.mvcc.proofs.version.seen_at.Goals as goal

pub returns-in-None : goal.returns-in-None
returns-in-None c = let a = c.args in seen_broken a.handle (row_at a.spot (shown a.view.now)) c.key_at.ensures c.version_of.ensures c.in-None.is

pub returns-in-Some : goal.returns-in-Some
returns-in-Some c = let a = c.args in seen_version a.handle (row_at a.spot (shown a.view.now)) c.key_at.ensures c.version_of.ensures _ c.in-Some.is c.seen_as.ensures
