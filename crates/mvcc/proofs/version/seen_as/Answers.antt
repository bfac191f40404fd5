-- `seen_as`: the payload, where the handle sees the version.
use Rattle.bitcask.specs.engine.Views.{shown}
use Rattle.bitcask.specs.engine.Spots.{row_at}
use Rattle.mvcc.specs.version.Seen.{row_says}
use Rattle.mvcc.proofs.version.SeenLaws.{as_seen, as_hidden}
use Rattle.mvcc.proofs.version.seen_as.Goals as goal

pub returns-then-sees : goal.returns-then-sees
returns-then-sees c = let a = c.args in as_seen a.handle (row_says (row_at a.spot (shown a.view.now))) a.version c.sees.ensures c.if-sees.true c.value_says.ensures

pub returns-else-sees : goal.returns-else-sees
returns-else-sees c = let a = c.args in as_hidden a.handle (row_says (row_at a.spot (shown a.view.now))) a.version c.sees.ensures c.if-sees.false
