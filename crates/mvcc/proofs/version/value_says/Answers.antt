-- `value_says`: what the payload's reader found, and a value's place behind what it skips.
use borrow.Author.Rules.{rules}
use Rattle.bitcask.specs.engine.Views.{shown}
use Rattle.bitcask.specs.engine.Spots.{row_at}
use Rattle.mvcc.proofs.version.SeenLaws.{says-room, says-value, says-gone, says-bad}
use Rattle.mvcc.proofs.version.value_says.Goals as goal

pub behind-requires : goal.behind-requires
behind-requires c = let a = c.args in says-room (row_at a.spot (shown a.view.now)) c.value_at.ensures c.read_value.ensures _ _ (search rules) c.value_place.ensures

pub returns-in-Some-Value : goal.returns-in-Some-Value
returns-in-Some-Value c = let a = c.args in says-value (row_at a.spot (shown a.view.now)) c.value_at.ensures c.read_value.ensures _ _ _ (search rules) c.value_place.ensures.0 c.behind.ensures

pub returns-in-Some-Gone : goal.returns-in-Some-Gone
returns-in-Some-Gone c = let a = c.args in says-gone (row_at a.spot (shown a.view.now)) c.value_at.ensures c.read_value.ensures (search rules)

pub returns-in-None : goal.returns-in-None
returns-in-None c = let a = c.args in says-bad (row_at a.spot (shown a.view.now)) c.value_at.ensures c.read_value.ensures c.in-None.is
