-- `tjaldrum_unescape` packs what crate keycode answers.
use Rattle.host.proofs.AnswerLaws.{unescape_gives}
use Rattle.host.proofs.coding.tjaldrum_unescape.Goals as goal

pub returns : goal.returns
returns c = let a = c.args in unescape_gives a.escaped.now a.out.now c.unescape.ensures c.told.ensures
