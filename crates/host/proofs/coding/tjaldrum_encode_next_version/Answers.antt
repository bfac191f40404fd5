-- `tjaldrum_encode_next_version` packs what crate keycode answers.
use Rattle.keycode.specs.key.Keys.{next_version}
use Rattle.host.proofs.AnswerLaws.{encode-gives}
use Rattle.host.proofs.coding.tjaldrum_encode_next_version.Goals as goal

pub returns : goal.returns
returns c = let a = c.args in encode-gives next_version a.out.now c.encode_next_version.ensures c.told.ensures
