-- `tjaldrum_encode_unversioned` packs what crate keycode answers.
use Rattle.keycode.specs.key.Keys.{unversioned}
use Rattle.host.proofs.AnswerLaws.{encode-gives}
use Rattle.host.proofs.coding.tjaldrum_encode_unversioned.Goals as goal

pub returns : goal.returns
returns c = let a = c.args in encode-gives (unversioned a.key.now) a.out.now c.encode_unversioned.ensures c.told.ensures
