-- `tjaldrum_encode_version` packs what crate keycode answers.
use Rattle.keycode.specs.key.Keys.{version as version_key}
use Rattle.host.proofs.AnswerLaws.{encode-gives}
use Rattle.host.proofs.coding.tjaldrum_encode_version.Goals as goal

pub returns : goal.returns
returns c = let a = c.args in encode-gives (version_key a.key.now a.version) a.out.now c.encode_version.ensures c.told.ensures
