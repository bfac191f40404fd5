-- `tjaldrum_encode_txn_active` packs what crate keycode answers.
use Rattle.keycode.specs.key.Keys.{txn_active}
use Rattle.host.proofs.AnswerLaws.{encode-gives}
use Rattle.host.proofs.coding.tjaldrum_encode_txn_active.Goals as goal

pub returns : goal.returns
returns c = let a = c.args in encode-gives (txn_active a.version) a.out.now c.encode_txn_active.ensures c.told.ensures
