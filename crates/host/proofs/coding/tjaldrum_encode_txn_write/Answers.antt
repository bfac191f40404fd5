-- `tjaldrum_encode_txn_write` packs what crate keycode answers.
use Rattle.keycode.specs.key.Keys.{txn_write}
use Rattle.host.proofs.AnswerLaws.{encode-gives}
use Rattle.host.proofs.coding.tjaldrum_encode_txn_write.Goals as goal

pub returns : goal.returns
returns c = let a = c.args in encode-gives (txn_write a.version a.key.now) a.out.now c.encode_txn_write.ensures c.told.ensures
