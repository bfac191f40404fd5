-- `tjaldrum_encode_txn_active_snapshot` packs what crate keycode answers.
use Rattle.keycode.specs.key.Keys.{txn_active_snapshot}
use Rattle.host.proofs.AnswerLaws.{encode-gives}
use Rattle.host.proofs.coding.tjaldrum_encode_txn_active_snapshot.Goals as goal

pub returns : goal.returns
returns c = let a = c.args in encode-gives (txn_active_snapshot a.version) a.out.now c.encode_txn_active_snapshot.ensures c.told.ensures
