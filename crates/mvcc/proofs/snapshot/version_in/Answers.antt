-- `version_in` asks for nine bytes and reads the last eight.
use Rattle.mvcc.proofs.payload.PayloadLaws.{part_short}
use Rattle.mvcc.proofs.snapshot.ActiveLaws.{active_other, active_own}
use Rattle.mvcc.proofs.snapshot.version_in.Goals as goal

pub returns-then-key : goal.returns-then-key
returns-then-key c = active_other _ c.if-key.true

pub get_number-requires : goal.get_number-requires
get_number-requires c = part_short c.args.key.now 1 c.clip.ensures

pub returns : goal.returns
returns c = active_own c.args.key.now c.if-key.false c.clip.ensures c.get_number.ensures
