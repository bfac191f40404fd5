-- `room` counts the slots that whole words give.
use Rattle.host.proofs.ByteLaws.{slot-count}
use Rattle.host.proofs.bytes.U8Element.room.Goals as goal

pub returns : goal.returns
returns c = slot-count c.args.table.now
