-- `leave` removes a slot that is there.
use Rattle.bitcask.proofs.keydir.TableLaws.{leave_at, leave_none}
use Rattle.bitcask.proofs.keydir.place.leave.Goals as goal

pub returns-in-Ok : goal.returns-in-Ok
returns-in-Ok c = let a = c.args in leave_at a.table.now a.count a.found _ c.requires.1 c.requires.0 c.in-Ok.is c.remove.ensures

pub returns-in-Err : goal.returns-in-Err
returns-in-Err c = let a = c.args in leave_none a.table.now a.count a.found _ c.requires.1 c.requires.0 c.in-Err.is
