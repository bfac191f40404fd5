-- `leave` removes a slot that is there.
use Rattle.bitcask.proofs.keydir.HalveLaws.{among-at}
use Rattle.bitcask.proofs.keydir.TableLaws.{leave_at, leave_none}
use native.Mathlib.Omega.{arith}
use Rattle.host.proofs.place.leave.Goals as goal

pub remove-requires : goal.remove-requires
remove-requires g c = let a = c.args in (among-at a.count a.found _ c.requires.0 c.in-Ok.is, c.requires.1)

pub overflow_sub-result : goal.overflow_sub-result
overflow_sub-result g c = let h = among-at c.args.count c.args.found _ c.requires.0 c.in-Ok.is in omega arith

pub returns-in-Ok : goal.returns-in-Ok
returns-in-Ok g c = let a = c.args in leave_at (g.E.Element.words a.table.now) a.count a.found _ c.requires.1 c.requires.0 c.in-Ok.is c.remove.ensures

pub returns-in-Err : goal.returns-in-Err
returns-in-Err g c = let a = c.args in leave_none (g.E.Element.words a.table.now) a.count a.found _ c.requires.1 c.requires.0 c.in-Err.is
