-- `recovery::waiting::waits_gone` meets its contract. Assumes nothing.
use Rattle.bitcask.proofs.recovery.SettleLaws.{waits_at, waits_before}
use Rattle.bitcask.proofs.recovery.waiting.waits_gone.Goals as goal

pub returns-in-Ok : goal.returns-in-Ok
returns-in-Ok c =
    let a = c.args in
    waits_at a.pend.now a.waiting a.held _ c.requires.0 c.in-Ok.is c.slot_at.ensures c.is_gone.ensures

pub returns-in-Err : goal.returns-in-Err
returns-in-Err c = let a = c.args in waits_before a.pend.now a.waiting a.held _ c.in-Err.is
