-- `recovery::waiting::settle` meets its contract. Assumes nothing.
use mathlib.Core.Path.{refl}
use Rattle.bitcask.proofs.recovery.SettleLaws.{settles}
use Rattle.bitcask.proofs.recovery.waiting.settle.Goals as goal

pub returns : goal.returns
returns c =
    let a = c.args in
    (refl, settles a.log.now a.table.now a.pend.now a.h c.requires.0 c.flush-count.ensures)
