-- `enter` replaces a slot that is there, and inserts one that is not where there is room.
use Rattle.bitcask.proofs.keydir.TableLaws.{enter_at, enter_full, enter_new}
use Rattle.bitcask.proofs.keydir.place.enter.Goals as goal

pub returns-then-table-count : goal.returns-then-table-count
returns-then-table-count c = let a = c.args in enter_full a.table.now a.count a.found _ c.requires.1 c.requires.0 a.s c.in-Err.is c.if-table-count.true

pub returns-in-Ok : goal.returns-in-Ok
returns-in-Ok c = let a = c.args in enter_at a.table.now a.count a.found _ c.requires.1 c.requires.0 a.s c.in-Ok.is c.replace.ensures

pub returns-else-table-count : goal.returns-else-table-count
returns-else-table-count c = let a = c.args in enter_new a.table.now a.count a.found _ c.requires.1 c.requires.0 a.s c.in-Err.is c.if-table-count.false c.insert.ensures
