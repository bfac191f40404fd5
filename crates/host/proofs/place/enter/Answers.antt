-- `enter` replaces a slot that is there, and inserts one that is not where there is room.
use Rattle.bitcask.proofs.keydir.HalveLaws.{among-at, among-before}
use Rattle.bitcask.proofs.keydir.TableLaws.{enter_at, enter_full, enter_new}
use native.Mathlib.Omega.{arith}
use Rattle.host.proofs.place.enter.Goals as goal

pub replace-requires : goal.replace-requires
replace-requires g c = let a = c.args in (among-at a.count a.found _ c.requires.0 c.in-Ok.is, c.requires.1)

pub returns-then-room-count : goal.returns-then-room-count
returns-then-room-count g c = let a = c.args in enter_full (g.E.Element.words a.table.now) a.count a.found _ c.requires.1 c.requires.0 a.s c.in-Err.is (omega (arith, c.room.ensures, c.if-room-count.true))

pub insert-requires : goal.insert-requires
insert-requires g c = let a = c.args in (among-before a.count a.found _ c.requires.0 c.in-Err.is, omega (arith, c.room.ensures))

pub returns-in-Ok : goal.returns-in-Ok
returns-in-Ok g c = let a = c.args in enter_at (g.E.Element.words a.table.now) a.count a.found _ c.requires.1 c.requires.0 a.s c.in-Ok.is c.replace.ensures

pub returns-else-room-count : goal.returns-else-room-count
returns-else-room-count g c = let a = c.args in enter_new (g.E.Element.words a.table.now) a.count a.found _ c.requires.1 c.requires.0 a.s c.in-Err.is (omega (arith, c.room.ensures, c.if-room-count.false)) c.insert.ensures
