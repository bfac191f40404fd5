-- `get`: 13, one look-up, and the place of the value.
use mathlib.Core.Path.{sym, ◌∙◌}
use Rattle.bitcask.proofs.keydir.CountLaws.{count-within}
use Rattle.bitcask.proofs.read.RankLaws.{found_at}
use Rattle.bitcask.proofs.read.ReadLaws.{get_bad, get_absent, get_at}
use native.Mathlib.Omega.{arith}
use Rattle.bitcask.proofs.read.get.Goals as goal

pub returns-then-not-fits : goal.returns-then-not-fits
returns-then-not-fits c = let a = c.args in get_bad a.log.now a.used.len a.table.now a.key.now (sym c.fits.ensures ∙ c.if-not-fits.true)

pub find-requires : goal.find-requires
find-requires c = omega (arith, count-within c.args.table.now, c.count-n.ensures)

pub slot_at-requires : goal.slot_at-requires
slot_at-requires c = let a = c.args in omega (arith, count-within a.table.now, c.count-n.ensures, found_at a.log.now a.key.now a.table.now c.count-n.result _ c.find.ensures c.in-Ok.i c.in-Ok.is)

pub returns-in-Ok : goal.returns-in-Ok
returns-in-Ok c = let a = c.args in get_at a.log.now a.used.len a.table.now a.key.now (sym c.fits.ensures ∙ c.if-not-fits.false) _ c.count-n.ensures _ c.find.ensures _ _ _ c.in-Ok.is c.slot_at.ensures c.value_part.ensures

pub returns-in-Err : goal.returns-in-Err
returns-in-Err c = let a = c.args in get_absent a.log.now a.used.len a.table.now a.key.now (sym c.fits.ensures ∙ c.if-not-fits.false) _ c.count-n.ensures _ c.find.ensures _ c.in-Err.is
