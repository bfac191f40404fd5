-- `status` counts the slots in use and sums their entries' bytes, as far as the log has bytes.
use mathlib.Core.Path.{sym, ◌∙◌}
use Rattle.bitcask.proofs.keydir.CountLaws.{count-within}
use Rattle.bitcask.proofs.compaction.LiveLaws.{counting-bad, counting-over, counting-room, counting_done}
use native.Mathlib.Omega.{arith}
use Rattle.bitcask.proofs.report.status.Goals as goal

pub returns-then-not-fits : goal.returns-then-not-fits
returns-then-not-fits c = let a = c.args in counting-bad a.log.now a.used.len a.table.now (sym c.fits.ensures ∙ c.if-not-fits.true)

pub overflow_sub-result : goal.overflow_sub-result
overflow_sub-result c = let a = c.args in counting-room a.log.now a.used.len a.table.now (sym c.fits.ensures ∙ c.if-not-fits.false) c.count-keys.ensures c.live_upto.ensures _ c.in-Some.is

pub returns-in-None : goal.returns-in-None
returns-in-None c = let a = c.args in counting-over a.log.now a.used.len a.table.now (sym c.fits.ensures ∙ c.if-not-fits.false) c.count-keys.ensures c.live_upto.ensures _ c.in-None.is

pub returns-in-Some : goal.returns-in-Some
returns-in-Some c = let a = c.args in counting_done a.log.now a.used.len a.table.now (sym c.fits.ensures ∙ c.if-not-fits.false) c.count-keys.ensures c.live_upto.ensures _ c.in-Some.is

pub invariant_of-live_upto : goal.invariant_of-live_upto
invariant_of-live_upto c = record { within = omega (arith, count-within c.args.table.now, c.count-keys.ensures) }
