-- `scan_step_lem`: 13, and then the first number past both lower bounds, if it is below the upper one's.
use mathlib.Core.Path.{sym, ◌∙◌}
use Rattle.bitcask.specs.keydir.Slots.{slots_of}
use Rattle.bitcask.proofs.keydir.CountLaws.{count-within}
use Rattle.bitcask.proofs.read.ReadLaws.{step-bad, step-none, step-next, start_by}
use native.Mathlib.Omega.{arith}
use Rattle.bitcask.proofs.read.scan_step.Goals as goal

pub returns-then-not-fits : goal.returns-then-not-fits
returns-then-not-fits c = let a = c.args in step-bad a.log.now a.used.len a.table.now a.lower a.low.now a.upper a.high.now a.given a.last.now (sym c.fits.ensures ∙ c.if-not-fits.true)

pub from_bound-a-requires : goal.from_bound-a-requires
from_bound-a-requires c = omega (arith, count-within c.args.table.now, c.count-n.ensures)

pub from_bound-b-requires : goal.from_bound-b-requires
from_bound-b-requires c = omega (arith, count-within c.args.table.now, c.count-n.ensures)

pub upto_bound-end-requires : goal.upto_bound-end-requires
upto_bound-end-requires c = omega (arith, count-within c.args.table.now, c.count-n.ensures)

pub slot_at-s-requires : goal.slot_at-s-requires
slot_at-s-requires c = omega (arith, count-within c.args.table.now, c.count-n.ensures, c.upto_bound-end.ensures.1)

pub returns-then-start-end : goal.returns-then-start-end
returns-then-start-end c =
    let a = c.args in
    step-next a.log.now a.used.len a.table.now a.lower a.low.now a.upper a.high.now a.given a.last.now (sym c.fits.ensures ∙ c.if-not-fits.false) _ _ _ c.count-n.ensures
    (start_by a.log.now (slots_of c.count-n.result a.table.now) a.lower a.low.now a.given a.last.now _ _ _ _ c.from_bound-a.ensures.0 c.last_bound.ensures c.from_bound-b.ensures.0 c.max-start.ensures)
    c.upto_bound-end.ensures.0 c.upto_bound-end.ensures.1 _ _ _ c.if-start-end.true c.slot_at-s.ensures c.key_part.ensures c.value_part.ensures

pub returns : goal.returns
returns c =
    let a = c.args in
    step-none a.log.now a.used.len a.table.now a.lower a.low.now a.upper a.high.now a.given a.last.now (sym c.fits.ensures ∙ c.if-not-fits.false) _ _ _ c.count-n.ensures
    (start_by a.log.now (slots_of c.count-n.result a.table.now) a.lower a.low.now a.given a.last.now _ _ _ _ c.from_bound-a.ensures.0 c.last_bound.ensures c.from_bound-b.ensures.0 c.max-start.ensures)
    c.upto_bound-end.ensures.0 c.upto_bound-end.ensures.1 c.if-start-end.false
