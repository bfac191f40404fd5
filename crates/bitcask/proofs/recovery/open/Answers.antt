-- `recovery::opening::open` meets its contract. Assumes nothing.
use Rattle.bitcask.proofs.recovery.WalkLaws.{open_bad, open_sound, open_clear, open_walked}
use native.Mathlib.Omega.{arith}
use Rattle.bitcask.proofs.recovery.open.Goals as goal

pub returns-then-not-fits : goal.returns-then-not-fits
returns-then-not-fits c = let a = c.args in open_bad a.log.now a.used.len a.table.now (c.fill.ensures.after (λ y e. e)) c.fill.auto.self c.fits.ensures c.if-not-fits.true

pub walk-requires : goal.walk-requires
walk-requires c =
    let a = c.args in
    let q = c.if-not-fits.false in
    let s = open_sound a.log.now a.used.len a.table.now (c.fill.ensures.after (λ y e. e)) c.fill.auto.self c.fits.ensures q in
    (omega arith, open_clear a.log.now a.used.len a.table.now (c.fill.ensures.after (λ y e. e)) c.fill.auto.self c.fits.ensures q)

pub returns : goal.returns
returns c = let a = c.args in open_walked a.log.now a.used.len a.table.now (c.fill.ensures.after (λ y e. e)) c.fill.auto.self c.fits.ensures c.if-not-fits.false c.walk.ensures
