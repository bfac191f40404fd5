-- `open` tests the sizes and walks; the bytes that are left are those of the words.
use Rattle.std.proofs.lemmas.Result.{err_from_is_err_and}
use Rattle.host.proofs.OpenLaws.{open_odd, open_refused, walk_fit, walk_clear, open_done}
use Rattle.host.proofs.opening.open.Goals.{then-ragged-via-then-ragged, then-ragged-via-else-ragged+then-not-fits}
use Rattle.host.proofs.opening.open.Goals as goal

pub returns-then-ragged : goal.returns-then-ragged
returns-then-ragged c =
    let a = c.args in
    let e = c.fill.ensures.after (λ y e. e) in
    elim c.then-ragged.branch [
      | then-ragged-via-then-ragged w ↦ open_odd a.log.now a.used a.table.now e c.fill.auto.self w.if-ragged.true
      | then-ragged-via-else-ragged+then-not-fits w ↦ open_refused a.log.now a.used a.table.now e c.fill.auto.self w.if-ragged.false w.fits.ensures w.if-not-fits.true (λ i. (c.type_inv.table i).fits)
    ]

pub walk-requires : goal.walk-requires
walk-requires c =
    let a = c.args in
    let e = c.fill.ensures.after (λ y e. e) in
    (walk_fit a.log.now a.used a.table.now e c.fill.auto.self c.if-ragged.false c.fits.ensures c.if-not-fits.false, walk_clear a.log.now a.used a.table.now e c.fill.auto.self c.if-ragged.false c.fits.ensures c.if-not-fits.false)

pub returns : goal.returns
returns c =
    let a = c.args in
    let e = c.fill.ensures.after (λ y e. e) in
    open_done a.log.now a.used a.table.now e c.fill.auto.self c.if-ragged.false c.fits.ensures c.if-not-fits.false c.walk.ensures (λ i. (c.type_inv.table i).fits) c.walk.auto.table c.in_ok-walk.was

pub returns-in_err-walk : goal.returns-in_err-walk
returns-in_err-walk c =
    let a = c.args in
    let e = c.fill.ensures.after (λ y e. e) in
    let p = err_from_is_err_and c.from_residual.result c.from_residual.ensures.1 in
    rw (p.1, p.2) (open_done a.log.now a.used a.table.now e c.fill.auto.self c.if-ragged.false c.fits.ensures c.if-not-fits.false c.walk.ensures (λ i. (c.type_inv.table i).fits) c.walk.auto.table c.in_err-walk.was)
