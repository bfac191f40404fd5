-- `agrees`: each test that fails rules agreement out, and the count at the end decides.
use mathlib.Core.Path.{sym, subst, ◌∙◌}
use mathlib.Core.Bool.{Bool}
use lib.ListN.{length}
use Rattle.keycode.proofs.Basics.{nope}
use Rattle.bitcask.specs.check.Promises.{Tells}
use Rattle.bitcask.proofs.keydir.CountLaws.{count-within}
use Rattle.bitcask.proofs.recovery.AgreeLaws.{fit-sound}
use Rattle.bitcask.proofs.check.VerdictLaws.{tell_unfit, tell_more, tell_unsorted, zeros_behind, tell_walked}
use native.Mathlib.Omega.{arith}
use Rattle.bitcask.proofs.check.agrees.Goals as goal
use Rattle.bitcask.proofs.check.agrees.Goals.{then-zeros, else-zeros}

pub overflow_mul-n : goal.overflow_mul-n
overflow_mul-n c = omega (arith, count-within c.args.table.now, c.count-n.ensures)

pub offset_bounds-table-n : goal.offset_bounds-table-n
offset_bounds-table-n c = omega (arith, count-within c.args.table.now, c.count-n.ensures)

pub slice_bounds-zeros-start : goal.slice_bounds-zeros-start
slice_bounds-zeros-start c = omega (arith, count-within c.args.table.now, c.count-n.ensures)

pub slice_bounds-zeros-count : goal.slice_bounds-zeros-count
slice_bounds-zeros-count c = omega (arith, count-within c.args.table.now, c.count-n.ensures)

pub walk-requires : goal.walk-requires
walk-requires c =
    let a = c.args in let s = fit-sound (length a.log.now) a.used.len (length a.table.now) (sym c.fits.ensures ∙ c.if-not-fits.false) in
    omega arith

pub returns-then-not-fits : goal.returns-then-not-fits
returns-then-not-fits c = let a = c.args in tell_unfit a.log.now a.used.len a.table.now c.fits.ensures c.if-not-fits.true

pub returns-then-rising : goal.returns-then-rising
returns-then-rising c =
    let a = c.args in
    elim c.if-zeros.branch [
      | then-zeros w ↦
          tell_walked a.log.now a.used.len a.table.now c.count-n.ensures c.fits.ensures c.if-not-fits.false (zeros_behind a.log.now a.used.len a.table.now c.count-n.ensures c.zeros.ensures)
          w.if-zeros.true w.rising.ensures (sym w.value-is ∙ c.if-rising.true) _ c.walk.ensures c.eq.ensures
      | else-zeros w ↦ nope (cc (sym w.value-is ∙ c.if-rising.true, w.if-zeros.false))
    ]

pub returns-else-rising : goal.returns-else-rising
returns-else-rising c =
    let a = c.args in
    let P : Bool → Type 0 = λ b. Tells a.log.now a.used.len a.table.now b in
    elim c.if-zeros.branch [
      | then-zeros w ↦ subst P (sym c.if-rising.false) (tell_unsorted a.log.now a.used.len a.table.now c.count-n.ensures w.rising.ensures (sym w.value-is ∙ c.if-rising.false))
      | else-zeros w ↦ subst P (sym c.if-rising.false) (tell_more a.log.now a.used.len a.table.now c.count-n.ensures (zeros_behind a.log.now a.used.len a.table.now c.count-n.ensures c.zeros.ensures) w.if-zeros.false)
    ]

pub invariant_of-slots : goal.invariant_of-slots
invariant_of-slots c = record { within = omega (arith, count-within c.args.table.now, c.count-n.ensures) }
