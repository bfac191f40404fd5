-- `reading`: 13, then 12, then 9.
use mathlib.Core.Path.{◌≡◌, refl, ap}
use borrow.Author.Rules.{rules}
use Rattle.std.specs.Prelude.{Err}
use Rattle.bitcask.specs.engine.Views.{marked}
use Rattle.mvcc.proofs.OrLaws.{or_value, or_none}
use Rattle.mvcc.proofs.read_only.ReadingLaws.{reading_sizes, reading_bad, reading_many, reading_done}
use Rattle.mvcc.proofs.read_only.reading.Goals as goal

pub returns-in_err-view : goal.returns-in_err-view
returns-in_err-view c = let a = c.args in let e : c.from_residual.result ≡ Err c.in_err-view.field-0.0 = search rules in rw e (reading_sizes a.log.now a.used a.table.now c.enter.ensures.mark _ (ap marked c.in_err-view.was) refl)

pub returns-in_err-seen : goal.returns-in_err-seen
returns-in_err-seen c = let a = c.args in let y = c.enter.ensures.view _ c.in_ok-view.was in let e : c.from_residual-in_err-seen.result ≡ Err c.in_err-seen.field-0.0 = search rules in let w = or_none _ _ c.ok_or.ensures.value _ c.in_err-seen.was in rw (e, w.1) (reading_bad a.log.now a.used a.table.now c.enter.ensures.mark _ (ap marked c.in_ok-view.was) (λ i. (c.type_inv.log i).fits) (rw (y.log_is, y.table_is) at c.look_round.ensures) (w.0) refl)

pub returns-then-seen-gt-MAX_OPEN : goal.returns-then-seen-gt-MAX_OPEN
returns-then-seen-gt-MAX_OPEN c = let a = c.args in let y = c.enter.ensures.view _ c.in_ok-view.was in reading_many a.log.now a.used a.table.now c.enter.ensures.mark _ (ap marked c.in_ok-view.was) (λ i. (c.type_inv.log i).fits) (rw (y.log_is, y.table_is) at c.look_round.ensures) _ (or_value _ _ c.ok_or.ensures.value _ c.in_ok-seen.was) c.if-seen-gt-MAX_OPEN.true refl

pub returns : goal.returns
returns c = let a = c.args in let y = c.enter.ensures.view _ c.in_ok-view.was in reading_done a.log.now a.used a.table.now c.enter.ensures.mark _ (ap marked c.in_ok-view.was) (λ i. (c.type_inv.log i).fits) (rw (y.log_is, y.table_is) at c.look_round.ensures) _ (or_value _ _ c.ok_or.ensures.value _ c.in_ok-seen.was) c.if-seen-gt-MAX_OPEN.false refl
