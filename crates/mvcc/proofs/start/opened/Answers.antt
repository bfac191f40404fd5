-- `opened`: 13, then 12, 11, 9, and the rest in `start`.
use mathlib.Core.Path.{◌≡◌, refl, ap}
use borrow.Author.Rules.{rules}
use native.Mathlib.Omega.{arith}
use Rattle.std.specs.Prelude.{Err}
use Rattle.bitcask.specs.engine.Views.{marked}
use Rattle.bitcask.proofs.engine.ViewLaws.{lent_back}
use Rattle.mvcc.proofs.OrLaws.{or_value, or_none}
use Rattle.mvcc.specs.start.Promises.{Begins}
use Rattle.mvcc.proofs.start.StartLaws.{begin_sizes, begin_held, begin_bad, begin_room, begin_spent, begin_many, begin_started}
use Rattle.mvcc.proofs.start.opened.Goals as goal

pub returns-in_err-view : goal.returns-in_err-view
returns-in_err-view c = let a = c.args in let e : c.from_residual.result ≡ Err c.in_err-view.field-0.0 = search rules in rw e (begin_sizes a.log.now a.used a.table.now c.enter.ensures.mark _ (ap marked c.in_err-view.was) refl)

pub returns-in_err-seen : goal.returns-in_err-seen
returns-in_err-seen c = let a = c.args in let y = c.enter.ensures.view _ c.in_ok-view.was in let e : c.from_residual-in_err-seen.result ≡ Err c.in_err-seen.field-0.0 = search rules in let w = or_none _ _ c.ok_or.ensures.value _ c.in_err-seen.was in rw (e, w.1) (begin_bad a.log.now a.used a.table.now c.enter.ensures.mark _ (ap marked c.in_ok-view.was) (λ i. (c.slice_known-1.given i).fits) (rw (y.log_is, y.table_is) at c.look_round.ensures) (w.0) refl)

pub returns-then-handle : goal.returns-then-handle
returns-then-handle c = let a = c.args in let y = c.enter.ensures.view _ c.in_ok-view.was in begin_spent a.log.now a.used a.table.now c.enter.ensures.mark _ (ap marked c.in_ok-view.was) (λ i. (c.slice_known-1.given i).fits) (rw (y.log_is, y.table_is) at c.look_round.ensures) _ (or_value _ _ c.ok_or.ensures.value _ c.in_ok-seen.was) c.if-handle.true refl

pub returns-then-seen-ge-MAX_OPEN : goal.returns-then-seen-ge-MAX_OPEN
returns-then-seen-ge-MAX_OPEN c = let a = c.args in let y = c.enter.ensures.view _ c.in_ok-view.was in begin_many a.log.now a.used a.table.now c.enter.ensures.mark _ (ap marked c.in_ok-view.was) (λ i. (c.slice_known-1.given i).fits) (rw (y.log_is, y.table_is) at c.look_round.ensures) _ (or_value _ _ c.ok_or.ensures.value _ c.in_ok-seen.was) c.if-handle.false c.if-seen-ge-MAX_OPEN.true refl

pub start-requires : goal.start-requires
start-requires c = let a = c.args in let y = c.enter.ensures.view _ c.in_ok-view.was in let w = begin_held a.log.now a.used a.table.now c.enter.ensures.mark _ (ap marked c.in_ok-view.was) (λ i. (c.slice_known-1.given i).fits) in (w.1, omega arith, begin_room a.log.now a.used a.table.now c.enter.ensures.mark _ (ap marked c.in_ok-view.was) (λ i. (c.slice_known-1.given i).fits) (rw (y.log_is, y.table_is) at c.look_round.ensures) _ (or_value _ _ c.ok_or.ensures.value _ c.in_ok-seen.was) c.if-seen-ge-MAX_OPEN.false)

pub returns-in_err-after : goal.returns-in_err-after
returns-in_err-after c = let a = c.args in let y = c.enter.ensures.view _ c.in_ok-view.was in let e : c.from_residual-in_err-after.result ≡ Err c.in_err-after.field-0.0 = search rules in rw e (lent_back (Begins a.log.now a.used.len a.table.now _) (begin_started a.log.now a.used a.table.now c.enter.ensures.mark _ (ap marked c.in_ok-view.was) (λ i. (c.slice_known-1.given i).fits) (rw (y.log_is, y.table_is) at c.look_round.ensures) _ (or_value _ _ c.ok_or.ensures.value _ c.in_ok-seen.was) c.if-handle.false c.if-seen-ge-MAX_OPEN.false (rw c.in_err-after.was at c.start.ensures.appends)) (search rules) (search rules))

pub returns : goal.returns
returns c = let a = c.args in let y = c.enter.ensures.view _ c.in_ok-view.was in lent_back (Begins a.log.now a.used.len a.table.now _) (begin_started a.log.now a.used a.table.now c.enter.ensures.mark _ (ap marked c.in_ok-view.was) (λ i. (c.slice_known-1.given i).fits) (rw (y.log_is, y.table_is) at c.look_round.ensures) _ (or_value _ _ c.ok_or.ensures.value _ c.in_ok-seen.was) c.if-handle.false c.if-seen-ge-MAX_OPEN.false (rw c.in_ok-after.was at c.start.ensures.appends)) (search rules) (search rules)
