-- `past`: 13, then 12 for NextVersion, 10, then the snapshot.
use mathlib.Core.Path.{◌≡◌, refl, ap}
use borrow.Author.Rules.{rules}
use Rattle.std.specs.Prelude.{Err}
use Rattle.bitcask.specs.engine.Views.{marked}
use Rattle.mvcc.proofs.OrLaws.{or_value, or_none}
use Rattle.mvcc.proofs.as_of.PastLaws.{as_of_sizes, as_of_bad, as_of_late, as_of_done, as_of_refused}
use Rattle.mvcc.proofs.as_of.past.Goals as goal

pub returns-in_err-view : goal.returns-in_err-view
returns-in_err-view c = let a = c.args in let e : c.from_residual.result ≡ Err c.in_err-view.field-0.0 = search rules in rw e (as_of_sizes a.log.now a.used a.table.now a.version c.enter.ensures.mark _ (ap marked c.in_err-view.was) refl)

pub returns-in_err-next : goal.returns-in_err-next
returns-in_err-next c = let a = c.args in let y = c.enter.ensures.view _ c.in_ok-view.was in let e : c.from_residual-in_err-next.result ≡ Err c.in_err-next.field-0.0 = search rules in let w = or_none _ _ c.ok_or.ensures.value _ c.in_err-next.was in rw (e, w.1) (as_of_bad a.log.now a.used a.table.now a.version c.enter.ensures.mark _ (ap marked c.in_ok-view.was) (rw (y.log_is, y.table_is) at c.next_version.ensures) (w.0) refl)

pub returns-then-next-version : goal.returns-then-next-version
returns-then-next-version c = let a = c.args in let y = c.enter.ensures.view _ c.in_ok-view.was in as_of_late a.log.now a.used a.table.now a.version c.enter.ensures.mark _ (ap marked c.in_ok-view.was) (rw (y.log_is, y.table_is) at c.next_version.ensures) _ (or_value _ _ c.ok_or.ensures.value _ c.in_ok-next.was) c.if-next-version.true refl

pub returns-in_err-handle : goal.returns-in_err-handle
returns-in_err-handle c = let a = c.args in let y = c.enter.ensures.view _ c.in_ok-view.was in let e : c.from_residual-in_err-handle.result ≡ Err c.in_err-handle.field-0.0 = search rules in rw e (as_of_refused a.log.now a.used a.table.now a.version c.enter.ensures.mark _ (ap marked c.in_ok-view.was) (rw (y.log_is, y.table_is) at c.next_version.ensures) _ (or_value _ _ c.ok_or.ensures.value _ c.in_ok-next.was) c.if-next-version.false (rw (y.log_is, y.table_is) at c.stored.ensures) _ c.in_err-handle.was refl)

pub returns : goal.returns
returns c = let a = c.args in let y = c.enter.ensures.view _ c.in_ok-view.was in as_of_done a.log.now a.used a.table.now a.version c.enter.ensures.mark _ (ap marked c.in_ok-view.was) (rw (y.log_is, y.table_is) at c.next_version.ensures) _ (or_value _ _ c.ok_or.ensures.value _ c.in_ok-next.was) c.if-next-version.false (rw (y.log_is, y.table_is) at c.stored.ensures) _ c.in_ok-handle.was refl
