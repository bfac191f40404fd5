-- `status`: 13, then 12.
use borrow.Author.Rules.{rules}
use Rattle.std.specs.Prelude.{Err}
use mathlib.Core.Path.{◌≡◌, ap}
use Rattle.bitcask.specs.engine.Rows.{rows}
use Rattle.bitcask.specs.engine.Views.{marked}
use Rattle.mvcc.proofs.read_only.StatusLaws.{next_positive, states_sizes, states-bad, states_done}
use Rattle.mvcc.proofs.OrLaws.{or_value, or_none}
use Rattle.mvcc.proofs.report.status.Goals as goal

pub overflow_sub-result : goal.overflow_sub-result
overflow_sub-result c = let a = c.args in let y = c.enter.ensures.view _ c.in_ok-view.was in next_positive (rows a.log.now a.table.now c.in_ok-view.view.mark) _ (rw (y.log_is, y.table_is) at c.next_version.ensures) (or_value _ _ c.ok_or.ensures.value _ c.in_ok-next.was)

pub returns-in_err-view : goal.returns-in_err-view
returns-in_err-view c = let a = c.args in let e : c.from_residual.result ≡ Err c.in_err-view.field-0.0 = search rules in rw e (states_sizes a.log.now a.used a.table.now c.enter.ensures.mark _ (ap marked c.in_err-view.was))

pub returns-in_err-next : goal.returns-in_err-next
returns-in_err-next c = let a = c.args in let y = c.enter.ensures.view _ c.in_ok-view.was in let e : c.from_residual-in_err-next.result ≡ Err c.in_err-next.field-0.0 = search rules in let w = or_none _ _ c.ok_or.ensures.value _ c.in_err-next.was in rw (e, w.1) (states-bad a.log.now a.used a.table.now c.enter.ensures.mark _ (ap marked c.in_ok-view.was) (rw (y.log_is, y.table_is) at c.next_version.ensures) (w.0))

pub returns : goal.returns
returns c = let a = c.args in let y = c.enter.ensures.view _ c.in_ok-view.was in states_done a.log.now a.used a.table.now c.enter.ensures.mark _ (ap marked c.in_ok-view.was) (rw (y.log_is, y.table_is) at c.next_version.ensures) (λ i. (c.type_inv.log i).fits) _ (or_value _ _ c.ok_or.ensures.value _ c.in_ok-next.was) _ (rw (y.log_is, y.table_is) at c.open_span-span.ensures) (rw (y.log_is, y.table_is) at c.rows_in-open.ensures)
