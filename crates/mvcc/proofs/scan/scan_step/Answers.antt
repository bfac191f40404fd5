-- `scan_step`: the checks, and then the walk.
use borrow.Author.Rules.{rules}
use Rattle.std.specs.Prelude.{Err}
use mathlib.Core.Path.{sym, ap, ◌∙◌, ◌≡◌}
use Rattle.bitcask.specs.declared.engine.mark.Mark.{Mark}
use Rattle.bitcask.specs.engine.Rows.{rows}
use Rattle.bitcask.specs.engine.Views.{marked}
use Rattle.mvcc.specs.scan.Bounds.{scan_rows}
use Rattle.mvcc.specs.walk.Walks.{step_rows}
use Rattle.mvcc.proofs.scan.BoundLaws.{flag_keys, flag_rows}
use Rattle.mvcc.proofs.scan.AgreedLaws.{scan_agrees}
use Rattle.mvcc.proofs.scan.StepLaws.{scan_refused, scan_long, scan_done}
use Rattle.mvcc.proofs.scan.scan_step.Goals as goal

pub step_between-requires : goal.step_between-requires
step_between-requires c = let a = c.args in (sym c.keys_fit.ensures ∙ c.if-not-keys_fit.false)

pub returns-in_err-view : goal.returns-in_err-view
returns-in_err-view c = let a = c.args in let e : c.from_residual.result ≡ Err c.in_err-view.field-0.0 = search rules in rw e (scan_refused a.log.now a.used a.table.now a.handle _ _ (λ (m : Mark). scan_rows a.lower a.low.now a.upper a.high.now a.given a.last.now (rows a.log.now a.table.now m)) (scan_agrees a.lower a.low.now a.upper a.high.now a.given a.last.now a.log.now a.table.now) c.admit.ensures.mark _ (ap marked c.in_err-view.was))

pub returns : goal.returns
returns c = let a = c.args in let y = c.admit.ensures.view _ c.in_ok-view.was in scan_done a.log.now a.used a.table.now a.handle _ _ (λ (m : Mark). scan_rows a.lower a.low.now a.upper a.high.now a.given a.last.now (rows a.log.now a.table.now m)) (scan_agrees a.lower a.low.now a.upper a.high.now a.given a.last.now a.log.now a.table.now) c.admit.ensures.mark _ (ap marked c.in_ok-view.was) (c.keys_fit.ensures ∙ flag_keys _ _ c.then_some-past.ensures a.lower a.low.now a.upper a.high.now) c.if-not-keys_fit.false ((rw (y.log_is, y.table_is) at c.step_between.ensures) ∙ ap (step_rows a.handle a.log.now) (flag_rows _ _ c.then_some-past.ensures _ _ _ _ _))

pub returns-then-not-keys_fit : goal.returns-then-not-keys_fit
returns-then-not-keys_fit c = let a = c.args in scan_long a.log.now a.used a.table.now a.handle _ _ (λ (m : Mark). scan_rows a.lower a.low.now a.upper a.high.now a.given a.last.now (rows a.log.now a.table.now m)) (scan_agrees a.lower a.low.now a.upper a.high.now a.given a.last.now a.log.now a.table.now) c.admit.ensures.mark _ (ap marked c.in_ok-view.was) (c.keys_fit.ensures ∙ flag_keys _ _ c.then_some-past.ensures a.lower a.low.now a.upper a.high.now) c.if-not-keys_fit.true
