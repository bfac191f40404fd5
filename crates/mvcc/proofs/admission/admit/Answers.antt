-- `admit`: 13 for the sizes, then for the handle, then 3.
use borrow.Author.Rules.{rules}
use Rattle.std.specs.Prelude.{Err}
use mathlib.Core.Path.{◌≡◌, ap}
use Rattle.bitcask.specs.engine.Views.{marked}
use Rattle.bitcask.proofs.engine.ViewLaws.{viewed_none, viewed_of}
use Rattle.mvcc.proofs.admission.AdmitLaws.{admit_out, admit_handle, admit_fine, admit_closed}
use Rattle.std.proofs.lemmas.Bool.{not_from_true, not_from_false}
use Rattle.mvcc.proofs.admission.admit.Goals as goal

pub returns-then-not-sound : goal.returns-then-not-sound
returns-then-not-sound c = let a = c.args in record { mark = admit_handle a.log.now a.used a.table.now a.handle c.enter.ensures.mark (ap marked c.in_ok-view.was) c.sound.ensures (not_from_false _ c.if-not-sound.true); view = viewed_none _ }

pub returns-in_err-view : goal.returns-in_err-view
returns-in_err-view c = let a = c.args in let e : c.from_residual.result ≡ Err c.in_err-view.field-0.0 = search rules in rw e (record { mark = admit_out a.log.now a.used a.table.now a.handle c.enter.ensures.mark _ (ap marked c.in_err-view.was); view = viewed_none _ })

pub returns-then-open : goal.returns-then-open
returns-then-open c = let a = c.args in let y = c.enter.ensures.view _ c.in_ok-view.was in record { mark = admit_fine a.log.now a.used a.table.now a.handle c.enter.ensures.mark (ap marked c.in_ok-view.was) c.sound.ensures (not_from_true _ c.if-not-sound.false) (rw (y.log_is, y.table_is) at c.open.ensures) c.if-open.true; view = viewed_of y }

pub returns-else-open : goal.returns-else-open
returns-else-open c = let a = c.args in let y = c.enter.ensures.view _ c.in_ok-view.was in record { mark = admit_closed a.log.now a.used a.table.now a.handle c.enter.ensures.mark (ap marked c.in_ok-view.was) c.sound.ensures (not_from_true _ c.if-not-sound.false) (rw (y.log_is, y.table_is) at c.open.ensures) c.if-open.false; view = viewed_none _ }
