-- `allowed`: the checks of every call, then 2, 4 and 5.
use borrow.Author.Rules.{rules}
use Rattle.std.specs.Prelude.{Err}
use mathlib.Core.Path.{◌≡◌, ap}
use Rattle.bitcask.specs.engine.Views.{marked}
use Rattle.bitcask.proofs.engine.ViewLaws.{viewed_none, viewed_of}
use Rattle.mvcc.proofs.write.WriteLaws.{allows_refused, allows_reads, allows_long, allows_fine}
use Rattle.mvcc.proofs.write.allowed.Goals as goal

pub returns-then-handle : goal.returns-then-handle
returns-then-handle c = let a = c.args in record { mark = allows_reads a.log.now a.used a.table.now a.handle a.klen a.vlen c.admit.ensures.mark _ (ap marked c.in_ok-view.was) c.if-handle.true; view = viewed_none _ }

pub returns-in_err-view : goal.returns-in_err-view
returns-in_err-view c = let a = c.args in let e : c.from_residual.result ≡ Err c.in_err-view.field-0.0 = search rules in rw e (record { mark = allows_refused a.log.now a.used a.table.now a.handle a.klen a.vlen c.admit.ensures.mark _ (ap marked c.in_err-view.was); view = viewed_none _ })

pub returns-in_err-sized : goal.returns-in_err-sized
returns-in_err-sized c = let a = c.args in let e : c.from_residual-in_err-sized.result ≡ Err c.in_err-sized.field-0.0 = search rules in rw e (record { mark = allows_long a.log.now a.used a.table.now a.handle a.klen a.vlen c.admit.ensures.mark _ (ap marked c.in_ok-view.was) c.if-handle.false c.sized.ensures _ c.in_err-sized.was; view = viewed_none _ })

pub returns : goal.returns
returns c = let a = c.args in record { mark = allows_fine a.log.now a.used a.table.now a.handle a.klen a.vlen c.admit.ensures.mark _ (ap marked c.in_ok-view.was) c.if-handle.false c.sized.ensures c.in_ok-sized.was; view = viewed_of (c.admit.ensures.view _ c.in_ok-view.was) }
