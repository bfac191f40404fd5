-- `to_close`: the checks, a read-only handle, and what its end starts from.
use mathlib.Core.Path.{◌≡◌, ap}
use borrow.Author.Rules.{rules}
use Rattle.std.specs.Prelude.{Err}
use Rattle.bitcask.specs.engine.Views.{marked}
use Rattle.mvcc.proofs.end.to_close.Goals as goal

pub returns-in_err-view : goal.returns-in_err-view
returns-in_err-view c = let e : c.from_residual.result ≡ Err c.in_err-view.field-0.0 = search rules in rw e (rw (ap marked c.in_err-view.was) at c.admit.ensures.mark)

pub returns-then-handle : goal.returns-then-handle
returns-then-handle c = (_, rw (ap marked c.in_ok-view.was) at c.admit.ensures.mark, c.if-handle.true)

pub returns : goal.returns
returns c = let y = c.admit.ensures.view _ c.in_ok-view.was in record { admits = rw (ap marked c.in_ok-view.was) at c.admit.ensures.mark; writes = c.if-handle.false; records = rw (y.log_is, y.table_is) at c.write_span-span.ensures; own = c.active_code-code.ensures }
