-- `get`: the checks, the key's length, and then the walk.
use borrow.Author.Rules.{rules}
use Rattle.std.specs.Prelude.{Err}
use mathlib.Core.Path.{◌≡◌, ap}
use Rattle.bitcask.specs.engine.Views.{marked}
use Rattle.mvcc.proofs.read.GetLaws.{get_refused, get_long, get_seen}
use Rattle.mvcc.proofs.read.get.get.Goals as goal

pub returns-then-key-gt-MAX_KEY : goal.returns-then-key-gt-MAX_KEY
returns-then-key-gt-MAX_KEY c = let a = c.args in get_long a.log.now a.used a.table.now a.handle a.key.now c.admit.ensures.mark _ (ap marked c.in_ok-view.was) c.if-key-gt-MAX_KEY.true

pub highest-requires : goal.highest-requires
highest-requires c = let a = c.args in (c.if-key-gt-MAX_KEY.false)

pub returns-in_err-view : goal.returns-in_err-view
returns-in_err-view c = let a = c.args in let e : c.from_residual.result ≡ Err c.in_err-view.field-0.0 = search rules in rw e (get_refused a.log.now a.used a.table.now a.handle a.key.now c.admit.ensures.mark _ (ap marked c.in_err-view.was))

pub returns : goal.returns
returns c = let a = c.args in let y = c.admit.ensures.view _ c.in_ok-view.was in get_seen a.log.now a.used a.table.now a.handle a.key.now c.admit.ensures.mark _ (ap marked c.in_ok-view.was) c.if-key-gt-MAX_KEY.false (rw (y.log_is, y.table_is) at c.highest.ensures) c.located.ensures
