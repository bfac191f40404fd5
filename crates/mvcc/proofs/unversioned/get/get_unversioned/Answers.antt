-- `get_unversioned`: 13, the key's length, and then the look-up of its code.
use borrow.Author.Rules.{rules}
use Rattle.std.specs.Prelude.{Err}
use mathlib.Core.Path.{◌≡◌, ap}
use Rattle.bitcask.proofs.engine.LookLaws.{found_stands}
use Rattle.bitcask.specs.engine.Views.{marked}
use Rattle.mvcc.proofs.unversioned.GetLaws.{unversioned-bad, unversioned-long, unversioned-at, unversioned_absent}
use native.Mathlib.Omega.{arith}
use Rattle.mvcc.proofs.unversioned.get.get_unversioned.Goals as goal

pub returns-then-key-gt-MAX_KEY : goal.returns-then-key-gt-MAX_KEY
returns-then-key-gt-MAX_KEY c = let a = c.args in unversioned-long a.log.now a.used a.table.now a.key.now c.enter.ensures.mark _ (ap marked c.in_ok-view.was) c.if-key-gt-MAX_KEY.true

pub value_place-requires : goal.value_place-requires
value_place-requires c = found_stands _ _ c.find.ensures _ c.in-Ok.is

pub returns-in_err-view : goal.returns-in_err-view
returns-in_err-view c = let a = c.args in let e : c.from_residual.result ≡ Err c.in_err-view.field-0.0 = search rules in rw e (unversioned-bad a.log.now a.used a.table.now a.key.now c.enter.ensures.mark _ (ap marked c.in_err-view.was))

pub returns : goal.returns
returns c = let a = c.args in let y = c.enter.ensures.view _ c.in_ok-view.was in unversioned-at a.log.now a.used a.table.now a.key.now c.enter.ensures.mark _ (ap marked c.in_ok-view.was) (omega arith) c.unversioned_code-code.ensures _ (rw (y.log_is, y.table_is, c.as_slice.ensures) at c.find.ensures) _ c.in-Ok.is (rw (y.log_is, y.table_is) at c.value_place.ensures.0)

pub returns-in_default : goal.returns-in_default
returns-in_default c = let a = c.args in let y = c.enter.ensures.view _ c.in_ok-view.was in unversioned_absent a.log.now a.used a.table.now a.key.now c.enter.ensures.mark _ (ap marked c.in_ok-view.was) (omega arith) c.unversioned_code-code.ensures _ (rw (y.log_is, y.table_is, c.as_slice.ensures) at c.find.ensures) _ c.in_default.is
