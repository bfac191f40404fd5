-- `set_unversioned`: 13, the lengths, and one set by the key's code.
use borrow.Author.Rules.{rules}
use Rattle.std.specs.Prelude.{Err}
use mathlib.Core.Path.{◌≡◌, ap}
use Rattle.bitcask.specs.engine.Views.{marked}
use Rattle.bitcask.proofs.engine.ViewLaws.{lent_back}
use Rattle.mvcc.specs.unversioned.Promises.{SetsPlain}
use Rattle.mvcc.proofs.unversioned.SetLaws.{plain_unfit, plain_held, plain_refused, plain_short, plain_tried}
use Rattle.mvcc.proofs.unversioned.set.set_unversioned.Goals as goal

pub unversioned_code-code-requires : goal.unversioned_code-code-requires
unversioned_code-code-requires c = let a = c.args in plain_short a.log.now a.used a.table.now a.key.now a.value.now c.enter.ensures.mark _ (ap marked c.in_ok-view.was) _ c.sized.ensures c.in_ok-sized.was

pub append_one-requires : goal.append_one-requires
append_one-requires c = let a = c.args in (plain_held a.log.now a.used a.table.now a.key.now a.value.now c.enter.ensures.mark _ (ap marked c.in_ok-view.was) _ c.sized.ensures).1

pub returns-in_err-view : goal.returns-in_err-view
returns-in_err-view c = let a = c.args in let e : c.from_residual.result ≡ Err c.in_err-view.field-0.0 = search rules in rw e (plain_unfit a.log.now a.used a.table.now a.key.now a.value.now c.enter.ensures.mark _ (ap marked c.in_err-view.was))

pub returns-in_err-sized : goal.returns-in_err-sized
returns-in_err-sized c = let a = c.args in let e : c.from_residual-in_err-sized.result ≡ Err c.in_err-sized.field-0.0 = search rules in rw e (plain_refused a.log.now a.used a.table.now a.key.now a.value.now c.enter.ensures.mark _ (ap marked c.in_ok-view.was) _ c.sized.ensures _ c.in_err-sized.was)

pub returns : goal.returns
returns c = let a = c.args in lent_back (SetsPlain a.log.now a.used.len a.table.now a.key.now a.value.now c.append_one.result) (plain_tried a.log.now a.used a.table.now a.key.now a.value.now c.enter.ensures.mark _ (ap marked c.in_ok-view.was) _ c.sized.ensures c.in_ok-sized.was _ c.unversioned_code-code.ensures _ _ _ (rw c.as_slice.ensures at c.append_one.ensures.appends)) (search rules) (search rules)
