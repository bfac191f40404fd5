-- `write`: the checks, the search, and the two entries.
use borrow.Author.Rules.{rules}
use Rattle.std.specs.Prelude.{Err}
use mathlib.Core.Path.{refl, ◌≡◌, ap}
use mathlib.Core.List.{◌++◌}
use lib.ListN.{length}
use Rattle.bitcask.specs.engine.Views.{marked}
use Rattle.bitcask.proofs.engine.ViewLaws.{lent_back}
use Rattle.mvcc.specs.write.Promises.{Writes}
use Rattle.mvcc.proofs.write.WriteLaws.{write_refused, mark-counts, key-short, value-small, write_found, write_laid}
use Rattle.mvcc.proofs.write.write.Goals as goal

pub search-requires : goal.search-requires
search-requires c = let a = c.args in key-short a.log.now a.used a.table.now a.handle a.key.now (a.head.now ++ a.body.now) (length a.body.now) c.allowed.ensures.mark _ (ap marked c.in_ok-view.was)

pub laid-requires : goal.laid-requires
laid-requires c = let a = c.args in (mark-counts a.log.now a.used a.table.now a.handle a.key.now (a.head.now ++ a.body.now) (length a.body.now) c.allowed.ensures.mark _ (ap marked c.in_ok-view.was), key-short a.log.now a.used a.table.now a.handle a.key.now (a.head.now ++ a.body.now) (length a.body.now) c.allowed.ensures.mark _ (ap marked c.in_ok-view.was), c.requires, value-small a.log.now a.used a.table.now a.handle a.key.now (a.head.now ++ a.body.now) (length a.body.now) c.allowed.ensures.mark _ (ap marked c.in_ok-view.was))

pub shape_of-log-in_err-view : goal.shape_of-log-in_err-view
shape_of-log-in_err-view c = refl

pub shape_of-table-in_err-view : goal.shape_of-table-in_err-view
shape_of-table-in_err-view c = refl

pub returns-in_err-view : goal.returns-in_err-view
returns-in_err-view c = let a = c.args in let e : c.from_residual.result ≡ Err c.in_err-view.field-0.0 = search rules in rw e (write_refused a.log.now a.used a.table.now a.handle a.key.now (a.head.now ++ a.body.now) (length a.body.now) c.allowed.ensures.mark _ (ap marked c.in_err-view.was))

pub shape_of-log-in_err-search : goal.shape_of-log-in_err-search
shape_of-log-in_err-search c = refl

pub shape_of-table-in_err-search : goal.shape_of-table-in_err-search
shape_of-table-in_err-search c = refl

pub returns-in_err-search : goal.returns-in_err-search
returns-in_err-search c = let a = c.args in let y = c.allowed.ensures.view _ c.in_ok-view.was in let e : c.from_residual-in_err-search.result ≡ Err c.in_err-search.field-0.0 = search rules in rw e (write_found a.log.now a.used a.table.now a.handle a.key.now (a.head.now ++ a.body.now) (length a.body.now) c.allowed.ensures.mark _ (ap marked c.in_ok-view.was) _ (rw (y.log_is, y.table_is) at c.search.ensures) _ c.in_err-search.was)

pub returns : goal.returns
returns c = let a = c.args in let y = c.allowed.ensures.view _ c.in_ok-view.was in lent_back (Writes a.log.now a.used.len a.table.now a.handle a.key.now (a.head.now ++ a.body.now) (length a.body.now) c.laid.result) (write_laid a.log.now a.used a.table.now a.handle a.key.now (a.head.now ++ a.body.now) (length a.body.now) c.allowed.ensures.mark _ (ap marked c.in_ok-view.was) _ (rw (y.log_is, y.table_is) at c.search.ensures) c.in_ok-search.was _ _ _ c.laid.ensures.appends) (search rules) (search rules)
