-- `commit` is the end by its way.
use mathlib.Core.Path.{◌≡◌, refl}
use borrow.Author.Rules.{rules}
use Rattle.std.specs.Prelude.{Err}
use Rattle.bitcask.proofs.engine.PrefixLaws.{prefix_within}
use Rattle.bitcask.proofs.engine.ViewLaws.{lent_back}
use Rattle.mvcc.specs.end.Promises.{Commits}
use Rattle.mvcc.specs.end.Ways.{by_commit}
use Rattle.mvcc.proofs.admission.AdmitLaws.{fine_held}
use Rattle.mvcc.proofs.end.FinishLaws.{commits-so, finish_refused, finish_mark, finish_reads, finish_clears}
use Rattle.mvcc.proofs.end.commit.commit.Goals as goal

pub returns-in_err-closing : goal.returns-in_err-closing
returns-in_err-closing c =
    let a = c.args in
    let e : c.from_residual.result ≡ Err c.in_err-closing.field-0.0 = search rules in
    rw e (commits-so (finish_refused a.log.now a.used a.table.now a.handle c.in_err-closing.ensures by_commit _ refl))

pub returns-in_default : goal.returns-in_default
returns-in_default c =
    let a = c.args in
    let w = rw c.in_default.is at c.in_ok-closing.ensures in
    commits-so (finish_reads a.log.now a.used a.table.now a.handle w.1 w.0 refl by_commit w.2)

pub invariant_of-clear : goal.invariant_of-clear
invariant_of-clear c =
    let a = c.args in
    let w = rw c.in-Some.is at c.in_ok-closing.ensures in
    record { held = fine_held a.log.now a.used a.table.now a.handle w.admits _ refl }

pub clear-requires : goal.clear-requires
clear-requires c =
    let a = c.args in
    let w = rw c.in-Some.is at c.in_ok-closing.ensures in
    (finish_mark a.log.now a.used a.table.now a.handle w.admits _ refl, prefix_within _ _ w.records)

pub returns : goal.returns
returns c =
    let a = c.args in
    let w = rw c.in-Some.is at c.in_ok-closing.ensures in
    lent_back (Commits a.log.now a.used.len a.table.now a.handle c.clear.result)
    (commits-so (finish_clears a.log.now a.used a.table.now a.handle w.admits _ refl w.writes (λ i. (c.slice_known-1.given i).fits) _ w.records _ w.own (rw c.as_slice.ensures at c.clear.ensures.clears)))
    (search rules) (search rules)
