-- `rollback` is the end by its way.
use mathlib.Core.Path.{◌≡◌, refl}
use borrow.Author.Rules.{rules}
use Rattle.std.specs.Prelude.{Err}
use Rattle.bitcask.proofs.engine.PrefixLaws.{prefix_within}
use Rattle.mvcc.specs.end.Ways.{by_rollback}
use Rattle.mvcc.proofs.admission.AdmitLaws.{fine_held}
use Rattle.mvcc.proofs.end.FinishLaws.{rolls_so, finish_refused, finish_mark, finish_reads, finish_undoes}
use Rattle.mvcc.proofs.end.rollback.rollback.Goals as goal

pub returns-in_err-closing : goal.returns-in_err-closing
returns-in_err-closing c =
    let a = c.args in
    let e : c.from_residual.result ≡ Err c.in_err-closing.field-0.0 = search rules in
    rw e (rolls_so (finish_refused a.log.now a.used a.table.now a.handle c.in_err-closing.ensures by_rollback _ refl))

pub returns-in_default : goal.returns-in_default
returns-in_default c =
    let a = c.args in
    let w = rw c.in_default.is at c.in_ok-closing.ensures in
    rolls_so (finish_reads a.log.now a.used a.table.now a.handle w.1 w.0 refl by_rollback w.2)

pub undo-requires : goal.undo-requires
undo-requires c =
    let a = c.args in
    let w = rw c.in-Some.is at c.in_ok-closing.ensures in
    (fine_held a.log.now a.used a.table.now a.handle w.admits _ refl, finish_mark a.log.now a.used a.table.now a.handle w.admits _ refl, prefix_within _ _ w.records)

pub returns : goal.returns
returns c =
    let a = c.args in
    let w = rw c.in-Some.is at c.in_ok-closing.ensures in
    rolls_so (finish_undoes a.log.now a.used a.table.now a.handle w.admits _ refl w.writes (λ i. (c.slice_known-1.given i).fits) _ w.records _ w.own (rw c.as_slice.ensures at c.undo.ensures))
