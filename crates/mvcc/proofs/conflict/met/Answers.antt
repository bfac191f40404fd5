-- `met`: a version that the handle sees is fine, another is a conflict, and no version is damage.
use borrow.Author.Rules.{rules}
use Rattle.std.specs.Prelude.{Err}
use mathlib.Core.Path.{◌≡◌}
use Rattle.mvcc.proofs.conflict.SearchLaws.{met_bad, met_fine, met_other}
use Rattle.mvcc.proofs.OrLaws.{or_value, or_none}
use Rattle.mvcc.proofs.conflict.met.Goals as goal

pub returns-in_err-version : goal.returns-in_err-version
returns-in_err-version c = let a = c.args in let e : c.from_residual.result ≡ Err c.in_err-version.field-0.0 = search rules in let w = or_none _ _ c.ok_or.ensures.value _ c.in_err-version.was in rw (e, w.1) (met_bad a.handle a.key.now c.version_of.ensures (w.0))

pub returns-then-sees : goal.returns-then-sees
returns-then-sees c =
    let a = c.args in
    met_fine a.handle a.key.now c.version_of.ensures _ (or_value _ _ c.ok_or.ensures.value _ c.in_ok-version.was) c.sees.ensures c.if-sees.true

pub returns-else-sees : goal.returns-else-sees
returns-else-sees c =
    let a = c.args in
    met_other a.handle a.key.now c.version_of.ensures _ (or_value _ _ c.ok_or.ensures.value _ c.in_ok-version.was) c.sees.ensures c.if-sees.false
