-- `read_string` takes a string where it ends and is UTF-8; a fault of its escapes comes first.
use mathlib.Core.Path.{◌≡◌}
use native.Mathlib.Omega.{arith}
use Rattle.std.proofs.Common.{rules}
use Rattle.std.specs.Prelude.{Err}
use Rattle.rows.proofs.CheckLaws.{some_from, none_from}
use Rattle.rows.proofs.FieldLaws.{string_within, text_read, text_wrong, text_broken}
use Rattle.rows.proofs.decoding.read_string.Goals as goal

pub returns-in_err-end : goal.returns-in_err-end
returns-in_err-end c =
    let e : c.from_residual.result ≡ Err c.in_err-end.field-0.0 = search rules in
    let n = none_from _ _ _ _ c.ok_or.ensures.value c.in_err-end.was in
    rw (e, n.1) (text_broken c.args.key.now c.args.at c.requires _ c.string_at.ensures n.0)

pub overflow_sub-result : goal.overflow_sub-result
overflow_sub-result c =
    (string_within c.args.key.now c.args.at c.requires _ c.string_at.ensures _ _
    (some_from _ _ _ _ c.ok_or.ensures.value c.in_ok-end.was)).0

pub overflow_add-result : goal.overflow_add-result
overflow_add-result c =
    let w = string_within c.args.key.now c.args.at c.requires _ c.string_at.ensures _ _
    (some_from _ _ _ _ c.ok_or.ensures.value c.in_ok-end.was) in
    omega (arith, w.1)

pub returns-then-not-good : goal.returns-then-not-good
returns-then-not-good c =
    text_wrong c.args.key.now c.args.at c.requires _ c.string_at.ensures _ _
    (some_from _ _ _ _ c.ok_or.ensures.value c.in_ok-end.was) c.if-not-good.true

pub returns : goal.returns
returns c =
    text_read c.args.key.now c.args.at c.requires _ c.string_at.ensures _ _
    (some_from _ _ _ _ c.ok_or.ensures.value c.in_ok-end.was) c.if-not-good.false
