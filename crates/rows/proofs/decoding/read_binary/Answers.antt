-- `read_binary` takes a string where it ends, or the fault of its escapes.
use mathlib.Core.Path.{◌≡◌}
use native.Mathlib.Omega.{arith}
use Rattle.std.proofs.Common.{rules}
use Rattle.std.specs.Prelude.{Err}
use Rattle.rows.proofs.CheckLaws.{some_from, none_from}
use Rattle.rows.proofs.FieldLaws.{string_within, binary_read, binary_broken}
use Rattle.rows.proofs.decoding.read_binary.Goals as goal

pub returns-in_err-end : goal.returns-in_err-end
returns-in_err-end c =
    let e : c.from_residual.result ≡ Err c.in_err-end.field-0.0 = search rules in
    let n = none_from _ _ _ _ c.ok_or.ensures.value c.in_err-end.was in
    rw (e, n.1) (binary_broken c.args.key.now c.args.at c.requires _ c.string_at.ensures n.0)

pub overflow_sub-result : goal.overflow_sub-result
overflow_sub-result c =
    (string_within c.args.key.now c.args.at c.requires _ c.string_at.ensures _ _
    (some_from _ _ _ _ c.ok_or.ensures.value c.in_ok-end.was)).0

pub overflow_add-result : goal.overflow_add-result
overflow_add-result c =
    let w = string_within c.args.key.now c.args.at c.requires _ c.string_at.ensures _ _
    (some_from _ _ _ _ c.ok_or.ensures.value c.in_ok-end.was) in
    omega (arith, w.1)

pub returns : goal.returns
returns c =
    binary_read c.args.key.now c.args.at c.requires _ c.string_at.ensures _ _
    (some_from _ _ _ _ c.ok_or.ensures.value c.in_ok-end.was)
