use mathlib.Core.Path.{◌≡◌, refl, ◌∙◌}
use Rattle.std.proofs.Common.{rules}
use Rattle.std.specs.Prelude.{Err}
use Rattle.rows.proofs.FieldLaws.{reading_start, reading_many, reading_bad, reading_on, reading_over, reading_done}
use Rattle.rows.proofs.decoding.decode_row.Goals as goal

pub returns-then-kinds-gt8 : goal.returns-then-kinds-gt8
returns-then-kinds-gt8 c = reading_many c.args.kinds.now c.args.key.now c.if-kinds-gt8.true

pub loop-i-init : goal.loop-i-init
loop-i-init c = reading_start c.args.kinds.now c.args.key.now c.if-kinds-gt8.false

pub read_field-requires : goal.read_field-requires
read_field-requires c = c.loop-i.invariant.upto

pub returns-in_err-cells : goal.returns-in_err-cells
returns-in_err-cells c =
    let e : c.from_residual.result ≡ Err c.in_err-cells.field-0.0 = search rules in
    e ∙ reading_bad c.loop-i.invariant c.loop-i-test.true _ refl _ c.read_field.ensures
    c.if-kinds-gt8.false _ c.in_err-cells.was

pub loop-i-preserved : goal.loop-i-preserved
loop-i-preserved c =
    reading_on c.loop-i.invariant c.loop-i-test.true _ refl _ c.read_field.ensures
    (λ i. (c.type_inv.key i).fits) _ _ c.in_ok-cells.was

pub returns-then-at-key : goal.returns-then-at-key
returns-then-at-key c =
    reading_over c.loop-i.invariant c.if-kinds-gt8.false c.loop-i-test.false c.if-at-key.true

pub returns : goal.returns
returns c =
    reading_done c.loop-i.invariant c.if-kinds-gt8.false c.loop-i-test.false c.if-at-key.false
