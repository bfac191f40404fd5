-- `encode_row` is refused before a byte is written, or writes all bytes of the row.
use mathlib.Core.Path.{◌≡◌}
use Rattle.std.proofs.Common.{rules}
use Rattle.std.specs.Prelude.{Err}
use Rattle.rows.proofs.CheckLaws.{some_from, none_from}
use Rattle.rows.proofs.AnswerLaws.{answer-many, answer-fault, answer-short, answer_done, left_fits, left_within}
use Rattle.rows.proofs.encoding.encode_row.Goals as goal

pub returns-then-fields-gt8 : goal.returns-then-fields-gt8
returns-then-fields-gt8 c = let a = c.args in answer-many a.fields.now a.texts.now a.out.now c.if-fields-gt8.true

pub returns-in_err-check_fields : goal.returns-in_err-check_fields
returns-in_err-check_fields c =
    let a = c.args in
    let e : c.from_residual.result ≡ Err c.in_err-check_fields.field-0.0 = search rules in
    rw e (answer-fault a.fields.now a.texts.now a.out.now c.if-fields-gt8.false _
    c.check_fields.ensures _ c.in_err-check_fields.was)

pub returns-in_err-left : goal.returns-in_err-left
returns-in_err-left c =
    let a = c.args in
    let e : c.from_residual-in_err-left.result ≡ Err c.in_err-left.field-0.0 = search rules in
    let n = none_from _ _ _ _ c.ok_or.ensures.value c.in_err-left.was in
    rw (e, n.1) (answer-short a.fields.now a.texts.now a.out.now c.if-fields-gt8.false _
    c.check_fields.ensures _ c.in_ok-check_fields.was _ c.row_room.ensures n.0)

pub put_row-requires : goal.put_row-requires
put_row-requires c =
    let a = c.args in
    left_fits a.fields.now a.texts.now a.out.now c.if-fields-gt8.false _ c.check_fields.ensures
    _ c.in_ok-check_fields.was _ c.row_room.ensures _ (some_from _ _ _ _ c.ok_or.ensures.value c.in_ok-left.was)

pub overflow_sub-result : goal.overflow_sub-result
overflow_sub-result c =
    let a = c.args in
    left_within a.fields.now a.texts.now a.out.now c.if-fields-gt8.false _ c.check_fields.ensures
    _ c.in_ok-check_fields.was _ c.row_room.ensures _ (some_from _ _ _ _ c.ok_or.ensures.value c.in_ok-left.was)

pub returns : goal.returns
returns c =
    let a = c.args in
    answer_done a.fields.now a.texts.now a.out.now c.if-fields-gt8.false _ c.check_fields.ensures
    _ c.in_ok-check_fields.was _ c.row_room.ensures _ (some_from _ _ _ _ c.ok_or.ensures.value c.in_ok-left.was)
    _ c.put_row.ensures
