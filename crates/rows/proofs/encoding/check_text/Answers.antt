-- `check_text` is 13 where the part reaches past the texts, then 15 where it is not UTF-8.
use mathlib.Core.Path.{◌≡◌, ◌∙◌}
use Rattle.std.proofs.Common.{rules}
use Rattle.std.specs.Prelude.{Err}
use Rattle.rows.proofs.CheckLaws.{text_past, text_wrong, text_fine}
use Rattle.rows.proofs.encoding.check_text.Goals as goal

pub returns-in_err-check_bytes : goal.returns-in_err-check_bytes
returns-in_err-check_bytes c =
    let e : c.from_residual.result ≡ Err c.in_err-check_bytes.field-0.0 = search rules in
    e ∙ text_past c.args.texts.now c.args.p _ c.check_bytes.ensures _ c.in_err-check_bytes.was

pub returns-then-is_utf8 : goal.returns-then-is_utf8
returns-then-is_utf8 c =
    text_fine c.args.texts.now c.args.p _ c.check_bytes.ensures _ c.in_ok-check_bytes.was
    _ _ c.clip.ensures c.is_utf8.ensures c.if-is_utf8.true

pub returns-else-is_utf8 : goal.returns-else-is_utf8
returns-else-is_utf8 c =
    text_wrong c.args.texts.now c.args.p _ c.check_bytes.ensures _ c.in_ok-check_bytes.was
    _ _ c.clip.ensures c.is_utf8.ensures c.if-is_utf8.false
