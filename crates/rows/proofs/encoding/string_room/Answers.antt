use mathlib.Core.Path.{◌∙◌}
use Rattle.rows.proofs.EncodeLaws.{string_start, string_on, string_short, string_done}
use Rattle.rows.proofs.encoding.string_room.Goals as goal

pub loop-b-init : goal.loop-b-init
loop-b-init c = string_start c.args.s.now c.args.room

pub returns-in_err-left : goal.returns-in_err-left
returns-in_err-left c =
    c.from_residual.ensures ∙ string_short c.args.s.now c.args.room c.loop-b.left c.loop-b.b-index
    c.loop-b.invariant c.loop-b-test.true c.escaped_byte_len.result c.escaped_byte_len.ensures
    _ c.checked_sub.ensures c.in_err-left.was

pub loop-b-preserved : goal.loop-b-preserved
loop-b-preserved c =
    string_on c.args.s.now c.args.room c.loop-b.left c.loop-b.b-index
    c.loop-b.invariant c.loop-b-test.true c.escaped_byte_len.result c.escaped_byte_len.ensures
    _ c.checked_sub.ensures _ c.in_ok-left.was

pub returns : goal.returns
returns c =
    string_done c.args.s.now c.args.room c.loop-b.left c.loop-b.b-index
    c.loop-b.invariant c.loop-b-test.false _ c.checked_sub-2.ensures
