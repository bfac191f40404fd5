-- `undo`: 12, then 7, then the tombstones.
use borrow.Author.Rules.{rules}
use Rattle.std.specs.Prelude.{Err}
use mathlib.Core.Path.{◌≡◌}
use Rattle.bitcask.specs.engine.Rows.{rows}
use Rattle.bitcask.specs.engine.Ranges.{between}
use Rattle.bitcask.proofs.engine.ViewLaws.{lent_back}
use Rattle.mvcc.specs.undo.Undo.{Undoes}
use Rattle.mvcc.proofs.undo.UndoAgreeLaws.{undo_bad, undo_full, undo_done}
use Rattle.mvcc.proofs.OrLaws.{or_value, or_none}
use Rattle.mvcc.proofs.undo.undo.Goals as goal

pub returns-then-not-all_writes : goal.returns-then-not-all_writes
returns-then-not-all_writes c = let a = c.args in undo_bad a.log.now a.table.now a.mark a.span a.version a.key.now c.requires.0 c.requires.2 c.all_writes.ensures c.if-not-all_writes.true

pub returns-in_err-ok_or : goal.returns-in_err-ok_or
returns-in_err-ok_or c = let a = c.args in let e : c.from_residual.result ≡ Err c.in_err-ok_or.field-0.0 = search rules in let w = or_none _ _ c.ok_or.ensures.value _ c.in_err-ok_or.was in rw (e, w.1) (undo_full a.log.now a.table.now a.mark a.span a.version a.key.now c.requires.0 c.requires.2 (λ i. (c.slice_known-1.given i).fits) c.all_writes.ensures c.if-not-all_writes.false c.span_room-once.ensures c.span_room-twice.ensures c.room_after.ensures (w.0))

pub returns : goal.returns
returns c =
    let a = c.args in
    lent_back (Undoes a.log.now a.table.now a.mark (between a.span.from a.span.to (rows a.log.now a.table.now a.mark)) a.version a.key.now _)
    (undo_done a.log.now a.table.now a.mark a.span a.version a.key.now c.requires.0 c.requires.2 (λ i. (c.slice_known-1.given i).fits) c.all_writes.ensures c.if-not-all_writes.false c.span_room-once.ensures c.span_room-twice.ensures c.room_after.ensures c.rows_in-n.ensures c.undo_many.ensures.state _ (or_value _ _ c.ok_or.ensures.value _ c.in_ok-ok_or.was) c.requires.1 c.del_key.ensures.state)
    (search rules) (search rules)
