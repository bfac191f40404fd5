-- `undo_row` deletes the version that the key names, and then ends the row.
use mathlib.Core.Path.{sym, ◌∙◌}
use Rattle.mvcc.proofs.undo.UndoStepLaws.{row_stands, undo_none, undo_other, undo_row_lem}
use Rattle.mvcc.proofs.undo.undo_row.Goals as goal

pub returns-then-not-stands-clause-state : goal.returns-then-not-stands-clause-state
returns-then-not-stands-clause-state c = let a = c.args in let s = a.store.now in let y = c.view-view.ensures in undo_none s.log.now s.table.now s.mark a.spot a.version (rw (y.log_is, y.table_is, y.mark_is) at c.stands.ensures) c.if-not-stands.true

pub key_at-key-requires : goal.key_at-key-requires
key_at-key-requires c = let a = c.args in let s = a.store.now in let y = c.view-view.ensures in rw (y.log_is, y.table_is, y.mark_is) (row_stands s.log.now s.table.now s.mark a.spot (rw (y.log_is, y.table_is, y.mark_is) at c.stands.ensures) c.if-not-stands.false)

pub returns-then-not-is_write-clause-state : goal.returns-then-not-is_write-clause-state
returns-then-not-is_write-clause-state c = let a = c.args in let s = a.store.now in let y = c.view-view.ensures in undo_other s.log.now s.table.now s.mark a.spot a.version (rw (y.log_is, y.table_is, y.mark_is) at c.stands.ensures) c.if-not-stands.false (rw (y.log_is, y.table_is, y.mark_is) at c.key_at-key.ensures) c.is_write.ensures c.if-not-is_write.true

pub named_code-code-requires : goal.named_code-code-requires
named_code-code-requires c = sym c.is_write.ensures ∙ c.if-not-is_write.false

pub returns-clause-state : goal.returns-clause-state
returns-clause-state c = let a = c.args in let s = a.store.now in let y = c.view-view.ensures in undo_row_lem s.log.now s.table.now s.mark a.spot a.version (rw (y.log_is, y.table_is, y.mark_is) at c.stands.ensures) c.if-not-stands.false (rw (y.log_is, y.table_is, y.mark_is) at c.key_at-key.ensures) c.is_write.ensures c.if-not-is_write.false _ c.named_code-code.ensures (rw c.as_slice.ensures at c.del_key.ensures.state) c.end_row.ensures.state
