-- `end_row` looks whether there is one.
use Rattle.mvcc.proofs.undo.UndoStepLaws.{row_stands, row_none, row_gone}
use Rattle.mvcc.proofs.undo.end_row.Goals as goal

pub end_at-requires : goal.end_at-requires
end_at-requires c =
    let a = c.args in let s = a.store.now in let y = c.view-view.ensures in
    row_stands s.log.now s.table.now s.mark a.spot (rw (y.log_is, y.table_is, y.mark_is) at c.stands.ensures) c.if-stands.true

pub returns-then-stands-clause-state : goal.returns-then-stands-clause-state
returns-then-stands-clause-state c =
    let a = c.args in let s = a.store.now in let y = c.view-view.ensures in
    row_gone s.log.now s.table.now s.mark a.spot (rw (y.log_is, y.table_is, y.mark_is) at c.stands.ensures) c.if-stands.true c.end_at.ensures.state

pub returns-else-stands-clause-state : goal.returns-else-stands-clause-state
returns-else-stands-clause-state c =
    let a = c.args in let s = a.store.now in let y = c.view-view.ensures in
    row_none s.log.now s.table.now s.mark a.spot (rw (y.log_is, y.table_is, y.mark_is) at c.stands.ensures) c.if-stands.false
