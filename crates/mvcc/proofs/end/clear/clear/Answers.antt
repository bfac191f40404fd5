-- `clear` asks for the room of all, and then deletes.
use borrow.Author.Rules.{rules}
use Rattle.std.specs.Prelude.{Err}
use mathlib.Core.Path.{◌≡◌}
use Rattle.mvcc.proofs.end.CloseLaws.{clear_full, clear_done}
use Rattle.mvcc.proofs.OrLaws.{or_value, or_none}
use Rattle.mvcc.proofs.end.clear.clear.Goals as goal

pub returns-in_err-ok_or-clause-clears : goal.returns-in_err-ok_or-clause-clears
returns-in_err-ok_or-clause-clears c = let a = c.args in let s = a.store.now in let y = c.view.ensures in let e : c.from_residual.result ≡ Err c.in_err-ok_or.field-0.0 = search rules in let w = or_none _ _ c.ok_or.ensures.value _ c.in_err-ok_or.was in rw (e, w.1) (clear_full s.log.now s.table.now s.mark a.span s.held c.requires.1 a.key.now (rw (y.log_is, y.table_is, y.mark_is) at c.span_room-room.ensures) c.room_after.ensures (w.0))

pub returns-clause-clears : goal.returns-clause-clears
returns-clause-clears c = let a = c.args in let s = a.store.now in let y = c.view.ensures in clear_done s.log.now s.table.now s.mark a.span s.held c.requires.1 c.end_span.ensures.state a.key.now (rw (y.log_is, y.table_is, y.mark_is) at c.span_room-room.ensures) c.room_after.ensures _ (or_value _ _ c.ok_or.ensures.value _ c.in_ok-ok_or.was) c.requires.0 c.del_key.ensures.state
