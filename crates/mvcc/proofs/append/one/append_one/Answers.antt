-- `append_one`: one search, the judgement, and the set laid.
use borrow.Author.Rules.{rules}
use Rattle.std.specs.Prelude.{Err}
use mathlib.Core.Path.{◌≡◌}
use Rattle.bitcask.proofs.engine.SetLaws.{found_among}
use Rattle.mvcc.proofs.append.AllLaws.{all_refused}
use Rattle.mvcc.proofs.append.OneLaws.{one_tried, one_room, one_done}
use Rattle.mvcc.proofs.append.one.append_one.Goals as goal

pub append_set-requires : goal.append_set-requires
append_set-requires c = let a = c.args in let s = a.store.now in let y = c.view-view.ensures in let p = c.requires in let w = one_tried s.log.now s.table.now s.mark a.key.now a.value.now s.held p _ (rw (y.log_is, y.table_is, y.mark_is) at c.find-found.ensures) (rw (y.log_is, y.mark_is) at c.room_in-room.ensures) c.room_after-left.ensures c.wants.ensures (rw (y.table_is, y.mark_is) at c.judge.ensures) in (one_room w c.in_ok-judge.was, found_among s.log.now s.table.now a.key.now s.mark _ (rw (y.log_is, y.table_is, y.mark_is) at c.find-found.ensures))

pub returns-in_err-judge-clause-appends : goal.returns-in_err-judge-clause-appends
returns-in_err-judge-clause-appends c = let a = c.args in let s = a.store.now in let y = c.view-view.ensures in let p = c.requires in let e : c.from_residual.result ≡ Err c.in_err-judge.field-0.0 = search rules in rw e (all_refused (one_tried s.log.now s.table.now s.mark a.key.now a.value.now s.held p _ (rw (y.log_is, y.table_is, y.mark_is) at c.find-found.ensures) (rw (y.log_is, y.mark_is) at c.room_in-room.ensures) c.room_after-left.ensures c.wants.ensures (rw (y.table_is, y.mark_is) at c.judge.ensures)) _ c.in_err-judge.was)

pub returns-clause-appends : goal.returns-clause-appends
returns-clause-appends c = let a = c.args in let s = a.store.now in let y = c.view-view.ensures in let p = c.requires in one_done (one_tried s.log.now s.table.now s.mark a.key.now a.value.now s.held p _ (rw (y.log_is, y.table_is, y.mark_is) at c.find-found.ensures) (rw (y.log_is, y.mark_is) at c.room_in-room.ensures) c.room_after-left.ensures c.wants.ensures (rw (y.table_is, y.mark_is) at c.judge.ensures)) c.in_ok-judge.was _ (rw (y.log_is, y.table_is, y.mark_is) at c.find-found.ensures) _ _ c.append_set.new.self.mark c.append_set.ensures.state
