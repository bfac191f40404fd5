-- `append_three`: one search for each, the judgement, and all three laid.
use borrow.Author.Rules.{rules}
use Rattle.std.specs.Prelude.{Err}
use mathlib.Core.Path.{◌≡◌}
use Rattle.bitcask.specs.engine.Sets.{spot_place}
use Rattle.bitcask.proofs.engine.SetLaws.{found_among}
use Rattle.mvcc.proofs.append.AllLaws.{wants-few, all_refused}
use Rattle.mvcc.proofs.append.ThreeLaws.{three_tried, three_first, three_behind, three_second, three_third, three_done}
use native.Mathlib.Omega.{arith}
use Rattle.mvcc.proofs.append.three.append_three.Goals as goal

pub overflow_add-wants : goal.overflow_add-wants
overflow_add-wants c = omega (arith, c.wants.ensures, c.wants-2.ensures, wants-few (spot_place c.find-a.result), wants-few (spot_place c.find-b.result))

pub overflow_add-wants-2 : goal.overflow_add-wants-2
overflow_add-wants-2 c = omega (arith, c.wants.ensures, c.wants-2.ensures, c.wants-3.ensures, wants-few (spot_place c.find-a.result), wants-few (spot_place c.find-b.result), wants-few (spot_place c.find-d.result))

pub append_set-requires : goal.append_set-requires
append_set-requires c = let a = c.args in let s = a.store.now in let y = c.view-view.ensures in let p = c.requires in (three_first (three_tried s.log.now s.table.now s.mark a.first.now a.value.now a.second.now a.payload.now a.third.now s.held p.0 p.1 p.2 _ _ _ (rw (y.log_is, y.table_is, y.mark_is) at c.find-a.ensures) (rw (y.log_is, y.table_is, y.mark_is) at c.find-b.ensures) (rw (y.log_is, y.table_is, y.mark_is) at c.find-d.ensures) (rw (y.log_is, y.mark_is) at c.room_in-room.ensures) c.room_after-left.ensures c.room_after-rest.ensures c.room_after-end.ensures c.wants.ensures c.wants-2.ensures c.wants-3.ensures (rw (y.table_is, y.mark_is) at c.judge.ensures)) c.in_ok-judge.was, found_among s.log.now s.table.now a.first.now s.mark _ (rw (y.log_is, y.table_is, y.mark_is) at c.find-a.ensures))

pub behind-place-requires : goal.behind-place-requires
behind-place-requires c = let a = c.args in let s = a.store.now in let y = c.view-view.ensures in let p = c.requires in three_behind (three_tried s.log.now s.table.now s.mark a.first.now a.value.now a.second.now a.payload.now a.third.now s.held p.0 p.1 p.2 _ _ _ (rw (y.log_is, y.table_is, y.mark_is) at c.find-a.ensures) (rw (y.log_is, y.table_is, y.mark_is) at c.find-b.ensures) (rw (y.log_is, y.table_is, y.mark_is) at c.find-d.ensures) (rw (y.log_is, y.mark_is) at c.room_in-room.ensures) c.room_after-left.ensures c.room_after-rest.ensures c.room_after-end.ensures c.wants.ensures c.wants-2.ensures c.wants-3.ensures (rw (y.table_is, y.mark_is) at c.judge.ensures)) c.in_ok-judge.was _ (rw (y.log_is, y.table_is, y.mark_is) at c.find-a.ensures) _ _ c.append_set.new.self.mark c.append_set.ensures.state a.second.now _ (rw (y.log_is, y.table_is, y.mark_is) at c.find-b.ensures)

pub behind-between-requires : goal.behind-between-requires
behind-between-requires c = let a = c.args in let s = a.store.now in let y = c.view-view.ensures in let p = c.requires in three_behind (three_tried s.log.now s.table.now s.mark a.first.now a.value.now a.second.now a.payload.now a.third.now s.held p.0 p.1 p.2 _ _ _ (rw (y.log_is, y.table_is, y.mark_is) at c.find-a.ensures) (rw (y.log_is, y.table_is, y.mark_is) at c.find-b.ensures) (rw (y.log_is, y.table_is, y.mark_is) at c.find-d.ensures) (rw (y.log_is, y.mark_is) at c.room_in-room.ensures) c.room_after-left.ensures c.room_after-rest.ensures c.room_after-end.ensures c.wants.ensures c.wants-2.ensures c.wants-3.ensures (rw (y.table_is, y.mark_is) at c.judge.ensures)) c.in_ok-judge.was _ (rw (y.log_is, y.table_is, y.mark_is) at c.find-a.ensures) _ _ c.append_set.new.self.mark c.append_set.ensures.state a.third.now _ (rw (y.log_is, y.table_is, y.mark_is) at c.find-d.ensures)

pub append_set-requires-2 : goal.append_set-requires-2
append_set-requires-2 c = let a = c.args in let s = a.store.now in let y = c.view-view.ensures in let p = c.requires in let z = three_second (three_tried s.log.now s.table.now s.mark a.first.now a.value.now a.second.now a.payload.now a.third.now s.held p.0 p.1 p.2 _ _ _ (rw (y.log_is, y.table_is, y.mark_is) at c.find-a.ensures) (rw (y.log_is, y.table_is, y.mark_is) at c.find-b.ensures) (rw (y.log_is, y.table_is, y.mark_is) at c.find-d.ensures) (rw (y.log_is, y.mark_is) at c.room_in-room.ensures) c.room_after-left.ensures c.room_after-rest.ensures c.room_after-end.ensures c.wants.ensures c.wants-2.ensures c.wants-3.ensures (rw (y.table_is, y.mark_is) at c.judge.ensures)) c.in_ok-judge.was _ (rw (y.log_is, y.table_is, y.mark_is) at c.find-a.ensures) _ _ c.append_set.new.self.mark c.append_set.ensures.state _ _ (rw (y.log_is, y.table_is, y.mark_is) at c.find-b.ensures) c.behind-place.ensures in (z.1, z.2)

pub append_set-requires-3 : goal.append_set-requires-3
append_set-requires-3 c = let a = c.args in let s = a.store.now in let y = c.view-view.ensures in let p = c.requires in let z = three_third (three_tried s.log.now s.table.now s.mark a.first.now a.value.now a.second.now a.payload.now a.third.now s.held p.0 p.1 p.2 _ _ _ (rw (y.log_is, y.table_is, y.mark_is) at c.find-a.ensures) (rw (y.log_is, y.table_is, y.mark_is) at c.find-b.ensures) (rw (y.log_is, y.table_is, y.mark_is) at c.find-d.ensures) (rw (y.log_is, y.mark_is) at c.room_in-room.ensures) c.room_after-left.ensures c.room_after-rest.ensures c.room_after-end.ensures c.wants.ensures c.wants-2.ensures c.wants-3.ensures (rw (y.table_is, y.mark_is) at c.judge.ensures)) c.in_ok-judge.was _ (rw (y.log_is, y.table_is, y.mark_is) at c.find-a.ensures) _ _ c.append_set.new.self.mark c.append_set.ensures.state _ _ (rw (y.log_is, y.table_is, y.mark_is) at c.find-b.ensures) c.behind-place.ensures _ _ c.append_set-2.new.self.mark c.append_set-2.ensures.state _ _ (rw (y.log_is, y.table_is, y.mark_is) at c.find-d.ensures) c.behind-between.ensures in (z.1, z.2)

pub returns-in_err-judge-clause-appends : goal.returns-in_err-judge-clause-appends
returns-in_err-judge-clause-appends c = let a = c.args in let s = a.store.now in let y = c.view-view.ensures in let p = c.requires in let e : c.from_residual.result ≡ Err c.in_err-judge.field-0.0 = search rules in rw e (all_refused (three_tried s.log.now s.table.now s.mark a.first.now a.value.now a.second.now a.payload.now a.third.now s.held p.0 p.1 p.2 _ _ _ (rw (y.log_is, y.table_is, y.mark_is) at c.find-a.ensures) (rw (y.log_is, y.table_is, y.mark_is) at c.find-b.ensures) (rw (y.log_is, y.table_is, y.mark_is) at c.find-d.ensures) (rw (y.log_is, y.mark_is) at c.room_in-room.ensures) c.room_after-left.ensures c.room_after-rest.ensures c.room_after-end.ensures c.wants.ensures c.wants-2.ensures c.wants-3.ensures (rw (y.table_is, y.mark_is) at c.judge.ensures)) _ c.in_err-judge.was)

pub returns-clause-appends : goal.returns-clause-appends
returns-clause-appends c = let a = c.args in let s = a.store.now in let y = c.view-view.ensures in let p = c.requires in three_done (three_tried s.log.now s.table.now s.mark a.first.now a.value.now a.second.now a.payload.now a.third.now s.held p.0 p.1 p.2 _ _ _ (rw (y.log_is, y.table_is, y.mark_is) at c.find-a.ensures) (rw (y.log_is, y.table_is, y.mark_is) at c.find-b.ensures) (rw (y.log_is, y.table_is, y.mark_is) at c.find-d.ensures) (rw (y.log_is, y.mark_is) at c.room_in-room.ensures) c.room_after-left.ensures c.room_after-rest.ensures c.room_after-end.ensures c.wants.ensures c.wants-2.ensures c.wants-3.ensures (rw (y.table_is, y.mark_is) at c.judge.ensures)) c.in_ok-judge.was _ (rw (y.log_is, y.table_is, y.mark_is) at c.find-a.ensures) _ _ c.append_set.new.self.mark c.append_set.ensures.state _ _ (rw (y.log_is, y.table_is, y.mark_is) at c.find-b.ensures) c.behind-place.ensures _ _ c.append_set-2.new.self.mark c.append_set-2.ensures.state _ _ (rw (y.log_is, y.table_is, y.mark_is) at c.find-d.ensures) c.behind-between.ensures p.1 p.2 _ _ c.append_set-3.new.self.mark c.append_set-3.ensures.state
