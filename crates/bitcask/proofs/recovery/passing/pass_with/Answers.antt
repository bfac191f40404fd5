use native.Mathlib.Omega.{arith}
use mathlib.Core.Path.{refl, ap, ◌∙◌}
use lib.ListN.{length}
use Rattle.std.specs.Prelude.{Ok}
use Rattle.std.proofs.lemmas.Result.{err_from_is_err_and}
use Rattle.bitcask.proofs.recovery.PassLaws.{passing_start, passing_settled, passing_next, passing_refused, passing_stop, passing_spent}
use Rattle.bitcask.proofs.recovery.passing.pass_with.Goals as goal
use Rattle.bitcask.proofs.recovery.passing.pass_with.Goals.{else-loop-left-test, then-loop-left-test+in_ok-next+in_default}

pub loop-left-init : goal.loop-left-init
loop-left-init c = (
  let a = c.args in passing_start a.log.now a.used a.table.now a.pend.now a.count a.start a.most
      c.requires.0 c.requires.2 c.requires.3,
  refl,
)

pub returns-in_err-next : goal.returns-in_err-next
returns-in_err-next c =
    let w = passing_settled c.loop-left.invariant.0 c.make_room-h.auto.table (omega (arith, c.make_room-h.ensures.0)) c.make_room-h.ensures.1 in
    let p = err_from_is_err_and c.from_residual.result c.from_residual.ensures.1 in
    rw (p.1, p.2) (passing_refused w c.loop-left-test.true c.take_entry.ensures _ c.in_err-next.was)

pub loop-left-preserved : goal.loop-left-preserved
loop-left-preserved c =
    let w = passing_settled c.loop-left.invariant.0 c.make_room-h.auto.table (omega (arith, c.make_room-h.ensures.0)) c.make_room-h.ensures.1 in
    let n = passing_next w c.loop-left-test.true c.take_entry.ensures _
    c.make_room-h.ensures.0 c.take_entry.auto.table c.take_entry.auto.pend (c.in_ok-next.was ∙ ap Ok c.in-Some.is) in
    (n, c.take_entry.auto.pend ∙ c.loop-left.invariant.1)

pub returns : goal.returns
returns c =
    let i = c.loop-left.invariant.0 in
    elim c.loop-left-test.branch [
      | else-loop-left-test w ↦
          passing_spent i w.loop-left-test.false (c.settle-h.auto.table ∙ ap length w.table-is) c.settle-h.ensures.0 (rw (w.table-is, w.pend-is, w.h-is) at c.settle-h.ensures.1)
      | then-loop-left-test+in_ok-next+in_default w ↦
          passing_stop (passing_settled i w.make_room-h.auto.table (omega (arith, w.make_room-h.ensures.0)) w.make_room-h.ensures.1) w.loop-left-test.true
          w.take_entry.ensures (w.in_ok-next.was ∙ ap Ok w.in_default.is)
          (c.settle-h.auto.table ∙ ap length w.table-is) c.settle-h.ensures.0 (rw (w.table-is, w.pend-is, w.h-is) at c.settle-h.ensures.1)
    ]
