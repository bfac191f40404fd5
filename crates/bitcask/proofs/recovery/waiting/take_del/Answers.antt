-- `recovery::waiting::take_del` meets its contract. Assumes nothing.
use native.Mathlib.Omega.{arith}
use Rattle.bitcask.proofs.recovery.EnterLaws.{pend_among, del-gone, del_waits, del_not}
use Rattle.bitcask.proofs.recovery.waiting.take_del.Goals as goal

pub waits_gone-requires : goal.waits_gone-requires
waits_gone-requires c =
    let a = c.args in
    (pend_among a.log.now a.table.now a.pend.now a.h a.s c.requires.0 c.requires.1 _ c.find-held.ensures, omega (arith, c.requires.1))

pub returns-then-waits_gone : goal.returns-then-waits_gone
returns-then-waits_gone c =
    let a = c.args in
    del-gone a.log.now a.table.now a.pend.now a.h a.s c.requires.0 c.requires.1 c.key_of.ensures
    c.find-held.ensures c.waits_gone.ensures c.if-waits_gone.true

pub enter-waiting-requires : goal.enter-waiting-requires
enter-waiting-requires c =
    let a = c.args in (
      pend_among a.log.now a.table.now a.pend.now a.h a.s c.requires.0 c.requires.1 _
          c.find-held.ensures,
      omega (arith, c.requires.1),
    )

pub leave-waiting-requires : goal.leave-waiting-requires
leave-waiting-requires c =
    let a = c.args in (
      pend_among a.log.now a.table.now a.pend.now a.h a.s c.requires.0 c.requires.1 _
          c.find-held.ensures,
      omega (arith, c.requires.1),
    )

pub returns-in-Ok : goal.returns-in-Ok
returns-in-Ok c =
    let a = c.args in
    del_waits a.log.now a.table.now a.pend.now a.h a.s c.requires.0 c.requires.1
    c.key_of.ensures
    c.find-held.ensures
    c.waits_gone.ensures c.requires.2
    c.if-waits_gone.false
    c.key_of-2.ensures c.find.ensures _
    c.in-Ok.is c.enter-waiting.ensures c.saturating_sub-live.ensures

pub returns-in-Err : goal.returns-in-Err
returns-in-Err c =
    let a = c.args in
    del_not a.log.now a.table.now a.pend.now a.h a.s c.requires.0 c.requires.1
    c.key_of.ensures
    c.find-held.ensures
    c.waits_gone.ensures c.requires.2
    c.if-waits_gone.false
    c.key_of-2.ensures
    c.find.ensures _ c.in-Err.is
    c.leave-waiting.ensures c.saturating_sub.ensures c.saturating_sub-live-in-Err.ensures
