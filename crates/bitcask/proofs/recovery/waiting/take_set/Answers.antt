-- `recovery::waiting::take_set` meets its contract. Assumes nothing.
use mathlib.Core.Path.{sym, subst}
use Prim.Native.Nat.{ℕ}
use native.Mathlib.Omega.{arith}
use Rattle.std.specs.Prelude.{false, Ok}
use Rattle.bitcask.specs.recovery.Waiting.{Enters}
use Rattle.bitcask.proofs.recovery.EnterLaws.{pend_among, set_full, set-again, set-over}
use Rattle.bitcask.proofs.recovery.waiting.take_set.Goals as goal
use Rattle.bitcask.proofs.recovery.waiting.take_set.Goals.{then-waits_gone+else-table-h, else-waits_gone}

pub waits_gone-requires : goal.waits_gone-requires
waits_gone-requires c =
    let a = c.args in
    (pend_among a.log.now a.table.now a.pend.now a.h a.s c.requires.0 c.requires.1 _ c.find-held.ensures, omega (arith, c.requires.1))

pub returns-then-table-h : goal.returns-then-table-h
returns-then-table-h c =
    let a = c.args in
    set_full a.log.now a.table.now a.pend.now a.h a.s c.requires.0 c.requires.1
    c.key_of.ensures c.find-held.ensures
    c.waits_gone.ensures c.requires.2 a.end c.if-waits_gone.true c.if-table-h.true

pub enter-waiting-requires : goal.enter-waiting-requires
enter-waiting-requires c =
    let a = c.args in (
      pend_among a.log.now a.table.now a.pend.now a.h a.s c.requires.0 c.requires.1 _
          c.find-held.ensures,
      omega (arith, c.requires.1),
    )

pub returns-after-waits_gone : goal.returns-after-waits_gone
returns-after-waits_gone c =
    let a = c.args in
    let P : ℕ → Type 0 = λ n. Enters a.log.now a.table.now a.pend.now a.h (record { slot = a.s; gone = false }) a.end
    (Ok (record { at = a.end; held = record { count = a.h.count; waiting = c.enter-waiting.result; live = n } })) a.table.now c.enter-waiting.new.table in
    elim c.if-waits_gone.branch [
      | then-waits_gone+else-table-h w ↦ subst P (sym w.live-is)
          (set-again a.log.now a.table.now a.pend.now a.h a.s c.requires.0 c.requires.1 c.key_of.ensures c.find-held.ensures c.waits_gone.ensures c.requires.2 a.end
          w.if-waits_gone.true w.if-table-h.false c.enter-waiting.ensures)
      | else-waits_gone w ↦ subst P (sym w.live-is)
          (set-over a.log.now a.table.now a.pend.now a.h a.s c.requires.0 c.requires.1 c.key_of.ensures c.find-held.ensures c.waits_gone.ensures c.requires.2 a.end _
          c.in-Ok.is w.if-waits_gone.false c.enter-waiting.ensures)
    ]

pub returns-in-Err : goal.returns-in-Err
returns-in-Err c = c.take_new.ensures
