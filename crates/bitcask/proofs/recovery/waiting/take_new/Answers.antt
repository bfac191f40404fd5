-- `recovery::waiting::take_new` meets its contract. Assumes nothing.
use mathlib.Core.Path.{sym, subst}
use Prim.Native.Nat.{ℕ}
use Rattle.std.specs.Prelude.{Result}
use Rattle.bitcask.specs.keydir.Slots.{slots_of}
use Rattle.bitcask.specs.keydir.Place.{entered, Becomes}
use native.Mathlib.Omega.{arith}
use Rattle.bitcask.proofs.recovery.EnterLaws.{pend_among, table-among, new_at, new_full, new_last, new_waits}
use Rattle.bitcask.proofs.recovery.SettleLaws.{key-place}
use Rattle.bitcask.proofs.recovery.waiting.take_new.Goals as goal

pub enter-count-requires : goal.enter-count-requires
enter-count-requires c =
    let a = c.args in
    (table-among a.log.now a.table.now a.pend.now a.h a.s c.requires.0 c.requires.1 _ c.find-found.ensures, c.requires.0)

pub returns-then-slots-h : goal.returns-then-slots-h
returns-then-slots-h c =
    let a = c.args in
    new_full a.log.now a.table.now a.pend.now a.h a.s c.requires.0 c.requires.1 c.requires.2 a.i c.requires.3
    c.key_of.ensures c.find-found.ensures a.end _
    c.in-Err.is c.if-slots-h.true

pub enter-count-requires-then-goes_last : goal.enter-count-requires-then-goes_last
enter-count-requires-then-goes_last c =
    let a = c.args in (
      table-among a.log.now a.table.now a.pend.now a.h a.s c.requires.0 c.requires.1 _ (key-place a.log.now a.s (slots_of a.h.count
          a.table.now) c.key_of.ensures
          c.find-found.ensures c.in-Err.is),
      c.requires.0,
    )

pub enter-waiting-requires : goal.enter-waiting-requires
enter-waiting-requires c =
    let a = c.args in
    (pend_among a.log.now a.table.now a.pend.now a.h a.s c.requires.0 c.requires.1 _ c.requires.3, omega (arith, c.requires.1))

pub returns-in-Ok : goal.returns-in-Ok
returns-in-Ok c =
    let a = c.args in
    new_at a.log.now a.table.now a.pend.now a.h a.s c.requires.0 c.requires.1 c.requires.2 a.i c.requires.3
    c.key_of.ensures c.find-found.ensures a.end _
    c.in-Ok.is c.enter-count.ensures

pub returns-then-goes_last : goal.returns-then-goes_last
returns-then-goes_last c =
    let a = c.args in
    new_last a.log.now a.table.now a.pend.now a.h a.s c.requires.0 c.requires.1 c.requires.2 a.i c.requires.3
    c.key_of.ensures
    c.find-found.ensures a.end _
    c.in-Err.is
    c.if-slots-h.false c.goes_last.ensures
    c.if-goes_last.true
    (subst (λ (x : Result ℕ ℕ). Becomes a.table.now a.h.count (entered a.table.now a.s x (slots_of a.h.count a.table.now)) c.enter-count-then-goes_last.new.table c.enter-count-then-goes_last.result) (sym c.in-Err.is) c.enter-count-then-goes_last.ensures)

pub returns-else-goes_last : goal.returns-else-goes_last
returns-else-goes_last c =
    let a = c.args in
    new_waits a.log.now a.table.now a.pend.now a.h a.s c.requires.0 c.requires.1 c.requires.2 a.i c.requires.3
    c.key_of.ensures
    c.find-found.ensures a.end _
    c.in-Err.is
    c.if-slots-h.false c.enter-waiting.ensures
