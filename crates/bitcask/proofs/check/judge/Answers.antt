-- `judge`: an entry whose key has a slot is held against it; one whose key has none may be followed by another of its key.
use mathlib.Core.Path.{sym, ◌∙◌}
use Rattle.keycode.proofs.Basics.{nope}
use Rattle.bitcask.proofs.read.RankLaws.{found_at}
use Rattle.bitcask.proofs.check.TellLaws.{later-from, judge-at, judge-gone, judge-later, judge_wrong}
use native.Mathlib.Omega.{arith}
use Rattle.bitcask.proofs.check.judge.Goals as goal
use Rattle.bitcask.proofs.check.judge.Goals.{then-e, else-e}

pub slot_at-requires : goal.slot_at-requires
slot_at-requires c = let a = c.args in omega (arith, found_at a.log.now _ a.slots.table.now a.slots.count _ c.find.ensures _ c.in-Ok.is)

pub returns-in-Ok : goal.returns-in-Ok
returns-in-Ok c = let a = c.args in judge-at a.log.now a.slots.table.now a.slots.count a.e _ c.key_of-key.ensures c.find.ensures _ c.in-Ok.is c.slot_at.ensures c.against.ensures

pub returns-then-later : goal.returns-then-later
returns-then-later c =
    let a = c.args in
    elim c.if-e.branch [
      | then-e w ↦ judge-gone a.log.now a.slots.table.now a.slots.count a.e _ c.key_of-key.ensures c.find.ensures _ c.in-Err.is w.if-e.true
      | else-e w ↦
          judge-later a.log.now a.slots.table.now a.slots.count a.e _ c.key_of-key.ensures c.find.ensures _ c.in-Err.is w.if-e.false
          (later-from a.log.now _ a.used w.past.ensures w.later.ensures) (sym w.value-is ∙ c.if-later.true)
    ]

pub returns-else-later : goal.returns-else-later
returns-else-later c =
    let a = c.args in
    elim c.if-e.branch [
      | then-e w ↦ nope (cc)
      | else-e w ↦
          judge_wrong a.log.now a.slots.table.now a.slots.count a.e _ c.key_of-key.ensures c.find.ensures _ c.in-Err.is w.if-e.false
          (later-from a.log.now _ a.used w.past.ensures w.later.ensures) (sym w.value-is ∙ c.if-later.false)
    ]
