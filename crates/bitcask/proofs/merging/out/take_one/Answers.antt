-- `take_one` moves the slots before the key's down over the gap.
use native.Mathlib.Omega.{arith}
use Prim.Native.Nat.{ℕ, ◌+◌, ◌*◌}
use mathlib.Core.Path.{◌≡◌, ap, ◌∙◌}
use Rattle.bitcask.specs.keydir.Words.{copied}
use Rattle.bitcask.specs.keydir.Slots.{slot_words}
use Rattle.bitcask.proofs.merging.OutLaws.{part_place, one_within, one_stays, one_takes}
use Rattle.bitcask.proofs.merging.out.take_one.Goals as goal

pub overflow_add-gap : goal.overflow_add-gap
overflow_add-gap c =
    let a = c.args in
    omega (
      arith,
      one_within a.log.now a.table.now a.count a.gap.to a.gap.from a.key.now c.requires.0 c.requires.1 c.requires.2 (part_place
          a.log.now a.table.now a.count a.gap.from a.key.now c.find.ensures) _ c.in-Ok.is,
    )

pub close-requires : goal.close-requires
close-requires c =
    let a = c.args in
    let h = one_within a.log.now a.table.now a.count a.gap.to a.gap.from a.key.now c.requires.0 c.requires.1 c.requires.2 (part_place a.log.now
    a.table.now a.count a.gap.from a.key.now c.find.ensures) _ c.in-Ok.is in
    (c.requires.0, omega arith, omega arith)

pub overflow_add-result : goal.overflow_add-result
overflow_add-result c =
    let a = c.args in
    omega (
      arith,
      one_within a.log.now a.table.now a.count a.gap.to a.gap.from a.key.now c.requires.0 c.requires.1 c.requires.2 (part_place
          a.log.now a.table.now a.count a.gap.from a.key.now c.find.ensures) _
          c.in-Ok.is,
    )

pub overflow_add-result-in-Ok : goal.overflow_add-result-in-Ok
overflow_add-result-in-Ok c =
    let a = c.args in
    omega (
      arith,
      one_within a.log.now a.table.now a.count a.gap.to a.gap.from a.key.now c.requires.0 c.requires.1 c.requires.2 (part_place
          a.log.now a.table.now a.count a.gap.from a.key.now
          c.find.ensures) _
          c.in-Ok.is,
    )

pub overflow_add-result-in-Ok-2 : goal.overflow_add-result-in-Ok-2
overflow_add-result-in-Ok-2 c =
    let a = c.args in
    omega (
      arith,
      one_within a.log.now a.table.now a.count a.gap.to a.gap.from a.key.now c.requires.0 c.requires.1 c.requires.2 (part_place
          a.log.now a.table.now a.count a.gap.from a.key.now
          c.find.ensures) _
          c.in-Ok.is,
    )

pub returns-in-Ok : goal.returns-in-Ok
returns-in-Ok c =
    let a = c.args in
    one_takes a.log.now a.table.now a.count a.gap.to a.gap.from a.key.now c.requires.0 c.requires.1 c.requires.2 (part_place a.log.now
    a.table.now a.count a.gap.from a.key.now c.find.ensures) _
    c.in-Ok.is
    (let e : slot_words * (a.gap.from + c.in-Ok.j) ≡ slot_words * a.gap.from + slot_words * c.in-Ok.j = omega arith in
    c.close.ensures ∙ ap (λ (k : ℕ). copied a.table.now (slot_words * a.gap.from) k (slot_words * a.gap.to)) e)

pub returns-in-Err : goal.returns-in-Err
returns-in-Err c =
    let a = c.args in
    one_stays a.log.now a.table.now a.count a.gap.to a.gap.from a.key.now c.requires.0 c.requires.1 c.requires.2 (part_place a.log.now
    a.table.now a.count a.gap.from a.key.now c.find.ensures) _ c.in-Err.is
