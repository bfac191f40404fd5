-- `recovery::passing::take_entry` meets its contract. A whole entry lies within the used length, so its offset and lengths fit a slot's
-- words, and no value is as long as the mark. Assumes nothing.
use Rattle.std.specs.Prelude.{Some}
use mathlib.Core.Path.{ap, ◌∙◌}
use Prim.Native.Nat.{◌+◌}
use native.Mathlib.Omega.{arith}
use Rattle.bitcask.proofs.recovery.TakeLaws.{set-inside, del-inside, not_gone, is_marked, entry-del}
use Rattle.bitcask.proofs.recovery.passing.take_entry.Goals as goal

pub of_entry-s-requires : goal.of_entry-s-requires
of_entry-s-requires c =
    let a = c.args in
    omega (
      arith,
      c.requires.1,
      set-inside a.log.now a.used a.table.now a.pend.now a.h a.at c.entry_at.ensures
          c.requires.0 _ _ (c.in-Some-Set.is ∙ ap Some c.in-Some-Set.field-0-is),
    )

pub take_set-requires : goal.take_set-requires
take_set-requires c =
    let a = c.args in
    let q = set-inside a.log.now a.used a.table.now a.pend.now a.h a.at c.entry_at.ensures
    c.requires.0 _ _ (c.in-Some-Set.is ∙ ap Some c.in-Some-Set.field-0-is) in (
      c.requires.2,
      c.requires.3,
      not_gone c.in-Some-Set.vlen (a.at + 1) c.in-Some-Set.klen (omega
          (arith, c.requires.1)) c.of_entry-s.ensures,
    )

pub gone_for-s-requires : goal.gone_for-s-requires
gone_for-s-requires c =
    let a = c.args in
    omega (
      arith,
      c.requires.1,
      del-inside a.log.now a.used a.table.now a.pend.now a.h a.at c.entry_at.ensures
          c.requires.0 _ (c.in-Some-Del.is ∙ ap Some c.in-Some-Del.field-0-is),
    )

pub take_del-held-requires : goal.take_del-held-requires
take_del-held-requires c =
    let a = c.args in
    (c.requires.2, c.requires.3, is_marked (a.at + 1) c.in-Some-Del.klen c.gone_for-s.ensures)

pub returns-in-Some-Del : goal.returns-in-Some-Del
returns-in-Some-Del c =
    let a = c.args in
    entry-del a.log.now a.used a.table.now a.pend.now a.h a.at
    c.entry_at.ensures _ c.requires.2
    (c.in-Some-Del.is ∙ ap Some c.in-Some-Del.field-0-is) c.gone_for-s.ensures
    c.take_del-held.ensures
