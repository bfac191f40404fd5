-- `take_entry` does to the words what recovery's does. A whole entry lies within the used length, so its offset and lengths fit a slot's
-- words.
use Rattle.std.specs.Prelude.{Some}
use mathlib.Core.Path.{ap, ◌∙◌}
use Rattle.host.proofs.TakeLaws.{set-within, del-within}
use Rattle.host.specs.Table.{words_in}
use native.Mathlib.Omega.{arith}
use Rattle.host.proofs.opening.take_entry.Goals as goal

pub slot_for-s-requires : goal.slot_for-s-requires
slot_for-s-requires c = let a = c.args in omega (arith, set-within a.log.now a.used (words_in a.table.now) a.count a.at c.entry_at.ensures c.requires.0 _ _ (c.in-Some-Set.is ∙ ap Some c.in-Some-Set.field-0-is))

pub slot_for-s-requires-in-Some-Del : goal.slot_for-s-requires-in-Some-Del
slot_for-s-requires-in-Some-Del c = let a = c.args in omega (arith, del-within a.log.now a.used (words_in a.table.now) a.count a.at c.entry_at.ensures c.requires.0 _ (c.in-Some-Del.is ∙ ap Some c.in-Some-Del.field-0-is))
