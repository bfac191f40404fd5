-- `entry_from` makes an entry's slot.
use Rattle.std.specs.Prelude.{Some}
use mathlib.Core.Path.{ap, ◌∙◌}
use Rattle.bitcask.proofs.check.TellLaws.{set_near, del_near}
use native.Mathlib.Omega.{arith}
use Rattle.bitcask.proofs.check.entry_from.Goals as goal

pub of_entry-requires : goal.of_entry-requires
of_entry-requires c = let a = c.args in omega (arith, set_near a.log.now a.used a.at c.entry_at.ensures _ _ (c.in_ok-klen.was ∙ ap Some c.in-Set.is), c.requires.1)

pub of_entry-requires-in-Del : goal.of_entry-requires-in-Del
of_entry-requires-in-Del c = let a = c.args in omega (arith, del_near a.log.now a.used a.at c.entry_at.ensures _ (c.in_ok-klen.was ∙ ap Some c.in-Del.is), c.requires.1)
