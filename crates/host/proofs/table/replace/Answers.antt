-- `replace` lays a slot's words over another's.
use mathlib.Core.Path.{◌∙◌}
use Rattle.bitcask.proofs.keydir.SlotLaws.{replace_is}
use Rattle.host.proofs.table.replace.Goals as goal

pub returns : goal.returns
returns g c = let a = c.args in c.store.ensures ∙ replace_is (g.E.Element.words a.table.now) a.count c.requires.1 a.i a.s c.requires.0
