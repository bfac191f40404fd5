-- `same_key` compares the key of a slot with one.
use mathlib.Core.Path.{◌∙◌}
use Rattle.bitcask.proofs.check.TellLaws.{equal-is, same-is}
use Rattle.bitcask.proofs.check.same_key.Goals as goal

pub returns : goal.returns
returns c = c.is_eq.ensures ∙ equal-is c.compare.result ∙ same-is _ _ _ c.key_of.ensures c.compare.ensures
