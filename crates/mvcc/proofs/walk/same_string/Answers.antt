-- `same_string` compares the bytes at two places.
use mathlib.Core.Path.{◌∙◌}
use Rattle.mvcc.proofs.walk.WalkLaws.{same_by}
use Rattle.mvcc.proofs.walk.same_string.Goals as goal

pub returns : goal.returns
returns c = let a = c.args in c.is_eq.ensures ∙ same_by a.log.now a.a a.b c.part.ensures c.part-2.ensures c.compare.ensures
