-- `first`: the rank that a lower bound is.
use Rattle.bitcask.proofs.engine.SpotLaws.{first-is}
use Rattle.bitcask.proofs.engine.view.View.first.Goals as goal

pub returns : goal.returns
returns c = let a = c.args in let v = a.self.now in first-is v.log.now v.table.now v.mark a.bound a.key.now _ c.from_bound.ensures.0
