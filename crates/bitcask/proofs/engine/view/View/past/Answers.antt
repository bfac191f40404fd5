-- `past`: the rank that an upper bound is.
use Rattle.bitcask.proofs.engine.SpotLaws.{past_is}
use Rattle.bitcask.proofs.engine.view.View.past.Goals as goal

pub returns : goal.returns
returns c = let a = c.args in let v = a.self.now in past_is v.log.now v.table.now v.mark a.bound a.key.now _ c.upto_bound.ensures.0
