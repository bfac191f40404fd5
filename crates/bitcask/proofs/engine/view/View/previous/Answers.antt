-- `previous` is one rank less.
use Rattle.bitcask.proofs.engine.SpotLaws.{previous_some, previous_is}
use Rattle.bitcask.proofs.engine.view.View.previous.Goals as goal

pub overflow_sub-result : goal.overflow_sub-result
overflow_sub-result c = let a = c.args in let v = a.self.now in previous_some v.log.now v.table.now v.mark a.spot c.requires

pub returns : goal.returns
returns c = let a = c.args in let v = a.self.now in previous_is v.log.now v.table.now v.mark a.spot c.requires
