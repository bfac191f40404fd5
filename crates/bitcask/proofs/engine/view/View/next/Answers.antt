-- `next` is one rank further.
use native.Mathlib.Omega.{arith}
use Rattle.bitcask.proofs.engine.SpotLaws.{next-within, next-is}
use Rattle.bitcask.proofs.engine.view.View.next.Goals as goal

pub overflow_add-result : goal.overflow_add-result
overflow_add-result c = let a = c.args in let v = a.self.now in omega (arith, next-within v.log.now v.table.now v.mark a.spot v.held c.requires)

pub returns : goal.returns
returns c = let a = c.args in let v = a.self.now in next-is v.log.now v.table.now v.mark a.spot
