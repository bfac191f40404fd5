-- `cleared` tests the bytes behind key and value.
use Rattle.tape.proofs.format.RequestLaws.{cleared_not, cleared-so}
use Rattle.tape.proofs.format.request.cleared.Goals as goal

pub returns-then-all_zero : goal.returns-then-all_zero
returns-then-all_zero c = let a = c.args in cleared-so a.bytes.now a.klen a.vlen c.all_zero.ensures c.if-all_zero.true c.all_zero-then-all_zero.ensures

pub returns-else-all_zero : goal.returns-else-all_zero
returns-else-all_zero c = let a = c.args in cleared_not a.bytes.now a.klen a.vlen c.all_zero.ensures c.if-all_zero.false
