-- `recovery::walk` meets its contract: all entries passed into a clear table. Assumes nothing.
use Rattle.std.proofs.lemmas.Result.{err_from_is_err_and}
use Rattle.bitcask.proofs.recovery.WalkLaws.{walk_refused, walk_done}
use Rattle.bitcask.proofs.recovery.walk.Goals as goal

pub returns-in_err-passed : goal.returns-in_err-passed
returns-in_err-passed c =
    let a = c.args in
    let p = err_from_is_err_and c.from_residual.result c.from_residual.ensures.1 in
    rw (p.1, p.2) (walk_refused a.log.now a.used a.table.now c.requires.1 c.pass.ensures c.in_err-passed.was)

pub returns : goal.returns
returns c =
    let a = c.args in
    walk_done a.log.now a.used a.table.now c.requires.1 c.pass.ensures _ c.in_ok-passed.was
