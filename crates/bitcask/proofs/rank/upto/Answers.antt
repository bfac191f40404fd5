-- `upto` is the place that the search finds, as a number.
use Rattle.bitcask.proofs.read.RankLaws.{found_at, upto-at, upto_before}
use native.Mathlib.Omega.{arith}
use Rattle.bitcask.proofs.rank.upto.Goals as goal

pub overflow_add-result : goal.overflow_add-result
overflow_add-result c = omega (arith, found_at c.args.log.now c.args.key.now c.args.table.now c.args.count _ c.find.ensures c.in-Ok.i c.in-Ok.is)

pub returns-in-Ok : goal.returns-in-Ok
returns-in-Ok c = upto-at c.args.log.now c.args.key.now c.args.table.now c.args.count _ c.find.ensures _ c.in-Ok.is

pub returns-in-Err : goal.returns-in-Err
returns-in-Err c = upto_before c.args.log.now c.args.key.now c.args.table.now c.args.count _ c.find.ensures _ c.in-Err.is
