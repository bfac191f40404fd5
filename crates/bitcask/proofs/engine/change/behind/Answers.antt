-- `behind` moves a place on by the rows that were added.
use native.Mathlib.Omega.{arith}
use Rattle.bitcask.proofs.engine.SetLaws.{number_at, number_absent, behind-at, behind_absent}
use Rattle.bitcask.proofs.engine.change.behind.Goals as goal

pub overflow_add-result : goal.overflow_add-result
overflow_add-result c = omega (arith, number_at _ _ c.args.before.count c.requires.1 c.in-Ok.is)

pub overflow_add-result-in-Err : goal.overflow_add-result-in-Err
overflow_add-result-in-Err c = omega (arith, number_absent _ _ c.args.before.count c.requires.1 c.in-Err.is)

pub returns-in-Ok : goal.returns-in-Ok
returns-in-Ok c = behind-at _ _ _ c.in-Ok.is

pub returns-in-Err : goal.returns-in-Err
returns-in-Err c = behind_absent _ _ _ c.in-Err.is
