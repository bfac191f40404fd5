-- `show_step` shows what one step answers.
use native.Mathlib.Omega.{arith}
use mathlib.Core.Path.{sym}
use lib.Dec.{ltb}
use lib.ListN.{take}
use lib.Seq.{length-take-le}
use Rattle.tape.specs.Turns.{world_of}
use Rattle.tape.proofs.ScanLaws.{step-shown, step-ended}
use Rattle.tape.proofs.scan.show_step.Goals as goal

pub slice_bounds-scan_prefix_step-end-2 : goal.slice_bounds-scan_prefix_step-end-2
slice_bounds-scan_prefix_step-end-2 c = let a = c.args in sym (length-take-le a.klen a.kept.now (omega arith))

pub returns-in-Ok : goal.returns-in-Ok
returns-in-Ok c = let a = c.args in step-shown (world_of a.log.now a.used.len a.table.now) a.handle a.prefix.now a.n (ltb 0 a.n) (take a.klen a.kept.now) a.out.now _ _ c.scan_prefix_step.ensures _ _ c.in-Ok.is c.show_next.ensures

pub returns-in-Err : goal.returns-in-Err
returns-in-Err c = let a = c.args in step-ended (world_of a.log.now a.used.len a.table.now) a.handle a.prefix.now a.n (ltb 0 a.n) (take a.klen a.kept.now) a.out.now _ _ c.scan_prefix_step.ensures _ c.in-Err.is c.show_end.ensures
