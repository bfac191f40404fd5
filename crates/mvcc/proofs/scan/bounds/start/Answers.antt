-- `start`: one search, for the later of the two starts.
use Rattle.bitcask.specs.engine.Views.{shown}
use Rattle.mvcc.proofs.scan.BoundLaws.{last_fits_lem, start_low, start_later, start_past}
use Rattle.mvcc.proofs.scan.bounds.start.Goals as goal

pub returns-in_default : goal.returns-in_default
returns-in_default c = let a = c.args in start_low a.lower a.low.now (shown a.view.now) c.in_default.is c.first.ensures

pub low_code-code-requires : goal.low_code-code-requires
low_code-code-requires c = last_fits_lem _ c.in-Some.is c.requires

pub returns-then-is_gt : goal.returns-then-is_gt
returns-then-is_gt c = let a = c.args in start_later a.lower a.low.now (shown a.view.now) _ c.in-Some.is c.low_code-code.ensures (rw c.as_slice.ensures at c.compare.ensures) c.is_gt.ensures c.if-is_gt.true c.first-then-is_gt.ensures

pub returns : goal.returns
returns c = let a = c.args in start_past a.lower a.low.now (shown a.view.now) _ c.in-Some.is c.low_code-code.ensures (rw c.as_slice.ensures at c.compare.ensures) c.is_gt.ensures c.if-is_gt.false (rw c.as_slice-2.ensures at c.first-2.ensures)
