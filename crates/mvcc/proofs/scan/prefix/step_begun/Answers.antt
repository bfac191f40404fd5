-- `step_begun`: the prefix's code and its end, and the step past the last given key.
use Rattle.std.specs.Prelude.{is_some}
use Rattle.bitcask.specs.engine.Views.{shown}
use Rattle.mvcc.specs.scan.Bounds.{last_in}
use Rattle.mvcc.proofs.scan.BoundLaws.{code-short, prefix_short, prefix_last, begun_by_lem}
use Rattle.mvcc.proofs.scan.prefix.step_begun.Goals as goal

pub prefix_code-code-requires : goal.prefix_code-code-requires
prefix_code-code-requires c = let a = c.args in prefix_short a.prefix.now (is_some a.past) (last_in a.past) c.requires

pub upper_of-upper-requires : goal.upper_of-upper-requires
upper_of-upper-requires c = rw c.as_slice.ensures (code-short c.prefix_code-code.ensures)

pub step_past-requires : goal.step_past-requires
step_past-requires c = let a = c.args in (prefix_last a.prefix.now (is_some a.past) (last_in a.past) c.requires)

pub returns : goal.returns
returns c = let a = c.args in begun_by_lem a.handle a.view.now.log.now (shown a.view.now) (is_some a.past) (last_in a.past) a.prefix.now c.prefix_code-code.ensures (rw c.as_slice.ensures at c.upper_of-upper.ensures) (rw (c.as_slice-2.ensures, c.as_slice-3.ensures) at c.step_past.ensures)
