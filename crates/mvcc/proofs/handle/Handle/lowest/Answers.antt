-- `lowest` takes the first of the set, or the version after its own.
use mathlib.Core.Path.{◌≡◌, ◌∙◌}
use lib.ListN.{length}
use native.Mathlib.Omega.{arith}
use Rattle.keycode.specs.Limits.{max_open}
use Rattle.mvcc.proofs.handle.HandleLaws.{lowest_set, lowest_own}
use Rattle.mvcc.proofs.handle.Handle.lowest.Goals as goal

pub returns-then-self-gt0 : goal.returns-then-self-gt0
returns-then-self-gt0 c = let f : length c.args.self.set ≡ max_open = omega arith in lowest_set _ f c.if-self-gt0.true

pub returns : goal.returns
returns c = c.saturating_add.ensures ∙ lowest_own _ c.if-self-gt0.false
