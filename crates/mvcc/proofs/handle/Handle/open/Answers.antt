-- `open`: the part of the array that the count allows.
use mathlib.Core.Path.{◌≡◌}
use lib.ListN.{length}
use native.Mathlib.Omega.{arith}
use Rattle.keycode.specs.Limits.{max_open}
use Rattle.mvcc.proofs.handle.HandleLaws.{set_part}
use Rattle.mvcc.proofs.handle.Handle.open.Goals as goal

pub returns : goal.returns
returns c = let f : length c.args.self.now.set ≡ max_open = omega arith in set_part _ f _ c.min.ensures
