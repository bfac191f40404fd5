-- `put_set` lays the part of the array that the count allows.
use mathlib.Core.Path.{◌≡◌}
use lib.ListN.{length}
use native.Mathlib.Omega.{arith}
use Rattle.keycode.specs.Limits.{max_open}
use Rattle.mvcc.proofs.payload.PayloadLaws.{set-few}
use Rattle.mvcc.proofs.payload.put_set.Goals as goal

pub put_versions-requires : goal.put_versions-requires
put_versions-requires c = let f : length c.args.handle.set ≡ max_open = omega arith in set-few c.args.handle f c.open.ensures c.requires
