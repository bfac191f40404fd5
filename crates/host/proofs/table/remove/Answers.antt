-- `remove` closes the gap and clears the last slot's words.
use Prim.Native.Nat.{◌+◌}
use mathlib.Core.Path.{ap}
use lib.ListN.{length}
use Rattle.host.proofs.TableLaws.{copied-length, removed}
use native.Mathlib.Omega.{arith}
use Rattle.host.proofs.table.remove.Goals as goal

pub store-requires : goal.store-requires
store-requires g c =
    let a = c.args in
    let w = g.E.Element.words a.table.now in
    omega (arith, ap length c.shift.ensures, copied-length w (a.i + 1) a.count a.i (omega arith) c.requires.1 (omega arith))

pub returns : goal.returns
returns g c = let a = c.args in removed (g.E.Element.words a.table.now) a.count a.i c.requires.0 c.requires.1 c.shift.ensures c.store.ensures
