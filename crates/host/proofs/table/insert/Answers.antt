-- `insert` makes room and lays a slot there.
use Prim.Native.Nat.{◌+◌}
use mathlib.Core.Path.{ap}
use lib.ListN.{length}
use Rattle.host.proofs.TableLaws.{copied-length, inserted}
use native.Mathlib.Omega.{arith}
use Rattle.host.proofs.table.insert.Goals as goal

pub store-requires : goal.store-requires
store-requires g c =
    let a = c.args in
    let w = g.E.Element.words a.table.now in
    omega (arith, ap length c.shift.ensures, copied-length w a.i a.count (a.i + 1) c.requires.0 (omega arith) (omega arith))

pub returns : goal.returns
returns g c = let a = c.args in inserted (g.E.Element.words a.table.now) a.count a.i a.s c.requires.0 c.requires.1 c.shift.ensures c.store.ensures
