-- `walk` does to the words what recovery's does, and keeps the table's length.
use Prim.Native.Nat.{◌-◌}
use mathlib.Core.Path.{◌≡◌}
use lib.ListN.{length}
use Rattle.host.proofs.WalkLaws.{Walking}
use Rattle.host.specs.Table.{words_in}
use Rattle.host.proofs.opening.walk.Given as goal

abbrev pub invariant-loop-next : goal.invariant-loop-next
invariant-loop-next l = Walking l.log l.used (length (words_in l.initial.table)) (words_in l.table) l.at l.count × (length l.table ≡ length l.initial.table)

abbrev pub decreases-loop-next : goal.decreases-loop-next
decreases-loop-next l = l.used - l.at
