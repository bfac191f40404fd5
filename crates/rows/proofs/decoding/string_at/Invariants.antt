-- `string_at` steps over a string to its end; what the whole is found to be is what the rest is, in the state so far.
use Prim.Native.Nat.{◌-◌}
use lib.ListN.{length}
use Rattle.rows.proofs.ReadLaws.{Stringing}
use Rattle.rows.proofs.decoding.string_at.Given as goal

abbrev pub invariant-loop-b : goal.invariant-loop-b
invariant-loop-b l = Stringing l.key l.at l.i l.state

abbrev pub decreases-loop-b : goal.decreases-loop-b
decreases-loop-b l = length l.key - l.i
