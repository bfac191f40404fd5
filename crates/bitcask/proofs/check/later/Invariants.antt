-- `later` looks for a key from one entry to the next.
use Prim.Native.Nat.{◌-◌}
use Rattle.bitcask.proofs.check.TellLaws.{Looking}
use Rattle.bitcask.proofs.check.later.Given as goal

abbrev pub invariant-loop-e : goal.invariant-loop-e
invariant-loop-e l = Looking l.log l.used l.from l.key l.at

abbrev pub decreases-loop-e : goal.decreases-loop-e
decreases-loop-e l = l.used - l.at
