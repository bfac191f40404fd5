-- `gather` adds version by version.
use Prim.Native.Nat.{◌-◌}
use Rattle.bitcask.specs.engine.Views.{shown}
use Rattle.bitcask.specs.engine.Spots.{rank}
use Rattle.mvcc.proofs.snapshot.ActiveLaws.{Gathering}
use Rattle.mvcc.proofs.snapshot.gather.Given as goal

abbrev pub invariant-loop-span : goal.invariant-loop-span
invariant-loop-span l = Gathering (shown l.view) l.initial.at l.span.to l.initial.handle l.handle l.tally l.at

abbrev pub decreases-loop-span : goal.decreases-loop-span
decreases-loop-span l = rank l.span.to (shown l.view) - rank l.at (shown l.view)
