-- `count_new` counts the slots that are not marked.
use Prim.Native.Nat.{◌≤◌}
use mathlib.Core.Path.{◌≡◌}
use Rattle.bitcask.specs.keydir.Slots.{slots_of}
use Rattle.bitcask.specs.merging.Merge.{news}
use Rattle.bitcask.proofs.merging.put.count_new.Given as goal

abbrev pub invariant-loop-p : goal.invariant-loop-p
invariant-loop-p l = (l.n ≤ l.p) × (l.n ≡ news (slots_of l.p l.pend))
