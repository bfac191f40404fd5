-- `take_all` takes out the keys that wait. The invariant: the slots before the gap, and what is still to be taken out of those behind
-- it, are what is taken out of all.
use Rattle.bitcask.specs.keydir.Slots.{slots_of}
use Rattle.bitcask.proofs.merging.OutLaws.{Taking}
use Rattle.bitcask.proofs.merging.out.take_all.Given as goal

abbrev pub invariant-loop-p : goal.invariant-loop-p
invariant-loop-p l = Taking l.log l.initial.table l.count (slots_of l.waiting l.pend) l.table l.gap.to l.gap.from l.p
