-- `put_all` puts in the new slots. The invariant: what is still to be put into the slots before `end`, and what stands behind the free
-- slots, are what is put into all.
use Rattle.bitcask.specs.keydir.Slots.{slots_of}
use Rattle.bitcask.proofs.merging.PutLaws.{Putting}
use Rattle.bitcask.proofs.merging.put.put_all.Given as goal

abbrev pub invariant-loop-p : goal.invariant-loop-p
invariant-loop-p l = Putting l.log l.initial.table l.count (slots_of l.waiting l.pend) l.table l.p l.room.end l.room.left
