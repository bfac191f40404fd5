-- `kind_of` answers a handle's mark.
use Rattle.tape.specs.format.Slots.{kind_of}
use Rattle.tape.proofs.format.slots.kind_of.Goals as goal

pub returns-then-read_only : goal.returns-then-read_only
unfolding kind_of
returns-then-read_only c = rw c.if-read_only.true

pub returns-else-read_only : goal.returns-else-read_only
unfolding kind_of
returns-else-read_only c = rw c.if-read_only.false
