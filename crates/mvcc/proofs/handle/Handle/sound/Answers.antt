-- `sound` tests the count, and then the order of what it counts.
use Rattle.mvcc.proofs.handle.HandleLaws.{sound_not, sound_if}
use Rattle.mvcc.proofs.handle.Handle.sound.Goals as goal

pub returns-then-self-le-MAX_OPEN : goal.returns-then-self-le-MAX_OPEN
returns-then-self-le-MAX_OPEN c = sound_if _ c.if-self-le-MAX_OPEN.true c.open.ensures c.rises.ensures

pub returns-else-self-le-MAX_OPEN : goal.returns-else-self-le-MAX_OPEN
returns-else-self-le-MAX_OPEN c = sound_not _ c.if-self-le-MAX_OPEN.false
