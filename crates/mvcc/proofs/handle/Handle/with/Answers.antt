-- `with` lays the version behind the set where there is room.
use Rattle.mvcc.proofs.handle.HandleLaws.{with_room, with_none}
use Rattle.mvcc.proofs.handle.Handle.with.Goals as goal

pub returns-then-self-lt-MAX_OPEN : goal.returns-then-self-lt-MAX_OPEN
returns-then-self-lt-MAX_OPEN c = with_room _ _ c.if-self-lt-MAX_OPEN.true

pub returns-else-self-lt-MAX_OPEN : goal.returns-else-self-lt-MAX_OPEN
returns-else-self-lt-MAX_OPEN c = with_none _ _ c.if-self-lt-MAX_OPEN.false
