-- `sees` looks into the set, and then at its own version.
use Rattle.mvcc.proofs.handle.HandleLaws.{sees_not, sees_below, sees-upto}
use Rattle.mvcc.proofs.handle.Handle.sees.Goals as goal

pub returns-then-contains : goal.returns-then-contains
returns-then-contains c = sees_not _ _ c.open.ensures c.contains.ensures.value c.if-contains.true

pub returns-then-self : goal.returns-then-self
returns-then-self c = sees_below _ _ c.open.ensures c.contains.ensures.value c.if-contains.false c.if-self.true

pub returns-else-self : goal.returns-else-self
returns-else-self c = sees-upto _ _ c.open.ensures c.contains.ensures.value c.if-contains.false c.if-self.false
