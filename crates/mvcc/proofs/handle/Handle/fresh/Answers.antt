-- `fresh` makes a handle with no set.
use Rattle.mvcc.proofs.handle.HandleLaws.{fresh_made}
use Rattle.mvcc.proofs.handle.Handle.fresh.Goals as goal

pub returns : goal.returns
returns c = fresh_made _ _
