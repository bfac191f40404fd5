-- `open_span`: the rows of one tag.
use Rattle.mvcc.proofs.snapshot.open_span.Goals as goal

pub returns : goal.returns
returns c = c.prefix_span.ensures
