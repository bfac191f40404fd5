-- `write_span`: the prefix is a tag and the version's bytes.
use Rattle.bitcask.specs.engine.Views.{shown}
use Rattle.mvcc.proofs.end.CloseLaws.{write_rows}
use Rattle.mvcc.proofs.end.clear.write_span.Goals as goal

pub returns : goal.returns
returns c = let a = c.args in write_rows (shown a.view.now) a.version c.put_number.ensures c.prefix_span.ensures
