-- `rows_in`: the ranks' difference.
use mathlib.Core.Path.{◌∙◌}
use Rattle.bitcask.specs.engine.Rows.{rows}
use Rattle.bitcask.proofs.engine.SpanLaws.{width_is}
use Rattle.bitcask.proofs.engine.span.rows_in.Goals as goal

pub returns : goal.returns
returns c = let a = c.args in c.saturating_sub.ensures ∙ width_is a.span.from a.span.to (rows a.log.now a.table.now a.mark)
