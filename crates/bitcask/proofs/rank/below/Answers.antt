-- `below` is the place that the search finds, as a number.
use mathlib.Core.Path.{◌≡◌}
use Rattle.std.proofs.Common.{rules}
use Rattle.bitcask.specs.read.Ranks.{before_at}
use Rattle.bitcask.proofs.read.RankLaws.{below_says}
use Rattle.bitcask.proofs.rank.below.Goals as goal

pub returns : goal.returns
returns c =
    let a = c.args in
    let e : c.unwrap_or_else.result ≡ before_at c.find.result = search rules in
    below_says a.log.now a.key.now a.table.now a.count c.find.result c.find.ensures e
