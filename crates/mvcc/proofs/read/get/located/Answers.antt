-- `located`: an answer for each that a walk gives.
use mathlib.Core.Path.{sym, ap}
use Rattle.mvcc.specs.version.Seen.{located_seen}
use Rattle.mvcc.proofs.read.get.located.Goals as goal

pub returns-in-Bad : goal.returns-in-Bad
returns-in-Bad c = ap located_seen (sym c.in-Bad.is)

pub returns-in-Value : goal.returns-in-Value
returns-in-Value c = ap located_seen (sym c.in-Value.is)
