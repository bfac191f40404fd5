-- `against` holds an entry against its key's slot.
use Rattle.std.proofs.Common.{rules}
use Rattle.bitcask.specs.check.Told.{against}
use Rattle.bitcask.proofs.check.against.Goals as goal

pub returns-then-x-s : goal.returns-then-x-s
unfolding against
returns-then-x-s c = search rules

pub returns-then-eq : goal.returns-then-eq
unfolding against
returns-then-eq c = search rules

pub returns-else-not-gone : goal.returns-else-not-gone
unfolding against
returns-else-not-gone c = search rules
