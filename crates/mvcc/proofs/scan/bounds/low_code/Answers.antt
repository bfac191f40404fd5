-- `low_code`: a Version key for each kind of lower bound.
use Rattle.mvcc.proofs.scan.BoundLaws.{fits_included, fits_excluded, low_by}
use Rattle.mvcc.proofs.scan.bounds.low_code.Goals as goal

pub version_code-requires : goal.version_code-requires
version_code-requires c = fits_included c.args.low.now c.in-Included.is c.requires

pub version_code-requires-in-Excluded : goal.version_code-requires-in-Excluded
version_code-requires-in-Excluded c = fits_excluded c.args.low.now c.in-Excluded.is c.requires

pub returns-in-Included : goal.returns-in-Included
returns-in-Included c = low_by c.args.low.now c.in-Included.is c.version_code.ensures

pub returns-in-Excluded : goal.returns-in-Excluded
returns-in-Excluded c = low_by c.args.low.now c.in-Excluded.is c.version_code-in-Excluded.ensures

pub returns-in-Unbounded : goal.returns-in-Unbounded
returns-in-Unbounded c = low_by c.args.low.now c.in-Unbounded.is c.version_code-in-Unbounded.ensures
