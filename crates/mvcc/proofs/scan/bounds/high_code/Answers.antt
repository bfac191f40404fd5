-- `high_code`: a Version key for each kind of upper bound, and the byte behind all of them for none.
use Rattle.mvcc.proofs.scan.BoundLaws.{fits_included, fits_excluded, high_by, five_code}
use Rattle.mvcc.proofs.scan.bounds.high_code.Goals as goal

pub version_code-requires : goal.version_code-requires
version_code-requires c = fits_included c.args.high.now c.in-Included.is c.requires

pub version_code-requires-in-Excluded : goal.version_code-requires-in-Excluded
version_code-requires-in-Excluded c = fits_excluded c.args.high.now c.in-Excluded.is c.requires

pub returns-in-Included : goal.returns-in-Included
returns-in-Included c = high_by c.args.high.now c.in-Included.is c.version_code.ensures

pub returns-in-Excluded : goal.returns-in-Excluded
returns-in-Excluded c = high_by c.args.high.now c.in-Excluded.is c.version_code-in-Excluded.ensures

pub returns-in-Unbounded : goal.returns-in-Unbounded
returns-in-Unbounded c = high_by c.args.high.now c.in-Unbounded.is five_code
