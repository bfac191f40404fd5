-- `fits` meets its contract. Assumes nothing.
use Rattle.bitcask.specs.recovery.Agree.{fit}
use Rattle.std.proofs.Common.{rules}
use Rattle.bitcask.proofs.request.fits.Goals as goal

pub returns-then-used-size : goal.returns-then-used-size
unfolding fit
returns-then-used-size c = search rules

pub returns-else-used-size : goal.returns-else-used-size
unfolding fit
returns-else-used-size c = search rules
