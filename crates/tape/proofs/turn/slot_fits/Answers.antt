-- src/turn.rt:104:9
use Rattle.tape.proofs.AdmitLaws.{fits-empty, fits-filled, fits_any}
use native.Mathlib.Omega.{arith}
use Rattle.tape.proofs.turn.slot_fits.Goals as goal

pub returns-then-command-le3 : goal.returns-then-command-le3
returns-then-command-le3 c = fits-empty c.args.command c.args.full c.if-command-le3.true

-- src/turn.rt:100:1
pub returns-then-command-le9 : goal.returns-then-command-le9
returns-then-command-le9 c = fits-filled c.args.command c.args.full (omega arith) c.if-command-le9.true

-- src/turn.rt:100:1
pub returns-else-command-le9 : goal.returns-else-command-le9
returns-else-command-le9 c = fits_any c.args.command c.args.full (omega arith)
