-- `read_log` is safe and ends. The measure is how much of what is read is left.
use Rattle.std.proofs.Common.{◌-◌, length}
use Rattle.exhaust.proofs.plain.read_log.Given as goal

abbrev pub decreases-loop-entry : goal.decreases-loop-entry
decreases-loop-entry l = length l.bytes - l.at
