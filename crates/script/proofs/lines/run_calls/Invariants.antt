-- `run_calls` is safe and ends. The measure is how much of the line is left.
use Rattle.std.proofs.Common.{length}
use Rattle.script.proofs.lines.run_calls.Given as goal

abbrev pub decreases-loop-asked : goal.decreases-loop-asked
decreases-loop-asked l = length l.rest
