-- `spell` is safe and ends. The measure is how much of the word is left.
use Rattle.std.proofs.Common.{length}
use Rattle.script.proofs.spelling.spell.spell.Given as goal

abbrev pub decreases-loop-first : goal.decreases-loop-first
decreases-loop-first l = length l.rest
