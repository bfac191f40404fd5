-- `recovery::passing::pass_with` meets its contract. The invariant: table and changes stand for slots from which the entries left lead
-- to what all of them do. Assumes nothing.
use mathlib.Core.Path.{◌≡◌}
use lib.ListN.{length}
use Rattle.bitcask.proofs.recovery.PassLaws.{Passing}
use Rattle.bitcask.proofs.recovery.passing.pass_with.Given as goal

abbrev pub invariant-loop-left : goal.invariant-loop-left
invariant-loop-left l = (Passing l.log l.used l.initial.table l.count l.start l.most l.table l.pend l.at l.h l.left) × (length l.pend ≡ length l.initial.pend)

abbrev pub decreases-loop-left : goal.decreases-loop-left
decreases-loop-left l = l.left
