-- `plain_len` steps over a string and counts its bytes.
use Prim.Native.Nat.{◌-◌}
use lib.ListN.{length}
use Rattle.keycode.proofs.StringLaws.{Counting}
use Rattle.keycode.proofs.strings.plain_len.Given as goal

abbrev pub invariant-loop-i : goal.invariant-loop-i
invariant-loop-i l = Counting l.s l.n l.i

abbrev pub decreases-loop-i : goal.decreases-loop-i
decreases-loop-i l = length l.s - l.i
