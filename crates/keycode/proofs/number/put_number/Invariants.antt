-- `put_number` lays the bytes of a number, the last one first.
use Rattle.keycode.proofs.NumberLaws.{Digits}
use Rattle.keycode.proofs.number.put_number.Given as goal

abbrev pub invariant-loop-i : goal.invariant-loop-i
invariant-loop-i l = Digits l.v l.width l.at l.initial.out l.out l.rest l.i
