-- `decode_row` reads one field after the other; what the whole key reads to is what the rest does, behind the cells so far.
use Rattle.rows.proofs.FieldLaws.{Reading}
use Rattle.rows.proofs.decoding.decode_row.Given as goal

abbrev pub invariant-loop-i : goal.invariant-loop-i
invariant-loop-i l = Reading l.kinds l.key l.cells l.at l.i
