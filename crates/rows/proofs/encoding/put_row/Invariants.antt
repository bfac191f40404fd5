-- `put_row` lays one field behind the other.
use Rattle.rows.proofs.EncodeLaws.{Putting}
use Rattle.rows.proofs.encoding.put_row.Given as goal

abbrev pub invariant-loop-field : goal.invariant-loop-field
invariant-loop-field l = Putting l.texts l.fields l.initial.out l.out l.at l.field-index
