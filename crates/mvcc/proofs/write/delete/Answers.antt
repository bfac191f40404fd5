-- `delete`: the payload is the tombstone's tag alone.
use Rattle.mvcc.specs.payload.Payloads.{value_bytes}
use Rattle.mvcc.proofs.write.delete.Goals as goal

pub shape_of-log : goal.shape_of-log
shape_of-log c = c.write.auto.log

pub shape_of-table : goal.shape_of-table
shape_of-table c = c.write.auto.table

pub returns : goal.returns
unfolding value_bytes
returns c = c.write.ensures
