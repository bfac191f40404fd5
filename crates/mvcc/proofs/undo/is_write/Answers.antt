-- `is_write` decodes and looks at the kind of key.
use Rattle.mvcc.proofs.undo.UndoKeyLaws.{write_bad, write_key, write_other}
use Rattle.mvcc.proofs.undo.is_write.Goals as goal

pub returns-in-TxnWrite : goal.returns-in-TxnWrite
returns-in-TxnWrite c = write_key _ c.decode.ensures _ _ c.in-Ok.is c.in-TxnWrite.is

pub returns-in_default-matches : goal.returns-in_default-matches
returns-in_default-matches c = write_other _ c.decode.ensures _ c.in-Ok.is c.in_default-matches.not-TxnWrite

pub returns-in_default : goal.returns-in_default
returns-in_default c = write_bad _ c.decode.ensures _ c.in_default.is
