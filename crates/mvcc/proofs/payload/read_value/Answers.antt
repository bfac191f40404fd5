-- `read_value` goes by the first byte, and a tombstone by the length too.
use native.Mathlib.Omega.{arith}
use Rattle.mvcc.proofs.payload.PayloadLaws.{value_none, value_some, value_gone, value-other, value-long}
use Rattle.mvcc.proofs.payload.read_value.Goals as goal

pub returns-in-0 : goal.returns-in-0
returns-in-0 c = value_gone c.args.bytes.now (omega arith) (omega arith)

pub returns-in-1 : goal.returns-in-1
returns-in-1 c = value_some c.args.bytes.now (omega arith) (omega arith)

pub returns-in-1-2 : goal.returns-in-1-2
returns-in-1-2 c = value_some c.args.bytes.now (omega arith) (omega arith)

pub returns-in_default : goal.returns-in_default
returns-in_default c = value_none c.args.bytes.now (omega arith)

pub returns-in_default-2 : goal.returns-in_default-2
returns-in_default-2 c = value-other c.args.bytes.now (omega arith) (λ e. omega arith) (λ e. omega arith)

pub returns-in_default-3 : goal.returns-in_default-3
returns-in_default-3 c = value-long c.args.bytes.now (omega arith) (λ e. omega arith)
