-- `snapshot_code`: the code of TxnActiveSnapshot.
use mathlib.Core.List.{[]}
use native.Mathlib.Omega.{arith}
use Rattle.std.proofs.Common.{rules}
use Rattle.keycode.specs.key.Keys.{encode, txn_active_snapshot}
use Rattle.keycode.proofs.code.CodeLaws.{code_coded, number_fits}
use Rattle.keycode.proofs.code.snapshot_code.Goals as goal

pub returns : goal.returns
returns c = let w = c.coded.ensures in code_coded [] (encode (txn_active_snapshot c.args.version)) w.1 w.0 (omega arith) (number_fits 2 _) (search rules) w.3
