-- `write_code`: the code of TxnWrite.
use Rattle.std.proofs.Common.{rules}
use Rattle.keycode.specs.key.Keys.{encode, txn_write}
use Rattle.keycode.proofs.code.CodeLaws.{code_coded, write_fits}
use Rattle.keycode.proofs.code.write_code.Goals as goal

pub returns : goal.returns
returns c = let w = c.coded.ensures in code_coded c.args.key.now (encode (txn_write c.args.version c.args.key.now)) w.1 w.0 c.requires (write_fits c.args.key.now c.requires _) (search rules) w.3
