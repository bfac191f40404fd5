-- `unversioned_code`: the code of Unversioned.
use Rattle.std.proofs.Common.{rules}
use Rattle.keycode.specs.key.Keys.{encode, unversioned}
use Rattle.keycode.proofs.code.CodeLaws.{code_coded, unversioned-fits}
use Rattle.keycode.proofs.code.unversioned_code.Goals as goal

pub returns : goal.returns
returns c = let w = c.coded.ensures in code_coded c.args.key.now (encode (unversioned c.args.key.now)) w.1 w.0 c.requires (unversioned-fits c.args.key.now c.requires) (search rules) w.3
