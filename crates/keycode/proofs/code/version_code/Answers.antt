-- `version_code`: the code of Version.
use Rattle.std.proofs.Common.{rules}
use Rattle.keycode.specs.key.Keys.{encode, version}
use Rattle.keycode.proofs.code.CodeLaws.{code_coded, version-fits}
use Rattle.keycode.proofs.code.version_code.Goals as goal

pub returns : goal.returns
returns c = let w = c.coded.ensures in code_coded c.args.key.now (encode (version c.args.key.now c.args.version)) w.1 w.0 c.requires (version-fits c.args.key.now c.requires _) (search rules) w.3
