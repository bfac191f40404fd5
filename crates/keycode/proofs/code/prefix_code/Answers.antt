-- `prefix_code`: the code that a user prefix is searched as.
use Rattle.std.proofs.Common.{rules}
use Rattle.keycode.specs.Prefix.{searched}
use Rattle.keycode.proofs.code.CodeLaws.{code_coded, searched-fits}
use Rattle.keycode.proofs.code.prefix_code.Goals as goal

pub returns : goal.returns
returns c = let w = c.coded.ensures in code_coded c.args.prefix.now (searched c.args.prefix.now) w.1 w.0 c.requires (searched-fits c.args.prefix.now c.requires) (search rules) w.3
