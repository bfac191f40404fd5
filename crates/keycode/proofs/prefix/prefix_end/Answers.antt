-- `prefix_end` raises the last byte that can be raised.
use mathlib.Core.Path.{◌∙◌}
use Rattle.std.proofs.Common.{rules}
use Rattle.keycode.proofs.PrefixLaws.{end_none, end_found}
use Rattle.keycode.proofs.prefix.prefix_end.Goals as goal

pub returns-in_err-keep : goal.returns-in_err-keep
returns-in_err-keep c = c.from_residual.ensures ∙ end_none c.args.prefix.now (search rules)

pub returns : goal.returns
returns c = end_found c.args.prefix.now c.in_ok-keep.keep (search rules) (search rules) (search rules)
