-- `is_utf8` is std's test, which is the table's.
use mathlib.Core.Path.{◌∙◌}
use Rattle.codecs.proofs.TextLaws.{checked}
use Rattle.codecs.proofs.utf8.is_utf8.Goals as goal

pub returns : goal.returns
returns c = c.is_ok.ensures.value ∙ checked c.args.s.now _ _ _ c.from_utf8.ensures.cases
