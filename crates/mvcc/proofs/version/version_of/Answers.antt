-- `version_of`: the version alone.
use mathlib.Core.Path.{◌∙◌}
use borrow.Author.Rules.{rules}
use Rattle.std.specs.Prelude.{None}
use Rattle.keycode.specs.Limits.{max_key}
use Rattle.keycode.specs.key.Keys.{decode_why, forget}
use Rattle.mvcc.proofs.version.SeenLaws.{version_by}
use Rattle.mvcc.proofs.version.version_of.Goals as goal

pub returns-in_err-label_of : goal.returns-in_err-label_of
returns-in_err-label_of c = let a = c.args in c.from_residual.ensures ∙ version_by (forget (decode_why max_key a.key.now)) {j = None} c.label_of.ensures (search rules)

pub returns : goal.returns
returns c = let a = c.args in version_by (forget (decode_why max_key a.key.now)) c.label_of.ensures c.in_ok-label_of.was
