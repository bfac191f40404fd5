-- `check_fields` ends at the first fault; what the whole row's is is what that of the rest is.
use mathlib.Core.Path.{◌≡◌}
use lib.ListN.{drop}
use Rattle.rows.specs.Promises.{fields_check}
use Rattle.rows.proofs.encoding.check_fields.Given as goal

abbrev pub invariant-loop-field : goal.invariant-loop-field
invariant-loop-field l = fields_check l.texts l.fields ≡ fields_check l.texts (drop l.field-index l.fields)
