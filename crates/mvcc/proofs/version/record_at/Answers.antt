-- `record_at`: a Version key's string and what its version says; no other key is one.
use mathlib.Core.Path.{◌∙◌}
use borrow.Author.Rules.{rules}
use Rattle.bitcask.specs.engine.Views.{shown}
use Rattle.bitcask.specs.engine.Spots.{row_at}
use Rattle.mvcc.proofs.version.SeenLaws.{record_junk, record_good}
use Rattle.mvcc.proofs.version.record_at.Goals as goal

pub returns-in_err-label : goal.returns-in_err-label
returns-in_err-label c = let a = c.args in c.from_residual.ensures ∙ record_junk a.handle (row_at a.spot (shown a.view.now)) c.key_at.ensures c.label_of.ensures (search rules)

pub returns : goal.returns
returns c = let a = c.args in record_good a.handle (row_at a.spot (shown a.view.now)) c.key_at.ensures c.label_of.ensures _ c.in_ok-label.was c.key_place-place.ensures.0 c.string_part-key.ensures c.seen_as-seen.ensures
