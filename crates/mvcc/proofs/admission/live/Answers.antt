-- `live`: whether the search found a row.
use mathlib.Core.Path.{◌∙◌}
use Rattle.bitcask.specs.engine.Views.{shown}
use Rattle.mvcc.proofs.admission.AdmitLaws.{found_live}
use Rattle.mvcc.proofs.admission.live.Goals as goal

pub returns : goal.returns
returns c = let a = c.args in c.is_ok.ensures.value ∙ found_live a.key.now (shown a.view.now) c.find.result c.find.ensures
