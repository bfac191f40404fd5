-- `label_of`: the string and the version of a Version key, and none of the others.
use Rattle.mvcc.proofs.OrLaws.{ok_value}
use Rattle.mvcc.proofs.version.SeenLaws.{label_own, label_other}
use Rattle.mvcc.proofs.version.label_of.Goals as goal

pub returns-in_default : goal.returns-in_default
returns-in_default c = label_other _ c.decode.ensures (ok_value _ c.ok.ensures.value _ c.in_ok-string.was) c.in_default.not-Version

pub returns : goal.returns
returns c = label_own _ _ _ c.decode.ensures (ok_value _ c.ok.ensures.value _ c.in_ok-string.was) c.in-Version.is
