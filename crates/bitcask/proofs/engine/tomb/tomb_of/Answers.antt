-- `tomb_of` lays the two lengths, and copies the key behind them.
use mathlib.Core.Path.{◌∙◌}
use native.Mathlib.Omega.{arith}
use Rattle.bitcask.proofs.engine.TombLaws.{tomb_laid, copied}
use Rattle.bitcask.proofs.engine.tomb.tomb_of.Goals as goal

pub returns : goal.returns
returns c =
    let a = c.args in
    tomb_laid a.log.now a.at a.from a.len c.requires.0 c.requires.1 c.put_number.ensures c.put_number-2.ensures (c.copy_within.ensures.after ∙ copied _ _ _ _ (omega arith))
