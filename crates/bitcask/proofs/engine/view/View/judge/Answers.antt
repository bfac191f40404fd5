-- `judge`: the rows that the table can still take.
use Rattle.bitcask.specs.engine.Judging.{judge_in}
use Rattle.bitcask.proofs.engine.view.View.judge.Goals as goal

pub returns : goal.returns
unfolding judge_in
returns c = c.judged.ensures
