-- `positive` refuses version 0.
use borrow.Author.Rules.{rules}
use Rattle.mvcc.proofs.snapshot.ActiveLaws.{next_kept}
use Rattle.mvcc.proofs.snapshot.positive.Goals as goal

pub returns : goal.returns
returns c = next_kept _ (λ x b k. search rules) c.args.read c.filter.ensures
