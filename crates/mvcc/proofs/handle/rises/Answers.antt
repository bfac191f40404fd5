-- `rises` compares each version with the one before.
use lib.Dec.{ltb}
use borrow.Author.Rules.{rules}
use Rattle.std.proofs.lemmas.Fn.{always_returns_same}
use Rattle.mvcc.proofs.handle.HandleLaws.{rising_told}
use Rattle.mvcc.proofs.handle.rises.Goals as goal

pub returns : goal.returns
returns c = rising_told c.args.set.now _ (c.is_sorted_by.ensures.cases ltb (always_returns_same _ _ _ (λ a r f' k. search rules)))
