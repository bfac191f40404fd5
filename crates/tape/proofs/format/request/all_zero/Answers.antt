-- `all_zero` looks at one byte after the other.
use Rattle.std.proofs.Common.{rules, tests, ◌∙◌, ℕ}
use Rattle.std.proofs.lemmas.Iterator.{YieldsList-from_slice}
use Rattle.std.proofs.lemmas.Iterator.Search.{all_from_yields_List}
use lib.Dec.{eqb}
use Rattle.tape.proofs.format.RequestLaws.{zeros-all}
use Rattle.tape.proofs.format.request.all_zero.Goals as goal

pub returns : goal.returns
returns c =
    let all = all_from_yields_List (λ (b : ℕ). eqb b 0) _ _ c.all.result c.all.ensures.ran (YieldsList-from_slice c.args.s.now cc) (λ x b q k. search (rules, tests)) in
    all ∙ zeros-all c.args.s.now
