use Prim.Native.Nat.{◌^◌, ◌<◌}
use mathlib.Core.Path.{◌∙◌}
use lib.ListN.{length}
use native.Mathlib.Omega.{arith}
use Rattle.std.proofs.Common.{rules, tests}
use Rattle.std.proofs.lemmas.Iterator.{YieldsList-from_slice, YieldsList-from_map}
use Rattle.std.proofs.lemmas.Iterator.Consumers.{sum_by_from_yields_List, fits_by_from_yields_list}
use Rattle.std.specs.List.{sum_by}
use Rattle.keycode.specs.Strings.{escape_byte}
use Rattle.keycode.proofs.StringLaws.{body_bound, body_sum}
use Rattle.keycode.proofs.strings.escaped_len.Goals as goal

pub sum-requires-clause-fits : goal.sum-requires-clause-fits
sum-requires-clause-fits c =
    let h : sum_by (λ b. length (escape_byte b)) c.args.key.now < 2 ^ 64 = omega (arith, body_sum c.args.key.now, body_bound c.args.key.now) in
    fits_by_from_yields_list _ _ c.map.result _ (YieldsList-from_map _ (λ b. length (escape_byte b)) (YieldsList-from_slice c.args.key.now cc) c.map.ensures.closure (λ x r q k. search (rules, tests))) h

pub returns : goal.returns
returns c = sum_by_from_yields_List _ _ c.map.result _ c.sum.ensures.ran (YieldsList-from_map _ (λ b. length (escape_byte b)) (YieldsList-from_slice c.args.key.now cc) c.map.ensures.closure (λ x r q k. search (rules, tests))) ∙ body_sum c.args.key.now
