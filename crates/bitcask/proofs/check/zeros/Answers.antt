-- `zeros` looks at the words one by one.
use Prim.Native.Nat.{ℕ}
use mathlib.Core.Path.{◌≡◌}
use Rattle.std.proofs.Common.{rules}
use Rattle.std.specs.Prelude.{IsTrue, ◌↔◌, All}
use Rattle.bitcask.proofs.check.TellLaws.{zeroed-all}
use Rattle.bitcask.proofs.check.zeros.Goals as goal

pub returns : goal.returns
returns c =
    let f : IsTrue c.all.result ↔ All (λ (x : ℕ). x ≡ 0) c.args.words.now = search rules in
    zeroed-all c.args.words.now c.all.result f
