-- `put_padded` lays bytes and the zeros behind them.
use native.Mathlib.Omega.{arith}
use Rattle.tape.proofs.format.LayoutLaws.{mid-laid, padded-filled}
use Rattle.tape.proofs.format.layout.put_padded.Goals as goal

pub returns : goal.returns
returns c =
    let a = c.args in
    padded-filled a.out.now a.at a.room a.xs.now c.requires.0 c.requires.1
    (mid-laid a.out.now a.at _ c.copy_from_slice.ensures.after (omega arith)) (c.fill.ensures.after (λ y e. e))
