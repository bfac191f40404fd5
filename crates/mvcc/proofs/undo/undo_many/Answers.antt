use Prim.Native.Nat.{◌+◌, ◌-◌}
use mathlib.Core.Path.{◌≡◌, refl, ◌∙◌}
use native.Mathlib.Omega.{arith}
use Rattle.bitcask.specs.engine.Spots.{rank}
use Rattle.bitcask.specs.engine.Stores.{kept}
use Rattle.mvcc.proofs.undo.UndoStepLaws.{undo_start, undo_turn, undo_end}
use Rattle.mvcc.proofs.undo.undo_many.Goals as goal

pub loop-init : goal.loop-init
loop-init c =
    let a = c.args in let s = a.store.now in let z : a.n - 0 ≡ a.n = omega arith in
    ((refl, refl), rw z (undo_start a.n (rank a.spot (kept s)) a.version s.held))

pub loop-preserved : goal.loop-preserved
loop-preserved c =
    let a = c.args in let z : a.n - (c.loop.counter + 1) ≡ a.n - c.loop.counter - 1 = omega arith in
    let i = c.loop.invariant in let e = c.undo_row.ensures in
    ((e.lent.0 ∙ i.0.0, e.lent.1 ∙ i.0.1), rw z (undo_turn a.spot i.1 (omega arith) e.state))

pub returns : goal.returns
returns c = record { lent = c.loop.invariant.0; state = undo_end c.loop.invariant.1 (omega arith) }
