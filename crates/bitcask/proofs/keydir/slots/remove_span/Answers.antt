-- `remove_span` moves what follows a span down, and clears what that frees.
use Prim.Native.Nat.{◌*◌}
use native.Mathlib.Omega.{arith}
use Rattle.bitcask.specs.keydir.Slots.{slot_words}
use Rattle.bitcask.proofs.keydir.WordLaws.{within_is}
use Rattle.bitcask.proofs.keydir.SlotLaws.{span_done}
use Rattle.bitcask.proofs.keydir.slots.remove_span.Goals as goal

pub returns : goal.returns
returns c =
    let a = c.args in
    let q = c.requires in
    span_done a.table.now a.count a.i a.j q.0 q.1 q.2 (within_is a.table.now (slot_words * a.j) (slot_words * a.count) (slot_words * a.i) (omega (arith, q.1)) q.2 c.copy_within.ensures.after) (c.fill.ensures.after (λ y e. e))
