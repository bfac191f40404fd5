-- `end_at` ends the span of one row.
use Rattle.bitcask.specs.engine.Stores.{state_of, kept}
use Rattle.bitcask.proofs.engine.EndLaws.{to-within, behind-within, ended-next}
use native.Mathlib.Omega.{arith}
use Rattle.bitcask.proofs.engine.store.Store.end_at.Goals as goal

pub overflow_add-to : goal.overflow_add-to
overflow_add-to c = let a = c.args in let s = a.self.now in omega (arith, to-within s.log.now s.table.now s.mark a.spot (omega (arith, c.requires)), s.held.room)

pub end_span-requires : goal.end_span-requires
end_span-requires c = let a = c.args in let s = a.self.now in behind-within s.log.now s.table.now s.mark a.spot c.requires

pub returns : goal.returns
returns c =
    let a = c.args in let s = a.self.now in
    record { lent = c.end_span.ensures.lent; state = ended-next a.spot (kept s) (state_of s) c.end_span.ensures.state }
