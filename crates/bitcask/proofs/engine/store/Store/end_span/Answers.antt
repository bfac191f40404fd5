-- `end_span` lays the tombstones and then takes the slots out.
use mathlib.Core.Path.{ap}
use Prim.Native.Nat.{◌<◌}
use Rattle.bitcask.specs.declared.request.Used.{Used}
use Rattle.bitcask.specs.engine.Spots.{rank}
use Rattle.bitcask.specs.engine.Stores.{state_of, kept}
use Rattle.bitcask.proofs.engine.EndLaws.{to-within, ended-none, ended_is}
use Rattle.bitcask.proofs.engine.LeftLaws.{keeps_as, ended-keeps}
use native.Mathlib.Omega.{arith}
use Rattle.bitcask.proofs.engine.store.Store.end_span.Goals as goal

pub returns-then-to-from-clause-state : goal.returns-then-to-from-clause-state
returns-then-to-from-clause-state c =
    let a = c.args in let s = a.self.now in
    ended-none s.log.now s.table.now s.mark.used.len s.mark.count a.span.from a.span.to (kept s) c.if-to-from.true

pub lay_tombs-end-requires : goal.lay_tombs-end-requires
lay_tombs-end-requires c = let a = c.args in let s = a.self.now in (s.held, to-within s.log.now s.table.now s.mark a.span.to c.requires)

pub remove_span-requires : goal.remove_span-requires
remove_span-requires c =
    let a = c.args in let s = a.self.now in
    (omega (arith, c.if-to-from.false), to-within s.log.now s.table.now s.mark a.span.to c.requires, s.held.room)

pub invariant_of-self : goal.invariant_of-self
unfolding rank
invariant_of-self c =
    let a = c.args in let s = a.self.now in let t = to-within s.log.now s.table.now s.mark a.span.to c.requires in
    let f : a.span.from.number < a.span.to.number = omega (arith, c.if-to-from.false) in
    record {
      held = keeps_as s.held
          (ended_is s.log.now s.table.now s.mark.used.len s.mark.count a.span.from a.span.to (kept s) f t _ _ _ _ c.lay_tombs-end.ensures c.remove_span.ensures _ (ap (λ (u : Used). u.len) c.moved.ensures) (omega arith))
          (ended-keeps (state_of s) s.held.within s.held.room _ _ t);
    }

pub returns-clause-state : goal.returns-clause-state
returns-clause-state c =
    let a = c.args in let s = a.self.now in let t = to-within s.log.now s.table.now s.mark a.span.to c.requires in
    let f : a.span.from.number < a.span.to.number = omega (arith, c.if-to-from.false) in
    ended_is s.log.now s.table.now s.mark.used.len s.mark.count a.span.from a.span.to (kept s) f t _ _ _ _ c.lay_tombs-end.ensures c.remove_span.ensures _ (ap (λ (u : Used). u.len) c.moved.ensures) (omega arith)
