-- `append_set` lays the entry and puts its slot in where it was found to belong.
use mathlib.Core.Path.{refl, ap, ◌∙◌}
use mathlib.Core.List.{◌++◌}
use lib.ListN.{length-append}
use Rattle.bitcask.specs.declared.request.Used.{Used}
use Rattle.bitcask.specs.engine.Sets.{spot_place}
use Rattle.bitcask.specs.engine.Stores.{state_of}
use Rattle.bitcask.proofs.engine.SetLaws.{set_is, among_same}
use Rattle.bitcask.proofs.engine.LeftLaws.{keeps_as, set-keeps}
use native.Mathlib.Omega.{arith}
use Rattle.bitcask.proofs.engine.store.Store.append_set.Goals as goal

pub enter-n-requires : goal.enter-n-requires
enter-n-requires c = let s = c.args.self.now in (among_same s.mark.count _ _ c.place_of.ensures c.requires.1, s.held.room)

pub invariant_of-self-2 : goal.invariant_of-self-2
invariant_of-self-2 c =
    let a = c.args in let s = a.self.now in
    record {
      held = keeps_as s.held
          (set_is s.log.now s.table.now s.mark.used.len s.mark.count a.key.now a.head.now a.body.now _ _ _ _ _ _ c.place_of.ensures c.put_set-end.ensures.1 (ap (λ (u : Used). u.len) c.moved.ensures ∙ c.put_set-end.ensures.0) c.enter-n.ensures)
          (set-keeps (state_of s) s.held.within s.held.room (spot_place a.found) a.key.now (a.head.now ++ a.body.now) c.requires.1 (omega (arith, c.requires.0, length-append a.head.now a.body.now)));
    }

pub returns : goal.returns
returns c =
    let a = c.args in let s = a.self.now in
    record {
      lent = (refl, refl);
      state = set_is s.log.now s.table.now s.mark.used.len s.mark.count a.key.now a.head.now a.body.now _ _ _ _ _ _ c.place_of.ensures c.put_set-end.ensures.1 (ap (λ (u : Used). u.len) c.moved.ensures ∙ c.put_set-end.ensures.0) c.enter-n.ensures;
    }
