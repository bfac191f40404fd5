-- `append_del` hands the key on, and moves the mark.
use mathlib.Core.Path.{refl, ap}
use Rattle.bitcask.specs.declared.request.Used.{Used}
use Rattle.bitcask.specs.engine.Stores.{state_of}
use Rattle.bitcask.proofs.engine.EndLaws.{used-is}
use Rattle.bitcask.proofs.engine.LeftLaws.{keeps_as, del-keeps}
use native.Mathlib.Omega.{arith}
use Rattle.bitcask.proofs.engine.store.Store.append_del.Goals as goal

pub invariant_of-self : goal.invariant_of-self
invariant_of-self c =
    let s = c.args.self.now in
    record { held = keeps_as s.held (used-is _ _ _ _ _ (ap (λ (u : Used). u.len) c.moved.ensures) c.append_del-end.ensures) (del-keeps (state_of s) s.held.within s.held.room c.args.key.now (omega (arith, c.requires))) }

pub returns : goal.returns
returns c = record { lent = (refl, refl); state = used-is _ _ _ _ _ (ap (λ (u : Used). u.len) c.moved.ensures) c.append_del-end.ensures }
