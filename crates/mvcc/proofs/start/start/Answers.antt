-- `start`: the entries, the snapshot by the handle.
use mathlib.Core.Path.{sym}
use lib.Seq.{length-take-le}
use Rattle.mvcc.specs.handle.Handles.{set_of}
use Rattle.mvcc.specs.payload.Payloads.{set_bytes}
use Rattle.mvcc.proofs.start.PlanLaws.{front-laid, set_laid}
use native.Mathlib.Omega.{arith}
use Rattle.mvcc.proofs.start.start.Goals as goal

pub slice_bounds-laid-end : goal.slice_bounds-laid-end
slice_bounds-laid-end c = sym (length-take-le _ _ (omega arith))

pub laid-requires : goal.laid-requires
laid-requires c = let p = c.requires in (p.0, p.1)

pub returns-clause-appends : goal.returns-clause-appends
returns-clause-appends c = let a = c.args in set_laid a.store.now.log.now a.store.now.table.now a.store.now.mark a.«open» a.handle (front-laid _ (set_bytes (set_of a.handle)) _ c.put_set-n.ensures.1 c.put_set-n.ensures.0) c.laid.ensures.appends
