-- `laid`: the two or three sets by the codes of their keys.
use mathlib.Core.Path.{sym}
use Rattle.keycode.proofs.NumberLaws.{length-be}
use Rattle.mvcc.specs.payload.Payloads.{version_bytes}
use Rattle.mvcc.proofs.start.PlanLaws.{whole-laid, next_less, own_less, plan_two, plan_three}
use Prim.Native.Nat.{◌+◌}
use native.Mathlib.Omega.{arith}
use Rattle.mvcc.proofs.start.laid.Goals as goal

pub append_pair-requires : goal.append_pair-requires
append_pair-requires c = let p = c.requires in let a = c.args in rw (c.as_slice.ensures, c.as_slice-then-open-eq0.ensures) (p.0, next_less a.version c.next_version_code-next.ensures c.active_code-own.ensures, omega arith, omega arith)

pub returns-then-open-eq0-clause-appends : goal.returns-then-open-eq0-clause-appends
returns-then-open-eq0-clause-appends c = let a = c.args in plan_two a.store.now.log.now a.store.now.table.now a.store.now.mark a.«open» a.version a.set.now _ _ _ _ _ _ c.next_version_code-next.ensures c.active_code-own.ensures (whole-laid _ (version_bytes (a.version + 1)) c.put_version.ensures (sym (length-be 8 (a.version + 1)))) c.if-open-eq0.true (rw (c.as_slice.ensures, c.as_slice-then-open-eq0.ensures) at c.append_pair.ensures.appends)

pub append_three-requires : goal.append_three-requires
append_three-requires c = let p = c.requires in let a = c.args in rw (c.as_slice-2.ensures, c.as_slice-3.ensures, c.as_slice-4.ensures) (p.0, next_less a.version c.next_version_code-next.ensures c.active_code-own.ensures, own_less a.version c.active_code-own.ensures c.snapshot_code-snapshot.ensures)

pub returns-clause-appends : goal.returns-clause-appends
returns-clause-appends c = let a = c.args in plan_three a.store.now.log.now a.store.now.table.now a.store.now.mark a.«open» a.version a.set.now _ _ _ _ _ _ c.next_version_code-next.ensures c.active_code-own.ensures (whole-laid _ (version_bytes (a.version + 1)) c.put_version.ensures (sym (length-be 8 (a.version + 1)))) c.if-open-eq0.false _ c.snapshot_code-snapshot.ensures (rw (c.as_slice-2.ensures, c.as_slice-3.ensures, c.as_slice-4.ensures) at c.append_three.ensures.appends)
