-- `laid`: both keys by their codes, and the two entries.
use mathlib.Core.List.{◌++◌}
use Rattle.mvcc.proofs.write.WriteLaws.{plan_less, plan_appends}
use Rattle.mvcc.proofs.write.laid.Goals as goal

pub append_pair-requires : goal.append_pair-requires
append_pair-requires c = let p = c.requires in let a = c.args in rw (c.as_slice.ensures, c.as_slice-2.ensures) (p.0, plan_less a.version a.key.now c.write_code-write.ensures c.version_code-stored.ensures, p.2, p.3)

pub returns-clause-appends : goal.returns-clause-appends
returns-clause-appends c = let a = c.args in plan_appends a.store.now.log.now a.store.now.table.now a.store.now.mark a.version a.key.now (a.head.now ++ a.body.now) _ _ _ _ _ c.write_code-write.ensures c.version_code-stored.ensures (rw (c.as_slice.ensures, c.as_slice-2.ensures) at c.append_pair.ensures.appends)
