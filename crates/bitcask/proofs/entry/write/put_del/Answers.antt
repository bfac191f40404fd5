-- `put_del` lays a tombstone.
use Rattle.bitcask.proofs.entry.EntryLaws.{del-laid}
use native.Mathlib.Omega.{arith}
use Rattle.bitcask.proofs.entry.write.put_del.Goals as goal

pub returns : goal.returns
returns c = let a = c.args in (omega arith, del-laid a.log.now a.at a.key.now c.put_head.ensures.1)
