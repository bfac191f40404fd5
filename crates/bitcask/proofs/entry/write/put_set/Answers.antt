-- `put_set` lays an entry, its value in two parts.
use mathlib.Core.Path.{refl}
use lib.ListN.{length-append}
use Rattle.bitcask.proofs.entry.EntryLaws.{set-laid}
use native.Mathlib.Omega.{arith}
use Rattle.bitcask.proofs.entry.write.put_set.Goals as goal

pub returns : goal.returns
returns c =
    let a = c.args in (
      omega (arith, length-append a.head.now a.body.now),
      set-laid a.log.now a.at a.key.now a.head.now a.body.now c.requires.0 refl c.put_head-v.ensures.0 c.copy_into-b.ensures.0 c.put_head-v.ensures.1 c.copy_into-b.ensures.1 c.copy_into.ensures.1,
    )
