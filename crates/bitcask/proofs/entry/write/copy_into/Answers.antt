-- `copy_into` lays a run over a part.
use mathlib.Core.Path.{refl}
use Rattle.bitcask.proofs.entry.EntryLaws.{part_laid}
use Rattle.bitcask.proofs.entry.write.copy_into.Goals as goal

pub returns : goal.returns
returns c = let a = c.args in (refl, part_laid a.out.now a.at a.src.now c.copy_from_slice.ensures.after)
