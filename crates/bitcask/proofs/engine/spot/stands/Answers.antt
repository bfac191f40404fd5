-- `stands` compares a rank with how many rows there are.
use mathlib.Core.Path.{sym, ap}
use Prim.Native.Nat.{ℕ}
use lib.Dec.{ltb}
use Rattle.bitcask.specs.engine.Spots.{rank}
use Rattle.bitcask.proofs.engine.RowLaws.{rows-count}
use Rattle.bitcask.proofs.engine.spot.stands.Goals as goal

pub returns : goal.returns
unfolding rank
returns c = let a = c.args in ap (λ (n : ℕ). ltb a.spot.number n) (sym (rows-count a.log.now a.table.now a.mark))
