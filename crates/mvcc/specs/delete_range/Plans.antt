-- What the ends of transactions append, in the words of the map. Assumes nothing.
use Rattle.std.specs.Prelude.{List, [], ◌∷◌}
use Rattle.bitcask.specs.entry.Entry.{Entry, del}
use Rattle.bitcask.specs.recovery.Map.{Pair}

-- the tombstones of the keys of pairs
unfoldable pub cuts_of : List Pair → List Entry
cuts_of [] = []
cuts_of (q ∷ m) = del q.key ∷ cuts_of m
