-- Stores that are written to: the state and the rows of one, and that a write leaves it the same log and table. Assumes nothing.
use Rattle.std.specs.Prelude.{◌≡◌, List}
use Rattle.bitcask.specs.change.Append.{State}
use Rattle.bitcask.specs.declared.engine.store.Store.{Store}
use Rattle.bitcask.specs.engine.Marks.{mark_of}
use Rattle.bitcask.specs.engine.Rows.{Row, rows}

abbrev pub state_of : Store → State
state_of s = record { log = s.log.now; used = s.mark.used.len; table = s.table.now; count = s.mark.count }

-- the rows of a store
abbrev pub kept : Store → List Row
kept s = rows s.log.now s.table.now s.mark

-- what was lent to a store is what was lent to another: what a caller finds in the log and the table that it lent
abbrev pub SameLent : Store → Store → Type 0
SameLent s r = (r.log.ghost_name ≡ s.log.ghost_name) × (r.table.ghost_name ≡ s.table.ghost_name)

-- a store whose mark counts the rows that its table has
abbrev pub Counted : Store → Type 0
Counted s = s.mark ≡ mark_of s.mark.used s.table.now
