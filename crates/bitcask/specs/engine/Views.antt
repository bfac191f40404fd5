-- Views of a store that was entered: the rows that one shows, and an answer that gives one. Assumes nothing.
use Rattle.keycode.specs.declared.refusal.Refusal.{Refusal}
use Rattle.std.specs.Prelude.{ℕ, ◌≡◌, List, Result, Ok, Err}
use Rattle.bitcask.specs.declared.engine.mark.Mark.{Mark}
use Rattle.bitcask.specs.declared.engine.view.View.{View}
use Rattle.bitcask.specs.engine.Rows.{Row, rows}

-- the rows that a view shows
abbrev pub shown : View → List Row
shown v = rows v.log.now v.table.now v.mark

-- a view of this log and this table, with this mark
pub record Views (log t : List ℕ) (m : Mark) (v : View) : Type 0 where
  pub log_is : v.log.now ≡ log
  pub table_is : v.table.now ≡ t
  pub mark_is : v.mark ≡ m

-- an answer with its view's mark alone
abbrev pub marked : Result View Refusal → Result Mark Refusal
marked (Ok v) = Ok v.mark
marked (Err r) = Err r

-- an answer whose view, where it gives one, is of this log and this table
abbrev pub Viewed : List ℕ → List ℕ → Result View Refusal → Type 0
Viewed log t r = (v : View) → r ≡ Ok v → Views log t v.mark v
