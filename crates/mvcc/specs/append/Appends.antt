-- Entries appended all or none to a store that was entered: what every table is left as, the numbers, and under agreement the engine's
-- rule. Assumes nothing.
use Rattle.bitcask.specs.declared.request.Used.{Used}
use Rattle.keycode.specs.declared.refusal.Refusal.{Refusal}
use Rattle.std.specs.Prelude.{ℕ, ◌+◌, ◌≡◌, not, ◌⊎◌, List, leb, eqb, length, Result}
use Rattle.bitcask.specs.entry.Entry.{Entry}
use Rattle.bitcask.specs.recovery.Agree.{Agrees}
use Rattle.bitcask.specs.recovery.Promises.{changed_number}
use Rattle.bitcask.specs.change.Append.{size_all, append_answer}
use Rattle.bitcask.specs.declared.engine.mark.Mark.{Mark}
use Rattle.bitcask.specs.declared.engine.store.Store.{Store}
use Rattle.mvcc.specs.append.Lays.{Leaves}

pub record Appends (log t : List ℕ) (m : Mark) (es : List Entry) (r : Result Used Refusal) (log' t' : List ℕ) : Type 0 where
  -- always
  pub leaves : Leaves log m.used.len t es r log' t'
  pub numbers : (changed_number r ≡ 0) ⊎ ((changed_number r ≡ 7) ⊎ (changed_number r ≡ 8))
  pub full : eqb (changed_number r) 7 ≡ not (leb (m.used.len + size_all es) (length log))
  -- agreed
  pub answer : Agrees log m.used.len t → r ≡ append_answer log m.used.len (length t) es

-- the same of a store that is written to
abbrev pub AppendsTo : Store → List Entry → Result Used Refusal → Store → Type 0
AppendsTo s es r s' = Appends s.log.now s.table.now s.mark es r s'.log.now s'.table.now
