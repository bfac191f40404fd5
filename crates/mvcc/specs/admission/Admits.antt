-- The checks that come first in every transaction call, of rows. 13 before 3. Assumes nothing.
use Rattle.keycode.specs.declared.refusal.Refusal.{Refusal}
use Rattle.std.specs.Prelude.{ℕ, ◌≡◌, List, leb, length, Result, ⊤, Ok, Err}
use Rattle.keycode.specs.Limits.{max_key, max_value}
use Rattle.bitcask.specs.declared.request.Used.{Used}
use Rattle.bitcask.specs.recovery.Agree.{fit}
use Rattle.bitcask.specs.declared.engine.mark.Mark.{Mark}
use Rattle.bitcask.specs.engine.Rows.{rows}
use Rattle.bitcask.specs.engine.Marks.{mark_of}
use Rattle.bitcask.specs.engine.Spots.{has_row}
use Rattle.mvcc.specs.declared.handle.Handle.{Handle}
use Rattle.mvcc.specs.handle.Handles.{sound_handle}
use Rattle.mvcc.specs.request.Checks.{active_key, open_by, admit_by}
use Rattle.mvcc.specs.write.Writes.{allow_by}

-- an answer with its mark forgotten
abbrev pub check_of : Result Mark Refusal → Result ⊤ Refusal
check_of (Ok m) = (Ok tt)
check_of (Err r) = Err r

-- for any table
pub record Admits (log : List ℕ) (used : Used) (t : List ℕ) (h : Handle) (r : Result Mark Refusal) : Type 0 where
  pub check : check_of r ≡ admit_by (fit (length log) used.len (length t)) (sound_handle h) (open_by h (has_row (active_key h) (rows log t (mark_of used t))))
  pub mark : (m : Mark) → r ≡ Ok m → m ≡ mark_of used t

-- the checks of a write, 13, 2, 3, 4 and 5, for any table
pub record Allows (log : List ℕ) (used : Used) (t : List ℕ) (h : Handle) (klen vlen : ℕ) (r : Result Mark Refusal) : Type 0 where
  pub check : check_of r ≡ allow_by (fit (length log) used.len (length t)) (sound_handle h) h.read_only (open_by h (has_row (active_key h) (rows log t (mark_of used t)))) (leb klen max_key) (leb vlen max_value)
  pub mark : (m : Mark) → r ≡ Ok m → m ≡ mark_of used t
