-- Rows' writes undone, as the code does it for any table. Assumes nothing.
use Rattle.bitcask.specs.declared.request.Used.{Used}
use Rattle.keycode.specs.declared.refusal.Refusal.{Refusal}
use Rattle.std.specs.Prelude.{ℕ, zero, suc, ◌+◌, ◌≡◌, List, [], ◌∷◌, ◌++◌, ltb, length, get_or, Result, Err, Option, None, Some}
use Rattle.keycode.specs.Tests.{pick}
use Rattle.keycode.specs.key.Keys.{encode, version}
use Rattle.keycode.specs.declared.refusal.Refusal.TheVariants.{BadStore}
use Rattle.keycode.specs.declared.code.Code.{Code}
use Rattle.keycode.specs.code.Codes.{Codes}
use Rattle.bitcask.specs.entry.Entry.{Entry, del}
use Rattle.bitcask.specs.change.Append.{State, append_answer}
use Rattle.bitcask.specs.declared.engine.mark.Mark.{Mark}
use Rattle.bitcask.specs.engine.Rows.{Row, blank, rows, pairs}
use Rattle.bitcask.specs.engine.Endings.{ended_span}
use Rattle.mvcc.specs.undo.Plans.{user_in, undos_of, all_users}
use Rattle.mvcc.specs.end.Ways.{del_where, Closes}

-- the code of the Version key that a TxnWrite key names
pub record Names (b : List ℕ) (v : ℕ) (r : Code) : Type 0 where
  pub names : (u : List ℕ) → user_in b ≡ Some u → Codes r (encode (version u v))

-- ---- one write

-- the rows of a store
unfoldable pub rows_at : State → List Row
rows_at s = rows s.log s.table (record { used = record { len = s.used }; count = s.count })

-- the row of number i ended, where there is one
unfoldable pub end_where : State → ℕ → State
end_where s i = pick (ltb i (length (rows_at s))) (ended_span s i (i + 1)) s

-- the version of a user key deleted, and then the row of number i
abbrev pub undo_one : State → ℕ → ℕ → Option (List ℕ) → State
undo_one s i v None = s
undo_one s i v (Some u) = end_where (del_where s (encode (version u v))) i

-- the write that the key of row number i records, where there is one
unfoldable pub undo_row : State → ℕ → ℕ → State
undo_row s i v = pick (ltb i (length (rows_at s))) (undo_one s i v (user_in (get_or (rows_at s) i blank).key)) s

-- n rows, each of number i when the one before it is gone
unfoldable pub undo_many : ℕ → State → ℕ → ℕ → State
undo_many zero s i v = s
undo_many (suc n) s i v = undo_many n (undo_row s i v) i v

-- ---- the rows' writes undone and one key more deleted, all or none: 12, then 7

unfoldable pub undoing : ℕ → List Row → List ℕ → List Entry
undoing v rs key = undos_of v (pairs rs) ++ (del key ∷ [])

abbrev pub Undoes : List ℕ → List ℕ → Mark → List Row → ℕ → List ℕ → Result Used Refusal → List ℕ → List ℕ → Type 0
Undoes log t m rs v key r log' t' =
    Closes log t m (undoing v rs key) (0 ∷ 7 ∷ 12 ∷ []) (pick (all_users (pairs rs)) (append_answer log m.used.len (length t) (undoing v rs key)) (Err BadStore)) r log' t'
