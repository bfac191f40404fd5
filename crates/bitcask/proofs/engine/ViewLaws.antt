-- What entering gives: a view of the log and the table, whose rows are theirs. Assumes nothing.
use Prim.Native.Nat.{ℕ}
use mathlib.Core.Path.{◌≡◌, refl}
use mathlib.Core.Bool.{Bool, false, not}
use mathlib.Core.List.{List}
use lib.ListN.{length}
use Rattle.std.specs.Prelude.{Result, Ok, Err}
use Rattle.keycode.specs.declared.refusal.Refusal.{Refusal}
use Rattle.keycode.proofs.Basics.{nope}
use Rattle.bitcask.specs.declared.request.Used.{Used}
use Rattle.bitcask.specs.recovery.Agree.{fit}
use Rattle.bitcask.specs.keydir.Place.{count_of}
use Rattle.bitcask.specs.declared.engine.mark.Mark.{Mark}
use Rattle.bitcask.specs.declared.engine.view.View.{View}
use Rattle.bitcask.specs.engine.Rows.{rows}
use Rattle.bitcask.specs.engine.Marks.{Held}
use Rattle.bitcask.specs.engine.Views.{shown, Views, Viewed}
use Rattle.bitcask.proofs.engine.SpotLaws.{enter_in, in_held}

-- the rows of a view are those of what it is a view of
pub rows_shown : {log t : List ℕ} {m : Mark} {v : View} → Views log t m v → shown v ≡ rows log t m
rows_shown w = λ j. rows (w.log_is j) (w.table_is j) (w.mark_is j)

ok_is : {v w : View} → ◌≡◌ {A = Result View Refusal} (Ok v) (Ok w) → v ≡ w
ok_is e = cc

module _ (log : List ℕ) (used : Used) (t : List ℕ) (b : Bool) (says : b ≡ fit (length log) used.len (length t)) (e : not b ≡ false) (n : ℕ) (en : n ≡ count_of t) where
  pub mark_held : Held log t (record { used = used; count = n })
  mark_held = in_held log used t _ (enter_in log used t b says e n en) _ refl

module _ {log t : List ℕ} where
  pub viewed_none : (r : Refusal) → Viewed log t (Err r)
  viewed_none r v q = nope (cc)

  pub viewed_of : {m : Mark} {v : View} → Views log t m v → Viewed log t (Ok v)
  viewed_of w x q = rw (← ok_is q) (record { log_is = w.log_is; table_is = w.table_is; mark_is = refl })

  -- the rows of a view that an answer gave
  pub rows_given : {r : Result View Refusal} → Viewed log t r → {v : View} → r ≡ Ok v → shown v ≡ rows log t v.mark
  rows_given says {v} e = rows_shown (says v e)

-- what was lent to a store comes back as the store left it
pub lent_back : (P : List ℕ → List ℕ → Type 0) {log t log' t' : List ℕ} → P log t → log' ≡ log → t' ≡ t → P log' t'
lent_back P {log} {t} p e f = rw (e, f) p
