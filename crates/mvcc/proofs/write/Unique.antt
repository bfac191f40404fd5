-- Two results that the promise of a write admits, where the table agrees with the log, are one. Assumes nothing.
use Prim.Native.Nat.{ℕ}
use mathlib.Core.Path.{◌≡◌, sym, ◌∙◌}
use mathlib.Core.List.{List}
use Rattle.std.specs.Prelude.{Result}
use Rattle.bitcask.specs.declared.request.Used.{Used}
use Rattle.keycode.specs.declared.refusal.Refusal.{Refusal}
use Rattle.bitcask.specs.recovery.Agree.{Agrees}
use Rattle.mvcc.specs.declared.handle.Handle.{Handle}
use Rattle.mvcc.proofs.append.Unique.{leaves-log, leaves_table}
use Rattle.mvcc.specs.write.Promises.{Writes}

module _ {log : List ℕ} {used : ℕ} {t : List ℕ} {h : Handle} {key payload : List ℕ} {size : ℕ} {r r' : Result Used Refusal} {l l' x x' : List ℕ} (g : Agrees log used t)
    (w : Writes log used t h key payload size r l x) (w' : Writes log used t h key payload size r' l' x') where
  pub writes-answer : r ≡ r'
  writes-answer = w.answer g ∙ sym (w'.answer g)

  pub writes-log : l ≡ l'
  writes-log = leaves-log writes-answer w.leaves w'.leaves

  pub writes-table : x ≡ x'
  writes-table = leaves_table writes-answer w.leaves w'.leaves g
