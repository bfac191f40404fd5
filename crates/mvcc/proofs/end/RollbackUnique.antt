-- Two results that the promise of rollback admits, where the table agrees with the log, are one. Assumes nothing.
use Prim.Native.Nat.{ℕ}
use mathlib.Core.Path.{◌≡◌, sym, ◌∙◌}
use mathlib.Core.List.{List}
use Rattle.std.specs.Prelude.{Result}
use Rattle.bitcask.specs.declared.request.Used.{Used}
use Rattle.keycode.specs.declared.refusal.Refusal.{Refusal}
use Rattle.bitcask.specs.recovery.Agree.{Agrees}
use Rattle.mvcc.specs.declared.handle.Handle.{Handle}
use Rattle.mvcc.specs.end.Promises.{RollsBack}
use Rattle.mvcc.proofs.end.EndLaws.{leaves-log, leaves_table}

pub rollback_unique : {log : List ℕ} {used : ℕ} {t : List ℕ} {h : Handle} {r r' : Result Used Refusal} {l l' x x' : List ℕ} → Agrees log used t → RollsBack log used t h r l x → RollsBack log used t h r' l' x'
    → (r ≡ r') × (l ≡ l') × (x ≡ x')
rollback_unique g w w' = let e = w.answer g ∙ sym (w'.answer g) in (e, leaves-log e w.leaves w'.leaves g, leaves_table e w.leaves w'.leaves g)
