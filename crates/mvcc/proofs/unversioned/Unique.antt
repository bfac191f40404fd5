-- Two results that the promise of an unversioned call admits, where the table agrees with the log, are one. Assumes nothing.
use Prim.Native.Nat.{ℕ}
use mathlib.Core.Path.{◌≡◌, sym, ◌∙◌}
use mathlib.Core.List.{List}
use Rattle.std.specs.Prelude.{Result}
use Rattle.bitcask.specs.declared.request.Used.{Used}
use Rattle.keycode.specs.declared.refusal.Refusal.{Refusal}
use Rattle.keycode.specs.declared.parts.Part.{Part}
use Rattle.bitcask.specs.recovery.Agree.{Agrees}
use Rattle.mvcc.proofs.append.Unique.{leaves-log, leaves_table}
use Rattle.mvcc.specs.unversioned.Promises.{GetsUnversioned, SetsPlain}

pub unversioned_unique : {log : List ℕ} {used : ℕ} {t key : List ℕ} {r r' : Result Part Refusal} → Agrees log used t → GetsUnversioned log used t key r → GetsUnversioned log used t key r' → r ≡ r'
unversioned_unique g w w' = w.answer g ∙ sym (w'.answer g)

module _ {log : List ℕ} {used : ℕ} {t key value : List ℕ} {r r' : Result Used Refusal} {l l' x x' : List ℕ} (g : Agrees log used t) (w : SetsPlain log used t key value r l x)
    (w' : SetsPlain log used t key value r' l' x') where
  pub plain_answer_lem : r ≡ r'
  plain_answer_lem = w.answer g ∙ sym (w'.answer g)

  pub plain_log : l ≡ l'
  plain_log = leaves-log plain_answer_lem w.leaves w'.leaves

  pub plain_table : x ≡ x'
  plain_table = leaves_table plain_answer_lem w.leaves w'.leaves g
