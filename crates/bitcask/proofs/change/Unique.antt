-- Two results that the promise of set or delete admits, where the table agrees with the log, are one. Assumes nothing.
use Prim.Native.Nat.{ℕ, zero, suc, ◌+◌}
use mathlib.Core.Path.{◌≡◌, refl, sym, ap, ◌∙◌, subst}
use mathlib.Core.List.{List}
use Rattle.std.specs.Prelude.{Result}
use Rattle.bitcask.specs.declared.request.Used.{Used}
use Rattle.keycode.specs.declared.refusal.Refusal.{Refusal}
use Rattle.keycode.specs.Tests.{if_done}
use Rattle.keycode.specs.Buffer.{put}
use Rattle.bitcask.specs.entry.Entry.{Entry, bytes_of, size_of}
use Rattle.bitcask.specs.recovery.Agree.{Agrees}
use Rattle.bitcask.specs.recovery.Promises.{changed_number}
use Rattle.bitcask.proofs.recovery.AgreeLaws.{agrees_unique}
use Rattle.bitcask.specs.change.Promises.{Changes}

module _ {log : List ℕ} {used : ℕ} {t : List ℕ} {e : Entry} {r r' : Result Used Refusal} {l l' x x' : List ℕ} (g : Agrees log used t) (w : Changes log used t e r l x) (w' : Changes log used t e r' l' x') where
  pub changes_answer : r ≡ r'
  changes_answer = w.answer g ∙ sym (w'.answer g)

  pub changes_log : l ≡ l'
  changes_log = w.bytes ∙ ap (λ (y : Result Used Refusal). if_done (changed_number y) (put log used (bytes_of e)) log) changes_answer ∙ sym w'.bytes

  pub changes_table : x ≡ x'
  changes_table = go (changed_number r) refl
    where
      same : changed_number r' ≡ changed_number r
      same = ap changed_number (sym changes_answer)

      go : (n : ℕ) → changed_number r ≡ n → x ≡ x'
      go zero q = agrees_unique (subst (λ (y : List ℕ). Agrees y (used + size_of e) x) changes_log (w.again g q)) (w'.again g (same ∙ q)) (w.long ∙ sym w'.long)
      go (suc n) q = stays w.words q ∙ sym (stays w'.words (same ∙ q))
        where
          stays : {n m : ℕ} {a b : List ℕ} → a ≡ if_done n a b → n ≡ suc m → a ≡ b
          stays p h = p ∙ rw h
