-- Two results that the promise of entries appended all or none admits, where the table agrees with the log, are one. Assumes nothing.
use Prim.Native.Nat.{ℕ, zero, suc, ◌+◌}
use mathlib.Core.Path.{◌≡◌, refl, sym, ap, ◌∙◌, subst}
use mathlib.Core.List.{List}
use Rattle.std.specs.Prelude.{Result}
use Rattle.bitcask.specs.declared.request.Used.{Used}
use Rattle.keycode.specs.declared.refusal.Refusal.{Refusal}
use Rattle.keycode.specs.Tests.{if_done}
use Rattle.keycode.specs.Buffer.{put}
use Rattle.bitcask.specs.entry.Entry.{Entry}
use Rattle.bitcask.specs.recovery.Agree.{Agrees}
use Rattle.bitcask.specs.recovery.Promises.{changed_number}
use Rattle.bitcask.proofs.recovery.AgreeLaws.{agrees_unique}
use Rattle.bitcask.specs.change.Append.{size_all, bytes_all}
use Rattle.mvcc.specs.append.Lays.{Leaves}

module _ {log : List ℕ} {used : ℕ} {t : List ℕ} {es : List Entry} {r r' : Result Used Refusal} {l l' x x' : List ℕ} (same : r ≡ r') (w : Leaves log used t es r l x) (w' : Leaves log used t es r' l' x') where
  pub leaves-log : l ≡ l'
  leaves-log = w.bytes ∙ ap (λ (y : Result Used Refusal). if_done (changed_number y) (put log used (bytes_all es)) log) same ∙ sym w'.bytes

  pub leaves_table : Agrees log used t → x ≡ x'
  leaves_table g = go (changed_number r) refl
    where
      back : changed_number r' ≡ changed_number r
      back = ap changed_number (sym same)

      stays : {n m : ℕ} {a b : List ℕ} → a ≡ if_done n a b → n ≡ suc m → a ≡ b
      stays p q = p ∙ rw q

      go : (n : ℕ) → changed_number r ≡ n → x ≡ x'
      go zero q = agrees_unique (subst (λ (y : List ℕ). Agrees y (used + size_all es) x) leaves-log (w.again g q)) (w'.again g (back ∙ q)) (w.long ∙ sym w'.long)
      go (suc n) q = stays w.words q ∙ sym (stays w'.words (back ∙ q))
