-- Two results that the promise admits, where the table agrees with the log, are one. Assumes nothing.
use Prim.Native.Nat.{ℕ, zero, suc, ◌+◌}
use mathlib.Core.Path.{◌≡◌, refl, sym, ap, ◌∙◌, subst}
use mathlib.Core.List.{List}
use Rattle.keycode.specs.Tests.{if_done}
use Rattle.keycode.specs.Buffer.{put}
use Rattle.bitcask.specs.recovery.Agree.{Agrees}
use Rattle.bitcask.proofs.recovery.AgreeLaws.{agrees_unique}
use Rattle.bitcask.specs.change.Append.{size_all, bytes_all}
use Rattle.mvcc.specs.declared.begun.Begun.{Begun}
use Rattle.mvcc.specs.request.Given.{begun_number}
use Rattle.mvcc.specs.start.Plan.{plan_of}
use Rattle.mvcc.specs.start.Promises.{Begins}

module _ {log : List ℕ} {used : ℕ} {t : List ℕ} {r r' : Begun} {l l' x x' : List ℕ} (g : Agrees log used t) (w : Begins log used t r l x) (w' : Begins log used t r' l' x') where
  pub begins-answer : r ≡ r'
  begins-answer = w.answer g ∙ sym (w'.answer g)

  pub begins-log : l ≡ l'
  begins-log = w.bytes ∙ ap (λ (y : Begun). if_done (begun_number y) (put log used (bytes_all (plan_of y.handle))) log) begins-answer ∙ sym w'.bytes

  pub begins-table : x ≡ x'
  begins-table = go (begun_number r) refl
    where
      same : begun_number r' ≡ begun_number r
      same = ap begun_number (sym begins-answer)

      stays : {n m : ℕ} {a b : List ℕ} → a ≡ if_done n a b → n ≡ suc m → a ≡ b
      stays p h = p ∙ rw h

      ends : used + size_all (plan_of r.handle) ≡ used + size_all (plan_of r'.handle)
      ends = ap (λ (y : Begun). used + size_all (plan_of y.handle)) begins-answer

      go : (n : ℕ) → begun_number r ≡ n → x ≡ x'
      go zero q =
          agrees_unique (subst (λ (u : ℕ). Agrees l' u x) ends (subst (λ (y : List ℕ). Agrees y (used + size_all (plan_of r.handle)) x) begins-log (w.again g q)))
          (w'.again g (same ∙ q)) (w.long ∙ sym w'.long)
      go (suc n) q = stays w.words q ∙ sym (stays w'.words (same ∙ q))
