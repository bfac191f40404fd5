-- Two results that the promise of `status` or of `compact` admits are one, where the table agrees with its log. Assumes nothing.
use Prim.Native.Nat.{ℕ}
use mathlib.Core.Path.{◌≡◌, refl, sym, ◌∙◌, subst}
use mathlib.Core.List.{List}
use Rattle.std.specs.Prelude.{Result, Ok, Err}
use Rattle.bitcask.specs.declared.request.Used.{Used}
use Rattle.keycode.specs.declared.refusal.Refusal.{Refusal}
use Rattle.bitcask.specs.declared.report.Counts.{Counts}
use Rattle.keycode.proofs.BufferLaws.{refused_stays}
use Rattle.bitcask.specs.recovery.Recover.{map_of}
use Rattle.bitcask.specs.recovery.Agree.{Agrees}
use Rattle.bitcask.proofs.recovery.AgreeLaws.{agrees_unique}
use Rattle.bitcask.specs.change.Append.{size_all}
use Rattle.bitcask.specs.compaction.Compaction.{entries_of}
use Rattle.bitcask.specs.compaction.Promises.{Compacts, Counting}

module _ (log : List ℕ) (used : ℕ) (t : List ℕ) (a : Agrees log used t) where
  pub counting_unique : {r r' : Result Counts Refusal} → Counting log used t r → Counting log used t r' → r ≡ r'
  counting_unique p q = p.answer a ∙ sym (q.answer a)

  module _ (g : List ℕ) {t₁ t₂ g₁ g₂ : List ℕ} where
    lent_unique : (r : Result Used Refusal) → Compacts log used t g r t₁ g₁ → Compacts log used t g r t₂ g₂ → (t₁ ≡ t₂) × (g₁ ≡ g₂)
    lent_unique (Ok u) p q =
        let e : g₁ ≡ g₂ = p.target a refl ∙ sym (q.target a refl) in
        (agrees_unique (subst (λ (x : List ℕ). Agrees x (size_all (entries_of (map_of log used))) t₁) e (p.again a refl)) (q.again a refl) (p.long.0 ∙ sym q.long.0), e)
    lent_unique (Err z) p q =
        (p.words ∙ sym (refused_stays z t₁ t) ∙ refused_stays z t₂ t ∙ sym q.words, p.bytes ∙ sym (refused_stays z g₁ g) ∙ refused_stays z g₂ g ∙ sym q.bytes)

    pub compacts_unique : {r₁ r₂ : Result Used Refusal} → Compacts log used t g r₁ t₁ g₁ → Compacts log used t g r₂ t₂ g₂ → (r₁ ≡ r₂) × (t₁ ≡ t₂) × (g₁ ≡ g₂)
    compacts_unique {r₁} {r₂} p q =
        let e : r₂ ≡ r₁ = q.answer a ∙ sym (p.answer a) in
        let w = lent_unique r₁ p (subst (λ (r : Result Used Refusal). Compacts log used t g r t₂ g₂) e q) in
        (sym e, w.0, w.1)
