-- What decoding finds, by the tests that the code makes. Assumes nothing.
use Prim.Native.Nat.{ℕ, zero, suc, ◌+◌, ◌≤◌, ◌<◌}
use mathlib.Core.Path.{◌≡◌, refl, sym, ap, ◌∙◌}
use mathlib.Core.Bool.{Bool, true, false}
use mathlib.Core.List.{List, [], ◌∷◌}
use native.Mathlib.Omega.{arith}
use lib.ListN.{length, take, drop, get_or, length-append, length-drop, length-take}
use lib.Dec.{leb}
use borrow.Author.Tests.{le-leb, lt-leb, leb-true}
use Rattle.std.specs.Prelude.{Result, ℕ, Ok, Err}
use Rattle.keycode.specs.declared.strings.Fault.{Fault}
use Rattle.keycode.specs.declared.strings.Reason.TheVariants.{TooFew, UnknownTag, LeftOver}
use Rattle.keycode.specs.declared.key.Key.{Key}
use Rattle.keycode.specs.Tests.{pick}
use Rattle.keycode.specs.Strings.{fault, scanned, escape_body}
use Rattle.keycode.specs.key.Keys.{exactly, string_at, on_ended, key_of, decode_why}
use Rattle.keycode.proofs.Basics.{nope}
use Rattle.keycode.proofs.StringLaws.{scan_found}

module _ (n l : ℕ) (k : Key) where
  pub exactly-few : l < n → Err (fault TooFew l) ≡ exactly n l k
  unfolding exactly
  exactly-few h = rw (lt-leb n l h)

  pub exactly-over : n < l → Err (fault LeftOver n) ≡ exactly n l k
  unfolding exactly
  exactly-over h = let g : n ≤ l = omega arith in rw (le-leb n l g, lt-leb l n h)

  pub exactly_read : n ≤ l → l ≤ n → Ok k ≡ exactly n l k
  unfolding exactly
  exactly_read h g = rw (le-leb n l h, le-leb l n g)

module _ (limit at : ℕ) (key : List ℕ) where
  pub string_few : length key < at → Err (fault TooFew (length key)) ≡ string_at limit at key
  unfolding string_at
  string_few h = rw (lt-leb at (length key) h)

  pub string_scan : at ≤ length key → (got : Result ℕ Fault) → got ≡ scanned limit at (drop at key) → got ≡ string_at limit at key
  unfolding string_at
  string_scan h got e = rw (le-leb at (length key) h) e

-- ---- by the tag

pub read_none : (limit : ℕ) (key : List ℕ) → length key ≡ 0 → Err (fault TooFew 0) ≡ decode_why limit key
unfolding decode_why
read_none limit [] h = refl
read_none limit (t ∷ r) h = absurd (omega arith)

module _ (limit : ℕ) (key : List ℕ) (t : ℕ) (some : length key ≡ 0 → ⊥) (tag : get_or key 0 0 ≡ t) where
  pub by_tag : key_of limit t key ≡ decode_why limit key
  by_tag = go key some tag
    where
      go : (b : List ℕ) → (length b ≡ 0 → ⊥) → get_or b 0 0 ≡ t → key_of limit t b ≡ decode_why limit b
      go [] n e = absurd (n refl)
      go (x ∷ r) n e = unfold decode_why in ap (λ (y : ℕ). key_of limit y (x ∷ r)) (sym e)

  -- the keys with a string, which starts at index `at`
  module _ (at : ℕ) (f : ℕ → Result Key Fault) (shape : key_of limit t key ≡ on_ended (string_at limit at key) f) (got : Result ℕ Fault) (says : got ≡ string_at limit at key) where
    pub read_ended : (i : ℕ) → got ≡ Ok i → f i ≡ decode_why limit key
    unfolding on_ended
    read_ended i e = sym (sym by_tag ∙ shape ∙ rw (← says, e))

    pub read_broken : (w : Fault) → got ≡ Err w → Err w ≡ decode_why limit key
    unfolding on_ended
    read_broken w e = sym (sym by_tag ∙ shape ∙ rw (← says, e))

pub other_tag : (limit t : ℕ) (b : List ℕ) → (t ≡ 0 → ⊥) → (t ≡ 1 → ⊥) → (t ≡ 2 → ⊥) → (t ≡ 3 → ⊥) → (t ≡ 4 → ⊥) → (t ≡ 5 → ⊥) → Err (fault UnknownTag 0) ≡ key_of limit t b
unfolding key_of
other_tag limit zero b n₀ n₁ n₂ n₃ n₄ n₅ = absurd (n₀ refl)
other_tag limit (suc zero) b n₀ n₁ n₂ n₃ n₄ n₅ = absurd (n₁ refl)
other_tag limit (suc (suc zero)) b n₀ n₁ n₂ n₃ n₄ n₅ = absurd (n₂ refl)
other_tag limit (suc (suc (suc zero))) b n₀ n₁ n₂ n₃ n₄ n₅ = absurd (n₃ refl)
other_tag limit (suc (suc (suc (suc zero)))) b n₀ n₁ n₂ n₃ n₄ n₅ = absurd (n₄ refl)
other_tag limit (suc (suc (suc (suc (suc zero))))) b n₀ n₁ n₂ n₃ n₄ n₅ = absurd (n₅ refl)
other_tag limit (suc (suc (suc (suc (suc (suc t)))))) b n₀ n₁ n₂ n₃ n₄ n₅ = refl

-- where a string's end lies
pub string_within : (limit at : ℕ) (key : List ℕ) (got : Result ℕ Fault) → got ≡ string_at limit at key → (i : ℕ) → got ≡ Ok i → (at ≤ i) × (i + 2 ≤ length key)
unfolding string_at
string_within limit at key got says i e = go (leb at (length key)) refl (sym says ∙ e)
  where
    go : (t : Bool) → leb at (length key) ≡ t → pick t (scanned limit at (drop at key)) (Err (fault TooFew (length key))) ≡ Ok i → (at ≤ i) × (i + 2 ≤ length key)
    go true h p =
        let q = scan_found limit at i (drop at key) p in
        let l : length (drop at key) ≡ length (escape_body q.string) + suc (suc (length q.rest)) = ap length q.here ∙ length-append (escape_body q.string) (0 ∷ 0 ∷ q.rest) in
        (omega (arith, q.ends), omega (arith, q.ends, length-drop at key, leb-true at (length key) h))
    go false h p = nope (cc)

-- at most eight bytes of a part
pub eight_few : (p b : List ℕ) (at : ℕ) → p ≡ take 8 (drop at b) → length p ≤ 8
eight_few p b at e = omega (arith, ap length e ∙ length-take 8 (drop at b))
