-- Fields whose bytes sort as they do, whatever follows them: numbers, strings, and two such fields one behind the other.
-- Assumes nothing.
use Prim.Native.Nat.{ℕ, zero, suc, ◌^◌, ◌<◌}
use mathlib.Core.Path.{◌≡◌, refl, sym, ◌∙◌}
use mathlib.Core.List.{List, [], ◌∷◌, ◌++◌, append_assoc, append-nil}
use native.Mathlib.Omega.{arith}
use Rattle.std.specs.declared.cmp.Ordering.{Ordering}
use Rattle.keycode.specs.Number.{be}
use Rattle.keycode.specs.Order.{compare_nat, compare_bytes, and_then}
use Rattle.keycode.specs.Strings.{escape_byte, escape_body, escape}
use Rattle.keycode.proofs.OrderLaws.{nat_less, nat_greater, and_then_assoc, and_then_equal}
use Rattle.keycode.proofs.NumberLaws.{compare_be}

-- bytes of a field that sort as the field does, whatever follows them
pub record Sorts {A : Type 0} (Good : A → Type 0) (enc : A → List ℕ) (cmp : A → A → Ordering) : Type 0 where
  pub sorted : (a b : A) → Good a → Good b → (s t : List ℕ) → compare_bytes (enc a ++ s) (enc b ++ t) ≡ and_then (cmp a b) (compare_bytes s t)

pub number_sorts : (k : ℕ) → Sorts (λ v. v < 256 ^ k) (be k) compare_nat
number_sorts k = record { sorted = λ v w h g s t. compare_be k v w s t h g }

compare_escape : (a b s t : List ℕ) → compare_bytes (escape a ++ s) (escape b ++ t) ≡ and_then (compare_bytes a b) (compare_bytes s t)
unfolding escape escape_body escape_byte compare_bytes compare_nat
compare_escape [] [] s t = refl
compare_escape [] (zero ∷ b) s t = refl
compare_escape [] (suc y ∷ b) s t = rw (nat_less 0 (suc y) (omega arith))
compare_escape (zero ∷ a) [] s t = refl
compare_escape (suc x ∷ a) [] s t = rw (nat_greater (suc x) 0 (omega arith))
compare_escape (zero ∷ a) (zero ∷ b) s t = compare_escape a b s t
compare_escape (zero ∷ a) (suc y ∷ b) s t = rw (nat_less 0 (suc y) (omega arith))
compare_escape (suc x ∷ a) (zero ∷ b) s t = rw (nat_greater (suc x) 0 (omega arith))
compare_escape (suc x ∷ a) (suc y ∷ b) s t = rw (compare_escape a b s t) (sym (and_then_assoc (compare_nat (suc x) (suc y)) (compare_bytes a b) (compare_bytes s t)))

pub string_sorts : Sorts (λ (s : List ℕ). Unit {0}) escape compare_bytes
string_sorts = record { sorted = λ a b h g s t. compare_escape a b s t }

-- two fields, one behind the other
pub both_sort : {A B : Type 0} {P : A → Type 0} {Q : B → Type 0} {f : A → List ℕ} {g : B → List ℕ} {p : A → A → Ordering} {q : B → B → Ordering}
    → Sorts P f p → Sorts Q g q → Sorts (λ (x : A × B). P x.0 × Q x.1) (λ x. f x.0 ++ g x.1) (λ x y. and_then (p x.0 y.0) (q x.1 y.1))
both_sort {f = f} {g = g} {p = p} {q = q} sp sq =
    record {
      sorted = λ x y h k s t.
          rw (append_assoc (f x.0) (g x.1) s, append_assoc (f y.0) (g y.1) t)
          (sp.sorted x.0 y.0 h.0 k.0 (g x.1 ++ s) (g y.1 ++ t)
          ∙ rw (sq.sorted x.1 y.1 h.1 k.1 s t) (sym (and_then_assoc (p x.0 y.0) (q x.1 y.1) (compare_bytes s t))));
    }

-- with nothing behind them
pub alone : {A : Type 0} {P : A → Type 0} {f : A → List ℕ} {p : A → A → Ordering} → Sorts P f p → (a b : A) → P a → P b → compare_bytes (f a) (f b) ≡ p a b
unfolding compare_bytes
alone {f = f} {p = p} sp a b h k = rw (append-nil (f a), append-nil (f b)) at (sp.sorted a b h k [] []) ∙ and_then_equal (p a b)
