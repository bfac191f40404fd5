-- What std calls UTF-8, the bytes of a list of scalar values, is what the Unicode Standard's table says. Assumes nothing.
use Prim.Native.Nat.{ℕ, ◌+◌, ◌-◌, ◌*◌, ◌/◌, ◌≤◌, ◌<◌}
use mathlib.Core.Path.{◌≡◌, refl, sym, subst, ◌∙◌}
use mathlib.Core.Bool.{Bool, true, false, ◌&&◌}
use mathlib.Core.Logic.{◌⊎◌, inl, inr, ⊎_elim}
use mathlib.Core.List.{List, [], ◌∷◌}
use native.Mathlib.Decide.{dec_le}
use native.Mathlib.Omega.{arith}
use borrow.Author.Tests.{le-leb, lt-ltb, le-ltb}
use lib.Utf8.{scalar, scalars, next as follower, encode, encodes, scalar_cases, low_scalar}
use Rattle.std.specs.Prelude.{Result, Ok, Err, MatchResult, is_ok}
use Rattle.std.specs.Str.{IsUtf8}
use Rattle.std.proofs.lemmas.Str.{IsUtf8-append, IsUtf8-nil, IsUtf8-encode}
use Rattle.codecs.specs.Utf8.{Span, span, tail, table, Sequence, none, next, Among, here, there, WellFormed, empty, more, well_formed}
use Rattle.keycode.proofs.Basics.{nope}
use Rattle.codecs.proofs.Utf8Laws.{formed, formed_only}

-- ---- the bytes of a scalar value, by its range

module _ (c : ℕ) where
  one : c < 128 → encode c ≡ c ∷ []
  unfolding encode
  one h = rw (lt-ltb c 128 h)

  two : 128 ≤ c → c < 2048 → encode c ≡ (192 + c / 64) ∷ follower c ∷ []
  unfolding encode
  two l h = rw (le-ltb c 128 l, lt-ltb c 2048 h)

  three : 2048 ≤ c → c < 65536 → encode c ≡ (224 + c / 4096) ∷ follower (c / 64) ∷ follower c ∷ []
  unfolding encode
  three l h = rw (le-ltb c 128 (omega arith), le-ltb c 2048 l, lt-ltb c 65536 h)

  four : 65536 ≤ c → encode c ≡ (240 + c / 262144) ∷ follower (c / 4096) ∷ follower (c / 64) ∷ follower c ∷ []
  unfolding encode
  four l = rw (le-ltb c 128 (omega arith), le-ltb c 2048 (omega arith), le-ltb c 65536 l)

  high_scalar : 57344 ≤ c → c < 1114112 → scalar c ≡ true
  high_scalar l h = rw (le-ltb c 55296 (omega arith), le-leb 57344 c l, lt-ltb c 1114112 h)

one_char : (s : List ℕ) (c : ℕ) → scalar c ≡ true → s ≡ encode c → IsUtf8 s
one_char s c h e = subst IsUtf8 (sym e) (IsUtf8-encode c h)

order : (m n : ℕ) → (m < n) ⊎ (n ≤ m)
order m n = go (dec_le n m)
  where
    go : Dec (n ≤ m) → (m < n) ⊎ (n ≤ m)
    go (yes h) = inr h
    go (no k) = inl (omega (arith, k))

-- ---- a sequence of the table is one scalar value

one_is : (x : ℕ) → x ≤ 127 → IsUtf8 (x ∷ [])
one_is x h = one_char _ x (low_scalar x (omega arith)) (sym (one x (omega arith)))

two_is : (x y : ℕ) → 194 ≤ x → x ≤ 223 → 128 ≤ y → y ≤ 191 → IsUtf8 (x ∷ y ∷ [])
two_is x y a b c d =
    let v = (x - 192) * 64 + (y - 128) in
    let p : x ≡ 192 + v / 64 = omega arith in
    let q : y ≡ follower v = omega arith in
    one_char _ v (low_scalar v (omega arith)) ((λ k. p k ∷ q k ∷ []) ∙ sym (two v (omega arith) (omega arith)))

three_is : (x y z : ℕ) → 224 ≤ x → x ≤ 239 → 128 ≤ y → y ≤ 191 → 128 ≤ z → z ≤ 191
    → let v = (x - 224) * 4096 + (y - 128) * 64 + (z - 128) in 2048 ≤ v → (v < 55296) ⊎ (57344 ≤ v) → IsUtf8 (x ∷ y ∷ z ∷ [])
three_is x y z a b c d e f lo s =
    let v = (x - 224) * 4096 + (y - 128) * 64 + (z - 128) in
    let p : x ≡ 224 + v / 4096 = omega arith in
    let q : y ≡ follower (v / 64) = omega arith in
    let r : z ≡ follower v = omega arith in
    one_char _ v (⊎_elim (λ h. low_scalar v h) (λ h. high_scalar v h (omega arith)) s) ((λ k. p k ∷ q k ∷ r k ∷ []) ∙ sym (three v lo (omega arith)))

four_is : (x y z w : ℕ) → 240 ≤ x → x ≤ 244 → 128 ≤ y → y ≤ 191 → 128 ≤ z → z ≤ 191 → 128 ≤ w → w ≤ 191
    → let high = (x - 240) * 64 + (y - 128) in 16 ≤ high → high < 272 → IsUtf8 (x ∷ y ∷ z ∷ w ∷ [])
four_is x y z w a b c d e f g h lo hi =
    let v = (x - 240) * 262144 + (y - 128) * 4096 + (z - 128) * 64 + (w - 128) in
    let p : x ≡ 240 + v / 262144 = omega arith in
    let q : y ≡ follower (v / 4096) = omega arith in
    let m : v / 64 ≡ (x - 240) * 4096 + (y - 128) * 64 + (z - 128) = omega arith in
    let r : z ≡ follower (v / 64) = subst (λ (n : ℕ). z ≡ follower n) (sym m) (omega arith) in
    let t : w ≡ follower v = omega arith in
    one_char _ v (high_scalar v (omega arith) (omega arith)) ((λ k. p k ∷ q k ∷ r k ∷ t k ∷ []) ∙ sym (four v (omega arith)))

row_is : {row : List Span} {s : List ℕ} → Among row table → Sequence row s → IsUtf8 s
row_is here (next {x = x} a b none) = one_is x b
row_is (there here) (next {x = x} a b (next {x = y} c d none)) = two_is x y a b c d
row_is (there (there here)) (next {x = x} a b (next {x = y} c d (next {x = z} e f none))) = three_is x y z a (omega arith) (omega arith) d e f (omega arith) (inl (omega arith))
row_is (there (there (there here))) (next {x = x} a b (next {x = y} c d (next {x = z} e f none))) = three_is x y z (omega arith) (omega arith) c d e f (omega arith) (inl (omega arith))
row_is (there (there (there (there here)))) (next {x = x} a b (next {x = y} c d (next {x = z} e f none))) = three_is x y z (omega arith) (omega arith) c (omega arith) e f (omega arith) (inl (omega arith))
row_is (there (there (there (there (there here))))) (next {x = x} a b (next {x = y} c d (next {x = z} e f none))) = three_is x y z (omega arith) b c d e f (omega arith) (inr (omega arith))
row_is (there (there (there (there (there (there here)))))) (next {x = x} a b (next {x = y} c d (next {x = z} e f (next {x = w} g h none)))) =
    four_is x y z w a (omega arith) (omega arith) d e f g h (omega arith) (omega arith)
row_is (there (there (there (there (there (there (there here))))))) (next {x = x} a b (next {x = y} c d (next {x = z} e f (next {x = w} g h none)))) =
    four_is x y z w (omega arith) (omega arith) c d e f g h (omega arith) (omega arith)
row_is (there (there (there (there (there (there (there (there here)))))))) (next {x = x} a b (next {x = y} c d (next {x = z} e f (next {x = w} g h none)))) =
    four_is x y z w (omega arith) b c (omega arith) e f g h (omega arith) (omega arith)
row_is (there (there (there (there (there (there (there (there (there x))))))))) q = elim x [ ]

formed_is : {s : List ℕ} → WellFormed s → IsUtf8 s
formed_is empty = IsUtf8-nil
formed_is (more {c = c} {s = s} a q w) = IsUtf8-append c s (row_is a q) (formed_is w)

-- ---- and nothing else

-- the row that a scalar value's bytes are of
pub record Row (s : List ℕ) : Type 0 where
  pub row : List Span
  pub among : Among row table
  pub bytes : Sequence row s

by : {s t : List ℕ} → t ≡ s → (row : List Span) → Among row table → Sequence row s → Row t
by e row a q = record { row = row; among = a; bytes = subst (λ (u : List ℕ). Sequence row u) (sym e) q }

module _ (c : ℕ) where
  char_two : 128 ≤ c → c < 2048 → Row (encode c)
  char_two l h = by (two c l h) (span 194 223 ∷ tail ∷ []) (there here) (next (omega arith) (omega arith) (next (omega arith) (omega arith) none))

  module _ (l : 2048 ≤ c) (h : c < 65536) where
    char_e0 : c < 4096 → Row (encode c)
    char_e0 g = by (three c l h) (span 224 224 ∷ span 160 191 ∷ tail ∷ []) (there (there here))
        (next (omega arith) (omega arith) (next (omega arith) (omega arith) (next (omega arith) (omega arith) none)))

    char_low : 4096 ≤ c → c < 53248 → Row (encode c)
    char_low g k = by (three c l h) (span 225 236 ∷ tail ∷ tail ∷ []) (there (there (there here)))
        (next (omega arith) (omega arith) (next (omega arith) (omega arith) (next (omega arith) (omega arith) none)))

    char_ed : 53248 ≤ c → c < 55296 → Row (encode c)
    char_ed g k = by (three c l h) (span 237 237 ∷ span 128 159 ∷ tail ∷ []) (there (there (there (there here))))
        (next (omega arith) (omega arith) (next (omega arith) (omega arith) (next (omega arith) (omega arith) none)))

    char_high : 57344 ≤ c → Row (encode c)
    char_high g = by (three c l h) (span 238 239 ∷ tail ∷ tail ∷ []) (there (there (there (there (there here)))))
        (next (omega arith) (omega arith) (next (omega arith) (omega arith) (next (omega arith) (omega arith) none)))

  module _ (l : 65536 ≤ c) (h : c < 1114112) where
    char_f0 : c < 262144 → Row (encode c)
    char_f0 g = by (four c l) (span 240 240 ∷ span 144 191 ∷ tail ∷ tail ∷ []) (there (there (there (there (there (there here))))))
        (next (omega arith) (omega arith) (next (omega arith) (omega arith) (next (omega arith) (omega arith) (next (omega arith) (omega arith) none))))

    char_four : 262144 ≤ c → c < 1048576 → Row (encode c)
    char_four g k = by (four c l) (span 241 243 ∷ tail ∷ tail ∷ tail ∷ []) (there (there (there (there (there (there (there here)))))))
        (next (omega arith) (omega arith) (next (omega arith) (omega arith) (next (omega arith) (omega arith) (next (omega arith) (omega arith) none))))

    char_f4 : 1048576 ≤ c → Row (encode c)
    char_f4 g = by (four c l) (span 244 244 ∷ span 128 143 ∷ tail ∷ tail ∷ []) (there (there (there (there (there (there (there (there here))))))))
        (next (omega arith) (omega arith) (next (omega arith) (omega arith) (next (omega arith) (omega arith) (next (omega arith) (omega arith) none))))

  char_row : (c < 55296) ⊎ ((57344 ≤ c) × (c < 1114112)) → Row (encode c)
  char_row s = go (order c 128) (order c 2048) (order c 4096) (order c 53248) (order c 65536) (order c 262144) (order c 1048576) s
    where
      go : (c < 128) ⊎ (128 ≤ c) → (c < 2048) ⊎ (2048 ≤ c) → (c < 4096) ⊎ (4096 ≤ c) → (c < 53248) ⊎ (53248 ≤ c) → (c < 65536) ⊎ (65536 ≤ c)
          → (c < 262144) ⊎ (262144 ≤ c) → (c < 1048576) ⊎ (1048576 ≤ c) → (c < 55296) ⊎ ((57344 ≤ c) × (c < 1114112)) → Row (encode c)
      go (inl a) _ _ _ _ _ _ _ = by (one c a) (span 0 127 ∷ []) here (next (omega arith) (omega arith) none)
      go (inr a) (inl b) _ _ _ _ _ _ = char_two a b
      go _ (inr b) (inl d) _ _ _ _ _ = char_e0 b (omega arith) d
      go _ (inr b) (inr d) (inl e) _ _ _ _ = char_low b (omega arith) d e
      go _ (inr b) (inr d) (inr e) _ _ _ (inl z) = char_ed b (omega arith) e z
      go _ (inr b) (inr d) (inr e) (inl f) _ _ (inr z) = char_high b f z.0
      go _ (inr b) (inr d) (inr e) (inr f) (inl g) _ (inr z) = char_f0 f z.1 g
      go _ (inr b) (inr d) (inr e) (inr f) (inr g) (inl k) (inr z) = char_four f z.1 g k
      go _ (inr b) (inr d) (inr e) (inr f) (inr g) (inr k) (inr z) = char_f4 f z.1 k

chars_formed : (cs : List ℕ) → scalars cs ≡ true → WellFormed (encodes cs)
chars_formed [] e = empty
chars_formed (c ∷ cs) e =
    let h = both (scalar c) (scalars cs) e in
    let r = char_row c (scalar_cases c h.0) in
    more r.among r.bytes (chars_formed cs h.1)
  where
    both : (x y : Bool) → x && y ≡ true → (x ≡ true) × (y ≡ true)
    both true y e = (refl, e)
    both false y e = nope (cc)

is_formed : (s : List ℕ) → IsUtf8 s → WellFormed s
is_formed s u = subst WellFormed u.1.1 (chars_formed u.0 u.1.0)

-- so std's test is the table's
pub checked : {A B : Type 0} (s : List ℕ) (r : Result A B) (P : A → Type 0) (Q : B → Type 0) → MatchResult r (λ a. P a × IsUtf8 s) (λ b. ¬ (IsUtf8 s) × Q b) → is_ok r ≡ well_formed s
checked s (Ok a) P Q h = sym (formed (is_formed s h.1))
checked s (Err b) P Q h = go (well_formed s) refl
  where
    go : (t : Bool) → well_formed s ≡ t → false ≡ well_formed s
    go false e = sym e
    go true e = absurd (h.0 (formed_is (formed_only s e)))
