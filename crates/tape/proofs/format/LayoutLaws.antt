-- Laws of a record's 128 bytes: their number, the zeros among them, and how a writer lays them piece by piece. Assumes nothing.
use Prim.Native.Nat.{ℕ, ◌+◌, ◌-◌, ◌≤◌}
use mathlib.Core.Path.{◌≡◌, refl, sym, ap, ◌∙◌}
use mathlib.Core.List.{List, [], ◌∷◌, ◌++◌, append_assoc, append-nil}
use native.Mathlib.Omega.{arith}
use lib.ListN.{length, take, drop, length-append, length-drop, length-replicate}
use lib.Seq.{take_at, drop_at, drop-drop, length-take-le}
use borrow.Rule.Slice.PartMut.{put_mid}
use Rattle.keycode.specs.Number.{be}
use Rattle.keycode.specs.Buffer.{put}
use Rattle.keycode.proofs.NumberLaws.{length-be}
use Rattle.keycode.proofs.BufferLaws.{length-put, lay_start, lay-more, lay_end}
use Rattle.tape.specs.format.Layout.{record_len, key_at, value_at, key_room, value_room, zeros, padded, laid, plainly}

pub padded-long : (room : ℕ) (xs : List ℕ) → length xs ≤ room → length (padded room xs) ≡ room
unfolding padded
padded-long room xs h = simp (length-append, length-replicate) (omega arith)

module _ (a b w : ℕ) (key value : List ℕ) (k : length key ≤ key_room) (v : length value ≤ value_room) where
  pub laid-long : length (laid a b w key value) ≡ record_len
  unfolding laid
  laid-long = simp (length-append, length-be, padded-long key_room key k, padded-long value_room value v)

pub plainly-long : (number command : ℕ) → length (plainly number command) ≡ record_len
unfolding plainly
plainly-long number command = laid-long number command 0 [] [] (omega arith) (omega arith)

-- ---- the bytes past the lengths

module _ (a b w : ℕ) (key value : List ℕ) (k : length key ≤ key_room) where
  pub behind-key : take (value_at - (key_at + length key)) (drop (key_at + length key) (laid a b w key value)) ≡ zeros (key_room - length key)
  unfolding laid padded
  behind-key =
      let four : List ℕ = a ∷ b ∷ length key ∷ length value ∷ [] in
      let p = four ++ (be 8 w ++ key) in
      let z = zeros (key_room - length key) in
      let v = value ++ zeros (value_room - length value) in
      let e : four ++ (be 8 w ++ ((key ++ z) ++ v)) ≡ p ++ (z ++ v) = simp append_assoc in
      let l : length p ≡ key_at + length key = simp (length-append, length-be) (omega arith) in
      let n : length z ≡ value_at - (key_at + length key) = length-replicate (key_room - length key) 0 ∙ omega arith in
      rw (e, drop_at p (z ++ v) (key_at + length key) l, take_at z v (value_at - (key_at + length key)) n)

  pub behind-value : drop (value_at + length value) (laid a b w key value) ≡ zeros (value_room - length value)
  unfolding laid padded
  behind-value =
      let four : List ℕ = a ∷ b ∷ length key ∷ length value ∷ [] in
      let ks = key ++ zeros (key_room - length key) in
      let p = four ++ (be 8 w ++ (ks ++ value)) in
      let z = zeros (value_room - length value) in
      let e : four ++ (be 8 w ++ (ks ++ (value ++ z))) ≡ p ++ z = simp append_assoc in
      let l : length p ≡ value_at + length value = simp (length-append, length-be, length-replicate) (omega arith) in
      rw (e, drop_at p z (value_at + length value) l)

-- ---- the pieces of a record

-- a part of a buffer written anew
pub mid-laid : (d : List ℕ) (at n : ℕ) {xs ys : List ℕ} → ys ≡ xs → length xs ≡ n → put_mid at n d ys ≡ put d at xs
unfolding put
mid-laid d at n {xs} e h = rw (e, ← h, drop-drop (length xs) at d) (sym (append_assoc (take at d) xs (drop (at + length xs) d)))

pub mid-zeros : (d : List ℕ) (at n : ℕ) {ys : List ℕ} → ys ≡ zeros (length (take n (drop at d))) → at + n ≤ length d → put_mid at n d ys ≡ put d at (zeros n)
mid-zeros d at n e h =
    let l : length (take n (drop at d)) ≡ n = length-take-le n (drop at d) (omega (arith, length-drop at d)) in
    mid-laid d at n (e ∙ ap zeros l) (length-replicate n 0)

padded-laid : (d : List ℕ) (at room : ℕ) (xs : List ℕ) {o : ℕ} {d₁ d₂ : List ℕ} → length xs ≤ room → at + room ≤ length d
    → o ≡ at + length xs → d₁ ≡ put d at xs → d₂ ≡ put d₁ o (zeros (room - length xs)) → d₂ ≡ put d at (padded room xs)
unfolding padded
padded-laid d at room xs {o} {d₁} {d₂} k h q e f =
    let rest : List ℕ = zeros (room - length xs) in
    let n : length (xs ++ rest) ≡ room = simp (length-append, length-replicate) (omega arith) in
    let w₁ = lay-more (lay_start d at (xs ++ rest) (omega arith)) xs rest d₁ o refl q e in
    (lay_end (lay-more w₁ rest [] d₂ (o + length rest) (sym (append-nil rest)) refl f) refl).1

pub padded-filled : (d : List ℕ) (at room : ℕ) (xs : List ℕ) {d₁ ys : List ℕ} → length xs ≤ room → at + room ≤ length d → d₁ ≡ put d at xs
    → ys ≡ zeros (length (take (at + room - (at + length xs)) (drop (at + length xs) d₁))) → put_mid (at + length xs) (at + room - (at + length xs)) d₁ ys ≡ put d at (padded room xs)
padded-filled d at room xs {d₁} k h e f =
    let n : at + room - (at + length xs) ≡ room - length xs = omega arith in
    let l : length d₁ ≡ length d = ap length e ∙ length-put d at xs (omega arith) in
    padded-laid d at room xs k h refl e (mid-zeros d₁ (at + length xs) (at + room - (at + length xs)) f (omega arith) ∙ ap (λ (m : ℕ). put d₁ (at + length xs) (zeros m)) n)

module _ (d : List ℕ) (at a b w : ℕ) (key value : List ℕ) (room : at + record_len ≤ length d) (k : length key ≤ key_room) (v : length value ≤ value_room) where
  pub record_laid : {d₁ d₂ d₃ d₄ : List ℕ} → d₁ ≡ put d at (a ∷ b ∷ length key ∷ length value ∷ []) → d₂ ≡ put d₁ (at + 4) (be 8 w)
      → d₃ ≡ put d₂ (at + key_at) (padded key_room key) → d₄ ≡ put d₃ (at + value_at) (padded value_room value) → d₄ ≡ put d at (laid a b w key value)
  unfolding laid
  record_laid {d₁} {d₂} {d₃} {d₄} e f g h =
      let four : List ℕ = a ∷ b ∷ length key ∷ length value ∷ [] in
      let ks = padded key_room key in
      let vs = padded value_room value in
      let m = length-be 8 w in
      let n = padded-long key_room key k in
      let w₁ = lay-more (lay_start d at (four ++ (be 8 w ++ (ks ++ vs))) (rw (laid-long a b w key value k v) room)) four (be 8 w ++ (ks ++ vs)) d₁ (at + 4) refl refl e in
      let w₂ = lay-more w₁ (be 8 w) (ks ++ vs) d₂ (at + 12) refl (omega arith) f in
      let w₃ = lay-more w₂ ks vs d₃ (at + 76) refl (omega arith) g in
      (lay_end (lay-more w₃ vs [] d₄ (at + 76 + length vs) (sym (append-nil vs)) refl h) refl).1
