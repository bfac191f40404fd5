-- Laws of parts of a table: its first slots, those behind, and what a run of words laid into it leaves of both. Assumes nothing.
use Prim.Native.Nat.{ℕ, zero, suc, ◌+◌, ◌-◌, ◌*◌, ◌≤◌}
use mathlib.Core.Path.{◌≡◌, refl, sym, ap, ◌∙◌}
use mathlib.Core.List.{List, [], ◌∷◌, ◌++◌, append_assoc}
use native.Mathlib.Omega.{arith}
use lib.ListN.{length, take, drop, length-append, length-take}
use lib.Seq.{slice, take_at, drop_at, take-add, take-append-le, take-take, drop-drop, drop-append-add, length-take-le}
use Rattle.keycode.specs.Buffer.{put}
use Rattle.bitcask.specs.declared.keydir.slots.Slot.{Slot}
use Rattle.bitcask.specs.keydir.Slots.{slot_words, slots_of, words_of, slot_head}
use Rattle.bitcask.proofs.keydir.SlotLaws.{words-length, slots_length, slots-words, words-slots}
use Rattle.bitcask.specs.merging.Passes.{behind}

-- ---- the slots of words

pub slots_at : (ss : List Slot) (r : List ℕ) (n : ℕ) → length ss ≡ n → slots_of n (words_of ss ++ r) ≡ ss
slots_at ss r n e = ap (λ (k : ℕ). slots_of k (words_of ss ++ r)) (sym e) ∙ slots-words ss r

pub words-front : (n : ℕ) (t : List ℕ) → slot_words * n ≤ length t → take (slot_words * n) t ≡ words_of (slots_of n t)
words-front n t h =
    ap (take (slot_words * n)) (sym (words-slots n t h))
    ∙ take_at (words_of (slots_of n t)) (drop (slot_words * n) t) (slot_words * n) (words-length (slots_of n t) ∙ ap (λ (k : ℕ). slot_words * k) (slots_length n t))

pub slots-take : (j m : ℕ) (t : List ℕ) → j ≤ m → slots_of j t ≡ take j (slots_of m t)
unfolding slots_of
slots-take zero m t h = refl
slots-take (suc j) zero t h = absurd (omega arith)
slots-take (suc j) (suc m) t h = ap (λ (z : List Slot). slot_head t ∷ z) (slots-take j m (drop slot_words t) (omega arith))

slots-drop : (i m : ℕ) (t : List ℕ) → slots_of m (drop (slot_words * i) t) ≡ drop i (slots_of (i + m) t)
unfolding slots_of
slots-drop zero m t = let e : m ≡ 0 + m = omega arith in ap (λ (k : ℕ). slots_of k t) e
slots-drop (suc i) m t =
    let e : slot_words * suc i ≡ slot_words + slot_words * i = omega arith in
    let f : suc i + m ≡ suc (i + m) = omega arith in
    rw (e, f, ← drop-drop (slot_words * i) slot_words t) (slots-drop i m (drop slot_words t))

pub behind-is : (t : List ℕ) (i n : ℕ) → i ≤ n → behind t i n ≡ drop i (slots_of n t)
unfolding behind
behind-is t i n h = slots-drop i (n - i) t ∙ (let e : i + (n - i) ≡ n = omega arith in ap (λ (k : ℕ). drop i (slots_of k t)) e)

pub behind-length : (t : List ℕ) (i n : ℕ) → length (behind t i n) ≡ n - i
unfolding behind
behind-length t i n = slots_length (n - i) (drop (slot_words * i) t)

pub slots_same : (n : ℕ) (t t' : List ℕ) → take (slot_words * n) t ≡ take (slot_words * n) t' → slot_words * n ≤ length t → slot_words * n ≤ length t' → slots_of n t ≡ slots_of n t'
slots_same n t t' e h k =
    let q : words_of (slots_of n t) ≡ words_of (slots_of n t') = sym (words-front n t h) ∙ e ∙ words-front n t' k in
    sym (slots_at (slots_of n t) [] n (slots_length n t)) ∙ ap (λ (w : List ℕ). slots_of n (w ++ [])) q ∙ slots_at (slots_of n t') [] n (slots_length n t')

-- ---- a run laid into words

pub slice_is : (f m : ℕ) (l : List ℕ) → f ≤ length l → slice f (f + m) l ≡ take m (drop f l)
slice_is f m l h = ap (drop f) (take-add f m l) ∙ drop_at (take f l) (take m (drop f l)) f (length-take-le f l h)

module _ (d : List ℕ) (at : ℕ) (xs : List ℕ) (h : at + length xs ≤ length d) where
  head : length (take at d ++ xs) ≡ at + length xs
  head = simp (length-append, length-take) (omega arith)

  pub put-past : (m : ℕ) → at + length xs ≤ m → drop m (put d at xs) ≡ drop m d
  unfolding put
  put-past m k =
      let n : ℕ = m - (at + length xs) in
      let e : m ≡ length (take at d ++ xs) + n = omega (arith, head) in
      let f : at + length xs + n ≡ m = omega arith in
      ap (λ (y : ℕ). drop y (take at d ++ xs ++ drop (at + length xs) d)) e ∙ drop-append-add (take at d ++ xs) (drop (at + length xs) d) n
      ∙ drop-drop n (at + length xs) d ∙ ap (λ (y : ℕ). drop y d) f

  pub put_fore : (m : ℕ) → m ≤ at → take m (put d at xs) ≡ take m d
  unfolding put
  put_fore m k =
      rw (append_assoc (take at d) xs (drop (at + length xs) d))
      (take-append-le m (take at d) (xs ++ drop (at + length xs) d) (omega (arith, length-take-le at d (omega arith))) ∙ take-take m at d k)

  pub put-at : drop at (put d at xs) ≡ xs ++ drop (at + length xs) d
  unfolding put
  put-at = rw (append_assoc (take at d) xs (drop (at + length xs) d)) (drop_at (take at d) (xs ++ drop (at + length xs) d) at (length-take-le at d (omega arith)))

  pub put_head : take (at + length xs) (put d at xs) ≡ take at d ++ xs
  unfolding put
  put_head = take_at (take at d ++ xs) (drop (at + length xs) d) (at + length xs) head
