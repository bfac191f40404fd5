-- Laws of the handle slots: what the code reads and lays, that a handle put into a slot is read back, and that the other slots stay.
-- Assumes nothing.
use Prim.Native.Nat.{ℕ, zero, suc, ◌+◌, ◌-◌, ◌*◌, ◌≤◌, ◌<◌}
use mathlib.Core.Path.{◌≡◌, refl, sym, ap, ◌∙◌}
use mathlib.Core.Bool.{Bool, true, false, not}
use mathlib.Core.List.{List, [], ◌∷◌, ◌++◌, append_assoc}
use native.Mathlib.Decide.{dec_lt}
use native.Mathlib.Nat.{add-zero}
use native.Mathlib.Numerals.{towards_suc}
use native.Mathlib.Omega.{arith}
use lib.Dec.{eqb}
use lib.ListN.{length, take, drop, get_or, set, length-set, length-append, length-drop}
use lib.Seq.{sets-eq, take_all, take-take, take_at, drop_at, drop-drop, drop-append-add, length-take-le, get_or-take, get_or-drop}
use Rattle.keycode.specs.Buffer.{put}
use Rattle.keycode.specs.Limits.{max_open}
use Rattle.keycode.proofs.BufferLaws.{length-put, put-put}
use Rattle.bitcask.proofs.entry.EntryLaws.{laid-before}
use Rattle.mvcc.specs.declared.handle.Handle.{Handle}
use Rattle.tape.specs.format.Layout.{zeros}
use Rattle.tape.proofs.format.LayoutLaws.{mid-laid, mid-zeros}
use borrow.Rule.Slice.PartMut.{put_mid}
use Rattle.tape.specs.format.Slots.{slot_words, all_words, filled, handle_at, kind_of, words_of, fill, empty}

three_laid : (d : List ℕ) (at a b c : ℕ) → at + 3 ≤ length d → set (set (set d at a) (at + 1) b) (at + 2) c ≡ put d at (a ∷ b ∷ c ∷ [])
unfolding put
three_laid d at a b c h = simp towards_suc (simp towards_suc at (sets-eq (a ∷ b ∷ c ∷ []) d at h))

module _ (s : List ℕ) (i : ℕ) (long : length s ≡ all_words) (below : i < 16) where
  pub handle_read : {ws : List ℕ} → ws ≡ take (slot_words * i + slot_words - (slot_words * i + 3)) (drop (slot_words * i + 3) s)
      → record { version = get_or s (slot_words * i + 1) 0; read_only = not (eqb (get_or s (slot_words * i) 0) 1); count = get_or s (slot_words * i + 2) 0; set = ws } ≡ handle_at s i
  unfolding handle_at
  handle_read {ws} e =
      let n : slot_words * i + slot_words - (slot_words * i + 3) ≡ max_open = omega arith in
      let f : ws ≡ take max_open (drop (slot_words * i + 3) s) = rw n at e in
      ap (λ (x : List ℕ). record { version = get_or s (slot_words * i + 1) 0; read_only = not (eqb (get_or s (slot_words * i) 0) 1); count = get_or s (slot_words * i + 2) 0; set = x }) f

  pub fill-laid : (h : Handle) {k : ℕ} {ws : List ℕ} → k ≡ kind_of h.read_only
      → length ws ≡ length (take (slot_words * i + slot_words - (slot_words * i + 3)) (drop (slot_words * i + 3) (set (set (set s (slot_words * i) k) (slot_words * i + 1) h.version) (slot_words * i + 2) h.count)))
      → ws ≡ h.set
      → put_mid (slot_words * i + 3) (slot_words * i + slot_words - (slot_words * i + 3)) (set (set (set s (slot_words * i) k) (slot_words * i + 1) h.version) (slot_words * i + 2) h.count) ws ≡ fill s i h
  unfolding fill words_of
  fill-laid h {k} {ws} e l f =
      let at = slot_words * i in
      let n = at + slot_words - (at + 3) in
      let d = set (set (set s at k) (at + 1) h.version) (at + 2) h.count in
      let m : length (take n (drop (at + 3) d)) ≡ n = length-take-le n (drop (at + 3) d) (simp (length-drop, length-set) (omega arith)) in
      mid-laid d (at + 3) n f (ap length (sym f) ∙ l ∙ m)
      ∙ rw (three_laid s at k h.version h.count (omega arith), e)
      (put-put s at (kind_of h.read_only ∷ h.version ∷ h.count ∷ []) (omega arith) h.set)

  pub empty-laid : {ws : List ℕ} → ws ≡ zeros (length (take (slot_words * i + slot_words - slot_words * i) (drop (slot_words * i) s)))
      → put_mid (slot_words * i) (slot_words * i + slot_words - slot_words * i) s ws ≡ empty s i
  unfolding empty
  empty-laid e =
      let n : slot_words * i + slot_words - slot_words * i ≡ slot_words = omega arith in
      mid-zeros s (slot_words * i) (slot_words * i + slot_words - slot_words * i) e (omega arith) ∙ ap (λ (k : ℕ). put s (slot_words * i) (zeros k)) n

-- ---- a slot's words

abbrev words_at : List ℕ → ℕ → List ℕ
words_at s i = take slot_words (drop (slot_words * i) s)

-- a part that ends within the first elements
part_front : (o n m : ℕ) (l : List ℕ) → o + n ≤ m → take n (drop o (take m l)) ≡ take n (drop o l)
part_front zero n m l h = take-take n m l (omega arith)
part_front (suc o) n zero l h = absurd (omega arith)
part_front (suc o) n (suc m) [] h = refl
part_front (suc o) n (suc m) (x ∷ l) h = part_front o n m l (omega arith)

-- what a slot says stands in its words
module _ (s : List ℕ) (i : ℕ) where
  word_at : (k : ℕ) → k < slot_words → get_or (words_at s i) k 0 ≡ get_or s (slot_words * i + k) 0
  word_at k h = get_or-take slot_words (drop (slot_words * i) s) k 0 h ∙ get_or-drop (slot_words * i) s k 0

  first_word : get_or (words_at s i) 0 0 ≡ get_or s (slot_words * i) 0
  first_word = word_at 0 (omega arith) ∙ ap (λ (k : ℕ). get_or s k 0) (add-zero (slot_words * i))

  set_words : take max_open (drop 3 (words_at s i)) ≡ take max_open (drop (slot_words * i + 3) s)
  set_words = part_front 3 max_open slot_words (drop (slot_words * i) s) (omega arith) ∙ ap (take max_open) (drop-drop 3 (slot_words * i) s)

  handle-words : handle_at (words_at s i) 0 ≡ handle_at s i
  unfolding handle_at
  handle-words = λ j. record { version = word_at 1 (omega arith) j; read_only = not (eqb (first_word j) 1); count = word_at 2 (omega arith) j; set = set_words j }

  filled-words : filled (words_at s i) 0 ≡ filled s i
  unfolding filled
  filled-words = ap (λ (k : ℕ). not (eqb k 0)) first_word

-- words laid over a slot are its words, and no other slot's
module _ (s : List ℕ) (i : ℕ) (long : length s ≡ all_words) (below : i < 16) (ws : List ℕ) (nineteen : length ws ≡ slot_words) where
  words_own : words_at (put s (slot_words * i) ws) i ≡ ws
  unfolding put
  words_own =
      let at = slot_words * i in
      let rest = drop (at + length ws) s in
      rw (append_assoc (take at s) ws rest, drop_at (take at s) (ws ++ rest) at (length-take-le at s (omega arith)), take_at ws rest slot_words nineteen)

  words-past : (o : ℕ) → slot_words * i + slot_words ≤ o → drop o (put s (slot_words * i) ws) ≡ drop o s
  unfolding put
  words-past o h =
      let at = slot_words * i in
      let p = take at s ++ ws in
      let l : length p ≡ at + length ws = length-append (take at s) ws ∙ ap (λ (k : ℕ). k + length ws) (length-take-le at s (omega arith)) in
      let e : o ≡ length p + (o - length p) = omega arith in
      let f : at + length ws + (o - length p) ≡ o = omega arith in
      ap (λ (k : ℕ). drop k (p ++ drop (at + length ws) s)) e
      ∙ drop-append-add p (drop (at + length ws) s) (o - length p)
      ∙ drop-drop (o - length p) (at + length ws) s
      ∙ ap (λ (k : ℕ). drop k s) f

  words-other : (j : ℕ) → (j ≡ i → ⊥) → words_at (put s (slot_words * i) ws) j ≡ words_at s j
  words-other j n = elim (dec_lt j i) [
    | yes h ↦ (let at = slot_words * i in
        let o = slot_words * j in
        sym (part_front o slot_words at (put s at ws) (omega arith))
        ∙ ap (λ (l : List ℕ). take slot_words (drop o l)) (laid-before s at ws (omega arith))
        ∙ part_front o slot_words at s (omega arith))
    | no h ↦ ap (take slot_words) (words-past (slot_words * j) (omega arith))
  ]

  handle-other : (j : ℕ) → (j ≡ i → ⊥) → handle_at (put s (slot_words * i) ws) j ≡ handle_at s j
  handle-other j n = sym (handle-words (put s (slot_words * i) ws) j) ∙ ap (λ (l : List ℕ). handle_at l 0) (words-other j n) ∙ handle-words s j

  filled-other : (j : ℕ) → (j ≡ i → ⊥) → filled (put s (slot_words * i) ws) j ≡ filled s j
  filled-other j n = sym (filled-words (put s (slot_words * i) ws) j) ∙ ap (λ (l : List ℕ). filled l 0) (words-other j n) ∙ filled-words s j

-- ---- a slot filled

kind_back : (ro : Bool) → not (eqb (kind_of ro) 1) ≡ ro
unfolding kind_of
kind_back true = refl
kind_back false = refl

kind_marks : (ro : Bool) → not (eqb (kind_of ro) 0) ≡ true
unfolding kind_of
kind_marks true = refl
kind_marks false = refl

module _ (s : List ℕ) (i : ℕ) (long : length s ≡ all_words) (below : i < 16) (h : Handle) (whole : length h.set ≡ max_open) where
  words_long : length (words_of h) ≡ slot_words
  unfolding words_of
  words_long = omega arith

  words_read : handle_at (words_of h) 0 ≡ h
  unfolding handle_at words_of
  words_read = λ j. record { version = h.version; read_only = kind_back h.read_only j; count = h.count; set = take_all max_open h.set (omega arith) j }

  words-mark : filled (words_of h) 0 ≡ true
  unfolding filled words_of
  words-mark = kind_marks h.read_only

  pub length-fill : length (fill s i h) ≡ all_words
  unfolding fill
  length-fill = length-put s (slot_words * i) (words_of h) (omega (arith, words_long)) ∙ long

  pub slot-back : handle_at (fill s i h) i ≡ h
  unfolding fill
  slot-back = sym (handle-words (fill s i h) i) ∙ ap (λ (l : List ℕ). handle_at l 0) (words_own s i long below (words_of h) words_long) ∙ words_read

  pub filled-fill : filled (fill s i h) i ≡ true
  unfolding fill
  filled-fill = sym (filled-words (fill s i h) i) ∙ ap (λ (l : List ℕ). filled l 0) (words_own s i long below (words_of h) words_long) ∙ words-mark

  -- the other slots
  pub handle_fill_other : (j : ℕ) → (j ≡ i → ⊥) → handle_at (fill s i h) j ≡ handle_at s j
  unfolding fill
  handle_fill_other = handle-other s i long below (words_of h) words_long

  pub filled_fill_other : (j : ℕ) → (j ≡ i → ⊥) → filled (fill s i h) j ≡ filled s j
  unfolding fill
  filled_fill_other = filled-other s i long below (words_of h) words_long

-- ---- a slot emptied

module _ (s : List ℕ) (i : ℕ) (long : length s ≡ all_words) (below : i < 16) where
  pub length-empty : length (empty s i) ≡ all_words
  unfolding empty
  length-empty = length-put s (slot_words * i) (zeros slot_words) (omega arith) ∙ long

  pub filled-empty : filled (empty s i) i ≡ false
  unfolding empty filled
  filled-empty = sym (filled-words (empty s i) i) ∙ ap (λ (l : List ℕ). filled l 0) (words_own s i long below (zeros slot_words) refl)

  pub handle_empty_other : (j : ℕ) → (j ≡ i → ⊥) → handle_at (empty s i) j ≡ handle_at s j
  unfolding empty
  handle_empty_other = handle-other s i long below (zeros slot_words) refl

  pub filled_empty_other : (j : ℕ) → (j ≡ i → ⊥) → filled (empty s i) j ≡ filled s j
  unfolding empty
  filled_empty_other = filled-other s i long below (zeros slot_words) refl
