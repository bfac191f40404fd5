-- Laws of slots and their words, for any words; what the functions on slots leave. Assumes nothing.
use Prim.Native.Nat.{ℕ, zero, suc, ◌+◌, ◌-◌, ◌*◌, ◌<◌, ◌≤◌}
use mathlib.Core.Path.{◌≡◌, refl, sym, ap, ◌∙◌}
use mathlib.Core.List.{List, [], ◌∷◌, ◌++◌, append_assoc}
use native.Mathlib.Omega.{arith}
use lib.ListN.{length, take, drop, get_or, set, replicate, length-append, length-take, length-drop, length-replicate}
use lib.Seq.{take_at, take-nil, drop-nil, drop-drop, get_or-drop, slice, length-slice, take-append-le, drop-append-le, sets-eq}
use Rattle.keycode.specs.Buffer.{put}
use Rattle.keycode.proofs.BufferLaws.{put-put, length-put}
use Rattle.bitcask.specs.declared.keydir.slots.Slot.{Slot}
use Rattle.bitcask.specs.keydir.Words.{copied}
use Rattle.bitcask.specs.keydir.Slots.{slot_words, free_slot, slot_head, slot_at, slots_of, words_of, insert_at, replace_at, remove_at, remove_span, key_of, value_of}
use Rattle.bitcask.proofs.keydir.WordLaws.{put_first, cleared}

-- ---- the words of slots

pub words_append : (xs ys : List Slot) → words_of (xs ++ ys) ≡ words_of xs ++ words_of ys
unfolding words_of
words_append [] ys = refl
words_append (x ∷ xs) ys = ap (λ (r : List ℕ). x.place ∷ x.klen ∷ x.vlen ∷ r) (words_append xs ys)

pub words-length : (ss : List Slot) → length (words_of ss) ≡ slot_words * length ss
unfolding words_of
words-length [] = refl
words-length (s ∷ ss) = let e = words-length ss in omega arith

three : (i : ℕ) → slot_words * suc i ≡ suc (suc (suc (slot_words * i)))
three i = omega arith

pub words_take : (i : ℕ) (ss : List Slot) → take (slot_words * i) (words_of ss) ≡ words_of (take i ss)
unfolding words_of
words_take zero ss = refl
words_take (suc i) [] = take-nil (slot_words * suc i)
words_take (suc i) (s ∷ ss) = rw (three i) (ap (λ (r : List ℕ). s.place ∷ s.klen ∷ s.vlen ∷ r) (words_take i ss))

pub words-drop : (i : ℕ) (ss : List Slot) → drop (slot_words * i) (words_of ss) ≡ words_of (drop i ss)
unfolding words_of
words-drop zero ss = refl
words-drop (suc i) [] = drop-nil (slot_words * suc i)
words-drop (suc i) (s ∷ ss) = rw (three i) (words-drop i ss)

-- ---- the slots of words

pub slots_length : (n : ℕ) (t : List ℕ) → length (slots_of n t) ≡ n
unfolding slots_of
slots_length zero t = refl
slots_length (suc n) t = ap suc (slots_length n (drop slot_words t))

pub slots-words : (ss : List Slot) (r : List ℕ) → slots_of (length ss) (words_of ss ++ r) ≡ ss
unfolding slots_of words_of slot_head
slots-words [] r = refl
slots-words (s ∷ ss) r = ap (λ (xs : List Slot). s ∷ xs) (slots-words ss r)

-- words are their slots' words, and what follows
pub words-slots : (n : ℕ) (t : List ℕ) → slot_words * n ≤ length t → words_of (slots_of n t) ++ drop (slot_words * n) t ≡ t
unfolding slots_of words_of slot_head
words-slots zero t h = refl
words-slots (suc n) [] h = absurd (omega arith)
words-slots (suc n) (a ∷ []) h = absurd (omega arith)
words-slots (suc n) (a ∷ b ∷ []) h = absurd (omega arith)
words-slots (suc n) (a ∷ b ∷ c ∷ t) h = rw (three n) (ap (λ (r : List ℕ). a ∷ b ∷ c ∷ r) (words-slots n t (omega arith)))

pub slot_at_is : (n : ℕ) (t : List ℕ) (i : ℕ) → i < n → slot_at t i ≡ get_or (slots_of n t) i free_slot
unfolding slot_at slots_of
slot_at_is zero t i h = absurd (omega arith)
slot_at_is (suc n) t zero h = refl
slot_at_is (suc n) t (suc i) h =
    let e : slot_words * suc i ≡ slot_words + slot_words * i = omega arith in
    rw (e, ← drop-drop (slot_words * i) slot_words t) (slot_at_is n (drop slot_words t) i (omega arith))

-- ---- how many slots there are then

module _ (i : ℕ) (s : Slot) (ss : List Slot) where
  pub insert_length : i ≤ length ss → length (insert_at i s ss) ≡ length ss + 1
  unfolding insert_at
  insert_length h = simp (length-append, length-take, length-drop) (omega arith)

  pub replace_length : i < length ss → length (replace_at i s ss) ≡ length ss
  unfolding replace_at
  replace_length h = simp (length-append, length-take, length-drop) (omega arith)

pub remove_length : (i : ℕ) (ss : List Slot) → i < length ss → length (remove_at i ss) ≡ length ss - 1
unfolding remove_at
remove_length i ss h = simp (length-append, length-take, length-drop) (omega arith)

-- ---- what the functions on slots do to words

pub slot_read : (t : List ℕ) (i : ℕ) → record { place = get_or t (slot_words * i) 0; klen = get_or t (slot_words * i + 1) 0; vlen = get_or t (slot_words * i + 2) 0 } ≡ slot_at t i
unfolding slot_at slot_head
slot_read t i =
    let e : slot_words * i ≡ slot_words * i + 0 = omega arith in
    let e₁ : get_or t (slot_words * i) 0 ≡ get_or (drop (slot_words * i) t) 0 0 = ap (λ (n : ℕ). get_or t n 0) e ∙ sym (get_or-drop (slot_words * i) t 0 0) in
    let e₂ : get_or t (slot_words * i + 1) 0 ≡ get_or (drop (slot_words * i) t) 1 0 = sym (get_or-drop (slot_words * i) t 1 0) in
    let e₃ : get_or t (slot_words * i + 2) 0 ≡ get_or (drop (slot_words * i) t) 2 0 = sym (get_or-drop (slot_words * i) t 2 0) in
    λ j. record { place = e₁ j; klen = e₂ j; vlen = e₃ j }

pub store_is : (t : List ℕ) (at : ℕ) (s : Slot) → at + slot_words ≤ length t → set (set (set t at s.place) (at + 1) s.klen) (at + 2) s.vlen ≡ put t at (words_of (s ∷ []))
unfolding put words_of
store_is t at s h =
    let e₁ : at + 1 ≡ suc at = omega arith in
    let e₂ : at + 2 ≡ suc (suc at) = omega arith in
    rw (e₁, e₂) (sets-eq (s.place ∷ s.klen ∷ s.vlen ∷ []) t at h)

-- a table of n slots in parts
module _ (t : List ℕ) (n : ℕ) (room : slot_words * n ≤ length t) where
  long : length (words_of (slots_of n t)) ≡ slot_words * n
  long = words-length (slots_of n t) ∙ ap (λ (k : ℕ). slot_words * k) (slots_length n t)

  front : take (slot_words * n) t ≡ words_of (slots_of n t)
  front =
      ap (take (slot_words * n)) (sym (words-slots n t room)) ∙ take_at (words_of (slots_of n t)) (drop (slot_words * n) t) (slot_words * n) long

  -- the words from the i-th slot on
  back : (i : ℕ) → slice (slot_words * i) (slot_words * n) t ≡ words_of (drop i (slots_of n t))
  back i = ap (drop (slot_words * i)) front ∙ words-drop i (slots_of n t)

  -- the words before the i-th slot
  fore : (i : ℕ) → i ≤ n → take (slot_words * i) t ≡ words_of (take i (slots_of n t))
  fore i h =
      ap (take (slot_words * i)) (sym (words-slots n t room))
      ∙ take-append-le (slot_words * i) (words_of (slots_of n t)) (drop (slot_words * n) t) (omega (arith, long))
      ∙ words_take i (slots_of n t)

  rest : (i : ℕ) → i ≤ n → drop (slot_words * i) t ≡ words_of (drop i (slots_of n t)) ++ drop (slot_words * n) t
  rest i h =
      ap (drop (slot_words * i)) (sym (words-slots n t room))
      ∙ drop-append-le (slot_words * i) (words_of (slots_of n t)) (drop (slot_words * n) t) (omega (arith, long))
      ∙ ap (λ (r : List ℕ). r ++ drop (slot_words * n) t) (words-drop i (slots_of n t))

  pub replace_is : (i : ℕ) (s : Slot) → i < n → put t (slot_words * i) (words_of (s ∷ [])) ≡ words_of (replace_at i s (slots_of n t)) ++ drop (slot_words * n) t
  unfolding put replace_at
  replace_is i s h =
      let e : slot_words * i + length (words_of (s ∷ [])) ≡ slot_words * suc i = ap (λ (k : ℕ). slot_words * i + k) (words-length (s ∷ [])) ∙ omega arith in
      rw (e, fore i (omega arith), rest (suc i) (omega arith), words_append (take i (slots_of n t)) (s ∷ drop (suc i) (slots_of n t)), words_append (s ∷ []) (drop (suc i) (slots_of n t)))
      (simp append_assoc)

  removed : (i : ℕ) (xs : List ℕ) → i < n → xs ≡ words_of (drop (suc i) (slots_of n t)) → length xs ≡ slot_words * n - slot_words * suc i
      → put t (slot_words * i) (xs ++ words_of (free_slot ∷ [])) ≡ words_of (remove_at i (slots_of n t)) ++ (replicate slot_words 0 ++ drop (slot_words * n) t)
  unfolding put remove_at words_of
  removed i xs h e l =
      let m : slot_words * i + length (xs ++ words_of (free_slot ∷ [])) ≡ slot_words * n = simp length-append (omega arith) in
      rw (m, fore i (omega arith), e, words_append (take i (slots_of n t)) (drop (suc i) (slots_of n t))) (simp append_assoc)

  inserted : (i : ℕ) (s : Slot) (xs : List ℕ) → i ≤ n → xs ≡ words_of (drop i (slots_of n t)) → length xs ≡ slot_words * n - slot_words * i
      → put t (slot_words * i) (words_of (s ∷ []) ++ xs) ≡ words_of (insert_at i s (slots_of n t)) ++ drop (slot_words * n + slot_words) t
  unfolding put insert_at
  inserted i s xs h e l =
      let w = words-length (s ∷ []) in
      let m : slot_words * i + length (words_of (s ∷ []) ++ xs) ≡ slot_words * n + slot_words = simp length-append (omega arith) in
      rw (m, fore i h, e, words_append (take i (slots_of n t)) (s ∷ drop i (slots_of n t)), words_append (s ∷ []) (drop i (slots_of n t))) (simp append_assoc)

  pub remove_is : (i : ℕ) → i < n → put (copied t (slot_words * i + slot_words) (slot_words * (n - 1) + slot_words) (slot_words * i)) (slot_words * (n - 1)) (words_of (free_slot ∷ []))
      ≡ words_of (remove_at i (slots_of n t)) ++ (replicate slot_words 0 ++ drop (slot_words * n) t)
  unfolding copied
  remove_is i h =
      let xs : List ℕ = slice (slot_words * suc i) (slot_words * n) t in
      let e₁ : slot_words * i + slot_words ≡ slot_words * suc i = omega arith in
      let e₂ : slot_words * (n - 1) + slot_words ≡ slot_words * n = omega arith in
      let l : length xs ≡ slot_words * n - slot_words * suc i = length-slice (slot_words * suc i) (slot_words * n) t room in
      let e₃ : slot_words * (n - 1) ≡ slot_words * i + length xs = omega arith in
      rw (e₁, e₂, e₃) (put-put t (slot_words * i) xs (omega arith) (words_of (free_slot ∷ [])) ∙ removed i xs h (back (suc i)) l)

-- ---- a span of slots taken out

module _ (t : List ℕ) (n i j : ℕ) (h : i ≤ j) (g : j ≤ n) (room : slot_words * n ≤ length t) where
  spanned : (xs zs : List ℕ) → xs ≡ words_of (drop j (slots_of n t)) → length xs + length zs ≡ slot_words * n - slot_words * i
      → put t (slot_words * i) (xs ++ zs) ≡ words_of (remove_span i j (slots_of n t)) ++ (zs ++ drop (slot_words * n) t)
  unfolding put remove_span
  spanned xs zs e l =
      let m : slot_words * i + length (xs ++ zs) ≡ slot_words * n = simp length-append (omega arith) in
      rw (m, fore t n room i (omega arith), e, words_append (take i (slots_of n t)) (drop j (slots_of n t))) (simp append_assoc)

  -- moved down, and cleared at the end
  pub span_done : {t' y : List ℕ} → t' ≡ copied t (slot_words * j) (slot_words * n) (slot_words * i)
      → y ≡ replicate (length (take (slot_words * n - slot_words * (i + (n - j))) (drop (slot_words * (i + (n - j))) t'))) 0
      → take (slot_words * (i + (n - j))) t' ++ (y ++ drop (slot_words * n - slot_words * (i + (n - j))) (drop (slot_words * (i + (n - j))) t'))
      ≡ words_of (remove_span i j (slots_of n t)) ++ (replicate (slot_words * (j - i)) 0 ++ drop (slot_words * n) t)
  unfolding copied
  span_done {t'} {y} e f =
      let xs : List ℕ = slice (slot_words * j) (slot_words * n) t in
      let l : length xs ≡ slot_words * n - slot_words * j = length-slice (slot_words * j) (slot_words * n) t room in
      let p : length t' ≡ length t = ap length e ∙ length-put t (slot_words * i) xs (omega arith) in
      let k : slot_words * n - slot_words * (i + (n - j)) ≡ slot_words * (j - i) = omega arith in
      let q : slot_words * (i + (n - j)) ≡ slot_words * i + length xs = omega arith in
      let z : length (replicate {A = ℕ} (slot_words * (j - i)) 0) ≡ slot_words * (j - i) = length-replicate (slot_words * (j - i)) 0 in
      cleared t' (slot_words * (i + (n - j))) (slot_words * n) (omega arith) (omega arith) f
      ∙ rw (k, q, e) (put-put t (slot_words * i) xs (omega arith) (replicate (slot_words * (j - i)) 0))
      ∙ spanned xs (replicate (slot_words * (j - i)) 0) (back t n room j) (omega arith)

pub insert_is : (t : List ℕ) (n i : ℕ) (s : Slot) → i ≤ n → slot_words * n + slot_words ≤ length t
    → put (copied t (slot_words * i) (slot_words * n) (slot_words * i + slot_words)) (slot_words * i) (words_of (s ∷ [])) ≡ words_of (insert_at i s (slots_of n t)) ++ drop (slot_words * n + slot_words) t
unfolding copied
insert_is t n i s h k =
    let xs : List ℕ = slice (slot_words * i) (slot_words * n) t in
    let ws : List ℕ = words_of (s ∷ []) in
    let l : length ws ≡ slot_words = words-length (s ∷ []) in
    let e : slot_words * i + slot_words ≡ slot_words * i + length ws = omega arith in
    ap (λ (g : ℕ). put (put t g xs) (slot_words * i) ws) e
    ∙ put_first t (slot_words * i) ws xs (omega arith)
    ∙ inserted t n (omega arith) i s xs h (back t n (omega arith) i) (length-slice (slot_words * i) (slot_words * n) t (omega arith))

-- ---- parts of a log

pub key-is : (log : List ℕ) (s : Slot) {a : ℕ} {r : List ℕ} → a ≡ s.place + 7 → r ≡ take s.klen (drop a log) → r ≡ key_of log s
unfolding key_of
key-is log s e g = g ∙ ap (λ (n : ℕ). take s.klen (drop n log)) e

pub value-is : (log : List ℕ) (s : Slot) {a : ℕ} {r : List ℕ} → a ≡ s.place + 7 + s.klen → r ≡ take s.vlen (drop a log) → r ≡ value_of log s
unfolding value_of
value-is log s e g = g ∙ ap (λ (n : ℕ). take s.vlen (drop n log)) e
