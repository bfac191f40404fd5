-- A table as bytes: its words cross as big-endian bytes, four a word. Assumes nothing.
use Rattle.std.specs.Prelude.{ℕ, zero, suc, ◌/◌, ◌≤◌, ◌≡◌, refl, List, [], ◌∷◌, ◌++◌, length, take, drop}
use Rattle.std.proofs.Math.Path.{ap, sym, subst}
use Rattle.std.proofs.Math.Nat.{div-le_self}
use Rattle.keycode.specs.Number.{be, num}

-- the bytes that a word takes
abbrev pub word_bytes : ℕ
word_bytes = 4

-- the bytes that a slot takes
abbrev pub slot_bytes : ℕ
slot_bytes = 12

-- the bytes of words
unfoldable pub spread : List ℕ → List ℕ
spread [] = []
spread (w ∷ ws) = be word_bytes w ++ spread ws

-- the first n words of bytes
unfoldable pub first_words : ℕ → List ℕ → List ℕ
first_words zero b = []
first_words (suc n) b = num (take word_bytes b) ∷ first_words n (drop word_bytes b)

-- the words of bytes, as many as are whole
unfoldable pub words_in : List ℕ → List ℕ
words_in b = first_words (length b / word_bytes) b

-- ---- how many words bytes have

words_count : (n : ℕ) (b : List ℕ) → length (first_words n b) ≡ n
unfolding first_words
words_count zero b = refl
words_count (suc n) b = ap suc (words_count n (drop word_bytes b))

pub words-length : (b : List ℕ) → length (words_in b) ≡ length b / word_bytes
unfolding words_in
words-length b = words_count (length b / word_bytes) b

pub words_fit : (b : List ℕ) → length (words_in b) ≤ length b
words_fit b = subst (λ (n : ℕ). n ≤ length b) (sym (words-length b)) (div-le_self (length b) word_bytes)
