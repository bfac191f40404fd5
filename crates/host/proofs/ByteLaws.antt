-- Laws of a table's words and its bytes: each is read off the other, and bytes moved by whole words are words moved. Assumes nothing.
use Prim.Native.Nat.{ℕ, zero, suc, ◌+◌, ◌-◌, ◌*◌, ◌/◌, ◌%◌, ◌≤◌}
use mathlib.Core.Path.{◌≡◌, refl, sym, ap, ◌∙◌}
use mathlib.Core.List.{List, [], ◌∷◌, ◌++◌, append-nil, append_assoc}
use native.Mathlib.Nat.{zero-add, suc-add}
use native.Mathlib.Omega.{arith}
use lib.ListN.{length, take, drop, replicate, length-append, length-drop, take-append-drop, length-replicate}
use lib.Seq.{slice, take_all, take-append-le, drop-append-le, take_at, drop_at, length-take-le, length-slice, drop-drop}
use Rattle.keycode.specs.Number.{be, num, num_from}
use Rattle.keycode.specs.Buffer.{put}
use Rattle.keycode.proofs.BufferLaws.{put-put}
use Rattle.keycode.proofs.NumberLaws.{Bytes, bytes_take, bytes_drop, length-be, num_any, be-num}
use Rattle.bitcask.specs.entry.Reading.{word_at}
use Rattle.bitcask.specs.keydir.Words.{copied}
use Rattle.bitcask.specs.keydir.Slots.{slot_words, slot_head, slot_at, words_of}
use Rattle.bitcask.specs.declared.keydir.slots.Slot.{Slot}
use Rattle.std.specs.List.{copy_within}
use Rattle.std.proofs.lemmas.List.{drop-take}
use Rattle.host.specs.Table.{word_bytes, slot_bytes, spread, first_words, words_in, words-length}

-- ---- reading words

none : (xs : List ℕ) → length xs ≡ 0 → xs ≡ []
none [] h = refl
none (x ∷ xs) h = absurd (omega arith)

first-append : (n m : ℕ) (xs ys : List ℕ) → length xs ≡ word_bytes * n → first_words (n + m) (xs ++ ys) ≡ first_words n xs ++ first_words m ys
unfolding first_words
first-append zero m xs ys h = rw (zero-add, none xs (omega arith))
first-append (suc n) m xs ys h =
    let l : length (drop word_bytes xs) ≡ word_bytes * n = length-drop word_bytes xs ∙ omega arith in
    rw (suc-add n m, take-append-le word_bytes xs ys (omega arith), drop-append-le word_bytes xs ys (omega arith), first-append n m (drop word_bytes xs) ys l)

words_append : (n : ℕ) (xs ys : List ℕ) → length xs ≡ word_bytes * n → words_in (xs ++ ys) ≡ words_in xs ++ words_in ys
unfolding words_in
words_append n xs ys h =
    let k = length-append xs ys in
    let e : length (xs ++ ys) / word_bytes ≡ n + length ys / word_bytes = omega arith in
    let f : length xs / word_bytes ≡ n = omega arith in
    rw (e, f) (first-append n (length ys / word_bytes) xs ys h)

module _ (i : ℕ) (b : List ℕ) (h : word_bytes * i ≤ length b) where
  front_length : length (take (word_bytes * i) b) ≡ word_bytes * i
  front_length = length-take-le (word_bytes * i) b h

  words-split : words_in b ≡ words_in (take (word_bytes * i) b) ++ words_in (drop (word_bytes * i) b)
  words-split = ap words_in (sym (take-append-drop (word_bytes * i) b)) ∙ words_append i (take (word_bytes * i) b) (drop (word_bytes * i) b) front_length

  front-words : length (words_in (take (word_bytes * i) b)) ≡ i
  front-words = let l = front_length in words-length (take (word_bytes * i) b) ∙ omega arith

  words_take : take i (words_in b) ≡ words_in (take (word_bytes * i) b)
  words_take = ap (take i) words-split ∙ take_at (words_in (take (word_bytes * i) b)) (words_in (drop (word_bytes * i) b)) i front-words

  words-drop : drop i (words_in b) ≡ words_in (drop (word_bytes * i) b)
  words-drop = ap (drop i) words-split ∙ drop_at (words_in (take (word_bytes * i) b)) (words_in (drop (word_bytes * i) b)) i front-words

-- ---- bytes laid and moved by whole words

pub words-put : (b xs : List ℕ) (at n : ℕ) → length xs ≡ word_bytes * n → word_bytes * at + length xs ≤ length b → words_in (put b (word_bytes * at) xs) ≡ put (words_in b) at (words_in xs)
unfolding put
words-put b xs at n e h =
    let l = length-take-le (word_bytes * at) b (omega arith) in
    let m : length (take (word_bytes * at) b ++ xs) ≡ word_bytes * (at + n) = length-append (take (word_bytes * at) b) xs ∙ omega arith in
    let k : length (words_in xs) ≡ n = words-length xs ∙ omega arith in
    let q : word_bytes * at + length xs ≡ word_bytes * (at + n) = omega arith in
    words_append (at + n) (take (word_bytes * at) b ++ xs) (drop (word_bytes * at + length xs) b) m
    ∙ rw (words_append at (take (word_bytes * at) b) xs l, k, q, words_take at b (omega arith), words-drop (at + n) b (omega arith))

copied_within : (b : List ℕ) (f t g : ℕ) → f ≤ t → t ≤ length b → copied b f t g ≡ copy_within b f t g
unfolding copied put
copied_within b f t g h k =
    let m : t ≡ f + (t - f) = omega arith in
    let e : slice f t b ≡ take (t - f) (drop f b) = ap (λ (k : ℕ). drop f (take k b)) m ∙ drop-take f (t - f) b in
    let n : length (take (t - f) (drop f b)) ≡ t - f = length-take-le (t - f) (drop f b) (omega (arith, length-drop f b)) in
    rw (e, n)

words_slice : (b : List ℕ) (f t : ℕ) → f ≤ t → word_bytes * t ≤ length b → words_in (slice (word_bytes * f) (word_bytes * t) b) ≡ slice f t (words_in b)
words_slice b f t h k =
    let l = length-take-le (word_bytes * t) b k in
    sym (ap (drop f) (words_take t b k) ∙ words-drop f (take (word_bytes * t) b) (omega arith))

pub words_copied : (b : List ℕ) (f t g : ℕ) → f ≤ t → word_bytes * t ≤ length b → word_bytes * (g + (t - f)) ≤ length b
    → words_in (copied b (word_bytes * f) (word_bytes * t) (word_bytes * g)) ≡ copied (words_in b) f t g
unfolding copied
words_copied b f t g h k m =
    let l : length (slice (word_bytes * f) (word_bytes * t) b) ≡ word_bytes * (t - f) = length-slice (word_bytes * f) (word_bytes * t) b k ∙ omega arith in
    words-put b (slice (word_bytes * f) (word_bytes * t) b) g (t - f) l (omega arith) ∙ ap (put (words_in b) g) (words_slice b f t h k)

-- ---- slots

three : (b : List ℕ) → slot_bytes ≤ length b → slot_head (words_in b) ≡ record { place = num (take 4 b); klen = num (take 4 (drop 4 b)); vlen = num (take 4 (drop 4 (drop 4 b))) }
unfolding words_in first_words slot_head
three b h = let e : length b / word_bytes ≡ suc (suc (suc (length b / word_bytes - 3))) = omega arith in rw e

-- what stands at a slot
pub slot_is : (b : List ℕ) (i : ℕ) {p k v : ℕ} → slot_words * i + slot_words ≤ length (words_in b) → p ≡ word_at b (slot_bytes * i) → k ≡ word_at b (slot_bytes * i + 4) → v ≡ word_at b (slot_bytes * i + 8)
    → record { place = p; klen = k; vlen = v } ≡ slot_at (words_in b) i
unfolding slot_at word_at
slot_is b i h e f g =
    let l = words-length b in
    let m = length-drop (slot_bytes * i) b in
    let q : word_bytes * (slot_words * i) ≡ slot_bytes * i = omega arith in
    let x : slot_bytes * i + 4 + 4 ≡ slot_bytes * i + 8 = omega arith in
    sym (rw (words-drop (slot_words * i) b (omega arith), q, three (drop (slot_bytes * i) b) (omega arith), drop-drop 4 (slot_bytes * i) b, drop-drop 4 (slot_bytes * i + 4) b, x, e, f, g))

-- ---- bytes of words

one_word : (w : ℕ) → words_in (be word_bytes w) ≡ w ∷ []
unfolding words_in first_words
one_word w = let l = length-be word_bytes w in rw (l, take_all word_bytes (be word_bytes w) (omega arith), num_any 3 w)

pub words_spread : (ws : List ℕ) → words_in (spread ws) ≡ ws
unfolding spread words_in first_words
words_spread [] = refl
words_spread (w ∷ ws) = words_append 1 (be word_bytes w) (spread ws) (length-be word_bytes w) ∙ rw (one_word w, words_spread ws)

spread-first : (n : ℕ) (b : List ℕ) → Bytes b → length b ≡ word_bytes * n → spread (first_words n b) ≡ b
unfolding spread first_words
spread-first zero b y h = sym (none b (omega arith))
spread-first (suc n) b y h =
    let l : length (take word_bytes b) ≡ word_bytes = length-take-le word_bytes b (omega arith) in
    let m : length (drop word_bytes b) ≡ word_bytes * n = length-drop word_bytes b ∙ omega arith in
    rw (spread-first n (drop word_bytes b) (bytes_drop word_bytes b y) m)
    (ap (λ (x : List ℕ). x ++ drop word_bytes b) (rw l at (be-num (take word_bytes b) (bytes_take word_bytes b y))) ∙ take-append-drop word_bytes b)

-- bytes that are whole words are the bytes of those
pub spread-words : (b : List ℕ) → Bytes b → length b % word_bytes ≡ 0 → spread (words_in b) ≡ b
unfolding words_in
spread-words b y h = spread-first (length b / word_bytes) b y (omega arith)

first-zeros : (n m : ℕ) → word_bytes * n ≤ m → first_words n (replicate m 0) ≡ replicate n 0
unfolding first_words num num_from
first-zeros zero m h = refl
first-zeros (suc n) m h =
    let e : m ≡ suc (suc (suc (suc (m - 4)))) = omega arith in
    rw e (ap (λ (x : List ℕ). 0 ∷ x) (first-zeros n (m - 4) (omega arith)))

pub words-zeros : (b : List ℕ) (n : ℕ) → b ≡ replicate n 0 → words_in b ≡ replicate (n / word_bytes) 0
unfolding words_in
words-zeros b n e = rw (e, length-replicate {A = ℕ} n 0) (first-zeros (n / word_bytes) n (omega arith))

pub spread-zeros : (n : ℕ) → spread (replicate n 0) ≡ replicate (word_bytes * n) 0
unfolding spread be
spread-zeros zero = refl
spread-zeros (suc n) = let e : word_bytes * suc n ≡ suc (suc (suc (suc (word_bytes * n)))) = omega arith in rw (e, spread-zeros n)

-- ---- slots put in and taken out

-- as many slots as whole words give
pub slot-count : (b : List ℕ) → length b / slot_bytes ≡ length (words_in b) / slot_words
slot-count b = omega (arith, words-length b)

-- a slot's three words laid one after the other
pub store_is : (b : List ℕ) (i : ℕ) (s : Slot) {b₁ b₂ b₃ : List ℕ} → slot_words * i + slot_words ≤ length (words_in b)
    → b₁ ≡ put b (slot_bytes * i) (be word_bytes s.place) → b₂ ≡ put b₁ (slot_bytes * i + 4) (be word_bytes s.klen) → b₃ ≡ put b₂ (slot_bytes * i + 8) (be word_bytes s.vlen)
    → words_in b₃ ≡ put (words_in b) (slot_words * i) (words_of (s ∷ []))
unfolding words_of spread
store_is b i s {b₁} {b₂} {b₃} h e f g =
    let p : ℕ = s.place in
    let k : ℕ = s.klen in
    let v : ℕ = s.vlen in
    let n = words-length b in
    let lp = length-be word_bytes p in
    let lk = length-be word_bytes k in
    let lv = length-be word_bytes v in
    let at : ℕ = slot_bytes * i in
    let x : List ℕ = be word_bytes p ++ be word_bytes k in
    let lx : length x ≡ 8 = length-append (be word_bytes p) (be word_bytes k) ∙ omega arith in
    let m : at + 4 ≡ at + length (be word_bytes p) = omega arith in
    let o : at + 8 ≡ at + length x = omega arith in
    let two : b₂ ≡ put b at x = f ∙ rw (e, m) (put-put b at (be word_bytes p) (omega arith) (be word_bytes k)) in
    let all : b₃ ≡ put b at (x ++ be word_bytes v) = g ∙ rw (two, o) (put-put b at x (omega arith) (be word_bytes v)) in
    let q : x ++ be word_bytes v ≡ spread (p ∷ k ∷ v ∷ []) = append_assoc (be word_bytes p) (be word_bytes k) (be word_bytes v) ∙ ap (λ (y : List ℕ). be word_bytes p ++ (be word_bytes k ++ y)) (sym (append-nil (be word_bytes v))) in
    let ly : length (spread (p ∷ k ∷ v ∷ [])) ≡ word_bytes * slot_words = ap length (sym q) ∙ length-append x (be word_bytes v) ∙ omega arith in
    let z : at ≡ word_bytes * (slot_words * i) = omega arith in
    ap words_in (all ∙ rw (q, z)) ∙ words-put b (spread (p ∷ k ∷ v ∷ [])) (slot_words * i) slot_words ly (omega arith)
    ∙ ap (put (words_in b) (slot_words * i)) (words_spread (p ∷ k ∷ v ∷ []))

-- slots moved
pub shift_words : (b : List ℕ) (f t g : ℕ) {b' : List ℕ} → f ≤ t → slot_words * t ≤ length (words_in b) → slot_words * (g + (t - f)) ≤ length (words_in b)
    → b' ≡ copy_within b (slot_bytes * f) (slot_bytes * t) (slot_bytes * g) → words_in b' ≡ copied (words_in b) (slot_words * f) (slot_words * t) (slot_words * g)
shift_words b f t g h k m e =
    let l = words-length b in
    let x : slot_bytes * f ≡ word_bytes * (slot_words * f) = omega arith in
    let y : slot_bytes * t ≡ word_bytes * (slot_words * t) = omega arith in
    let z : slot_bytes * g ≡ word_bytes * (slot_words * g) = omega arith in
    ap words_in (e ∙ sym (copied_within b (slot_bytes * f) (slot_bytes * t) (slot_bytes * g) (omega arith) (omega arith)))
    ∙ rw (x, y, z) (words_copied b (slot_words * f) (slot_words * t) (slot_words * g) (omega arith) (omega arith) (omega arith))
