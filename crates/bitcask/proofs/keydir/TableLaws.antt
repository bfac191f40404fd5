-- Laws of a table that gets other slots: what `enter` and `leave` leave, for any words; and on a table of slots and zeros that it is
-- one again. Assumes nothing.
use Prim.Native.Nat.{ℕ, zero, suc, ◌+◌, ◌-◌, ◌*◌, ◌/◌, ◌<◌, ◌≤◌, max}
use mathlib.Core.Path.{◌≡◌, refl, sym, ap, ◌∙◌}
use mathlib.Core.Bool.{true, false}
use mathlib.Core.List.{List, [], ◌++◌}
use native.Mathlib.Decide.{dec_lt}
use native.Mathlib.Omega.{arith}
use lib.ListN.{length, drop, replicate, length-append, length-drop, length-replicate, replicate-append-replicate}
use lib.Seq.{drop-append-add}
use borrow.Author.Tests.{lt-ltb, le-ltb}
use Rattle.std.specs.Prelude.{Result, ℕ, Ok, Err}
use Rattle.bitcask.specs.declared.keydir.slots.Slot.{Slot}
use Rattle.bitcask.specs.keydir.Slots.{slot_words, slots_of, words_of, table_of, insert_at, replace_at, remove_at}
use Rattle.bitcask.specs.keydir.Place.{Among, All, count_of, put_at, cut_at, room_at, entered, laid, Becomes}
use Rattle.bitcask.proofs.keydir.SlotLaws.{words-length, words-slots, slots-words, slots_length, insert_length, replace_length, remove_length}
use Rattle.bitcask.proofs.keydir.CountLaws.{count-is}

-- z words are cleared, and the words from index x on stay
laid-is : (n : ℕ) (ss : List Slot) (t : List ℕ) (z x : ℕ) → slot_words * (n - length ss) ≡ z → slot_words * max n (length ss) ≡ x
    → words_of ss ++ (replicate z 0 ++ drop x t) ≡ laid n ss t
unfolding laid
laid-is n ss t z x e f = rw (e, f)

-- ---- what the calls leave

module _ (t : List ℕ) (n : ℕ) (f : Result ℕ ℕ) (i : ℕ) (room : slot_words * n ≤ length t) (a : Among n f) where
  long : length (slots_of n t) ≡ n
  long = slots_length n t

  stays : Becomes t n (slots_of n t) t n
  stays = record { count = sym long; words = sym (words-slots n t room) ∙ laid-is n (slots_of n t) t 0 (slot_words * n) (omega (arith, long)) (omega (arith, long)) }

  pub enter_at : (s : Slot) {y : List ℕ} → f ≡ Ok i → y ≡ words_of (replace_at i s (slots_of n t)) ++ drop (slot_words * n) t → Becomes t n (entered t s f (slots_of n t)) y n
  unfolding entered
  enter_at s {y} e q =
      let h : i < n = rw e at a in
      let l : length (replace_at i s (slots_of n t)) ≡ n = replace_length i s (slots_of n t) (omega (arith, long)) ∙ long in
      rw e (record { count = sym l; words = q ∙ laid-is n (replace_at i s (slots_of n t)) t 0 (slot_words * n) (omega arith) (omega arith) })

  pub enter_full : (s : Slot) → f ≡ Err i → length t / slot_words ≤ n → Becomes t n (entered t s f (slots_of n t)) t n
  unfolding entered
  enter_full s e k =
      rw (e, long, le-ltb n (length t / slot_words) k) stays

  pub enter_new : (s : Slot) {y : List ℕ} → f ≡ Err i → n < length t / slot_words
      → y ≡ words_of (insert_at i s (slots_of n t)) ++ drop (slot_words * n + slot_words) t → Becomes t n (entered t s f (slots_of n t)) y (n + 1)
  unfolding entered
  enter_new s {y} e k q =
      let h : i ≤ n = rw e at a in
      let l : length (insert_at i s (slots_of n t)) ≡ n + 1 = insert_length i s (slots_of n t) (omega (arith, long)) ∙ ap (λ (x : ℕ). x + 1) long in
      rw (e, long, lt-ltb n (length t / slot_words) k) (record { count = sym l; words = q ∙ laid-is n (insert_at i s (slots_of n t)) t 0 (slot_words * n + slot_words) (omega arith) (omega arith) })

  pub leave_at : {y : List ℕ} → f ≡ Ok i → y ≡ words_of (remove_at i (slots_of n t)) ++ (replicate slot_words 0 ++ drop (slot_words * n) t) → Becomes t n (cut_at f (slots_of n t)) y (n - 1)
  leave_at {y} e q =
      let h : i < n = rw e at a in
      let l : length (remove_at i (slots_of n t)) ≡ n - 1 = remove_length i (slots_of n t) (omega (arith, long)) ∙ ap (λ (x : ℕ). x - 1) long in
      rw e (record { count = sym l; words = q ∙ laid-is n (remove_at i (slots_of n t)) t slot_words (slot_words * n) (omega arith) (omega arith) })

  pub leave_none : f ≡ Err i → Becomes t n (cut_at f (slots_of n t)) t n
  leave_none e = rw e stays

-- ---- the table then

module _ (n : ℕ) (ss : List Slot) (t : List ℕ) where
  pub laid-slots : slots_of (length ss) (laid n ss t) ≡ ss
  unfolding laid
  laid-slots = slots-words ss (replicate (slot_words * (n - length ss)) 0 ++ drop (slot_words * max n (length ss)) t)

  pub laid-length : slot_words * n ≤ length t → slot_words * length ss ≤ length t → length (laid n ss t) ≡ length t
  unfolding laid
  laid-length h k = simp (length-append, words-length, length-replicate, length-drop) (omega arith)

-- what is put in is in where there is room, and nothing changes where there is none
module _ (t : List ℕ) (s : Slot) (f : Result ℕ ℕ) (ss : List Slot) where
  pub entered-room : room_at t f ss ≡ true → entered t s f ss ≡ put_at s f ss
  unfolding entered
  entered-room e = rw e

  pub entered-full : room_at t f ss ≡ false → entered t s f ss ≡ ss
  unfolding entered
  entered-full e = rw e

-- the slots stay within the table
module _ (t : List ℕ) (f : Result ℕ ℕ) (ss : List Slot) (room : slot_words * length ss ≤ length t) (a : Among (length ss) f) where
  pub entered-within : (s : Slot) → slot_words * length (entered t s f ss) ≤ length t
  entered-within s = entered_on f a
    where
      entered_on : (g : Result ℕ ℕ) → Among (length ss) g → slot_words * length (entered t s g ss) ≤ length t
      entered_on (Ok i) q = rw (entered-room t s (Ok i) ss refl, replace_length i s ss q) room
      entered_on (Err i) q =
          elim (dec_lt (length ss) (length t / slot_words)) [
            | yes h ↦ rw (entered-room t s (Err i) ss (lt-ltb (length ss) (length t / slot_words) h), insert_length i s ss q) (omega arith)
            | no h ↦ rw (entered-full t s (Err i) ss (le-ltb (length ss) (length t / slot_words) (omega arith))) room
          ]

  pub cut_within : slot_words * length (cut_at f ss) ≤ length t
  cut_within = cut_on f a
    where
      cut_on : (g : Result ℕ ℕ) → Among (length ss) g → slot_words * length (cut_at g ss) ≤ length t
      cut_on (Ok i) q = rw (remove_length i ss q) (omega arith)
      cut_on (Err i) q = room

-- ---- tables of slots and zeros

zeros-drop : (k n : ℕ) → drop k (replicate {A = ℕ} n 0) ≡ replicate {A = ℕ} (n - k) 0
zeros-drop zero n = let e : n ≡ n - 0 = omega arith in ap (λ (x : ℕ). replicate {A = ℕ} x 0) e
zeros-drop (suc k) zero = let e : 0 ≡ 0 - suc k = omega arith in ap (λ (x : ℕ). replicate {A = ℕ} x 0) e
zeros-drop (suc k) (suc n) = zeros-drop k n ∙ (let e : n - k ≡ suc n - suc k = omega arith in ap (λ (x : ℕ). replicate {A = ℕ} x 0) e)

pub table_empty : (n : ℕ) → replicate n 0 ≡ table_of n []
unfolding table_of words_of
table_empty n = let e : n ≡ n - 0 = omega arith in ap (λ (k : ℕ). replicate k 0) e

module _ (n : ℕ) (ss : List Slot) where
  pub table-length : slot_words * length ss ≤ n → length (table_of n ss) ≡ n
  unfolding table_of
  table-length h = simp (length-append, words-length, length-replicate) (omega arith)

  pub table-slots : slots_of (length ss) (table_of n ss) ≡ ss
  unfolding table_of
  table-slots = slots-words ss (replicate (n - slot_words * length ss) 0)

  pub table-count : All (λ (s : Slot). 0 < s.place) ss → count_of (table_of n ss) ≡ length ss
  unfolding table_of
  table-count a = count-is ss (n - slot_words * length ss) a

-- the zeros behind some words
zeros-behind : (w : List ℕ) (a n x : ℕ) → length w ≡ a → a ≤ x → drop x (w ++ replicate (n - a) 0) ≡ replicate (n - x) 0
zeros-behind w a n x e h =
    let m : x ≡ length w + (x - a) = omega arith in
    let k : n - a - (x - a) ≡ n - x = omega arith in
    ap (λ (i : ℕ). drop i (w ++ replicate (n - a) 0)) m ∙ drop-append-add w (replicate (n - a) 0) (x - a) ∙ zeros-drop (x - a) (n - a) ∙ ap (λ (i : ℕ). replicate i 0) k

-- a table of slots and zeros that gets other slots is one of those and zeros
pub table-laid : (n : ℕ) (old ss : List Slot) → slot_words * length old ≤ n → slot_words * length ss ≤ n → laid (length old) ss (table_of n old) ≡ table_of n ss
unfolding laid table_of
table-laid n old ss h k =
    let x : ℕ = slot_words * max (length old) (length ss) in
    let e : slot_words * (length old - length ss) + (n - x) ≡ n - slot_words * length ss = omega arith in
    rw (
      zeros-behind (words_of old) (slot_words * length old) n (slot_words * max (length old) (length ss)) (words-length old) (omega arith),
      replicate-append-replicate {A = ℕ} (slot_words * (length old - length ss)) (n - x) 0,
      e,
    )
