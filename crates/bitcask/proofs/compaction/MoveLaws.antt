-- Laws of entries laid one behind the other from the front of a log on, and of the loop that moves the entries of slots there, for any
-- words. Assumes nothing.
use Prim.Native.Nat.{ℕ, zero, suc, ◌+◌, ◌*◌, ◌≤◌, ◌<◌}
use mathlib.Core.Path.{◌≡◌, refl, sym, ap, ◌∙◌}
use mathlib.Core.List.{List, [], ◌∷◌, ◌++◌, append_assoc, append-nil}
use native.Mathlib.Omega.{arith}
use native.Mathlib.Numerals.{add-one}
use lib.ListN.{length, take, drop, get_or, length-append, take-append-drop}
use lib.Seq.{take-suc, take_all, length-take-le, drop_at}
use Rattle.keycode.specs.Limits.{max_log}
use Rattle.keycode.specs.Buffer.{put}
use Rattle.keycode.proofs.BufferLaws.{put-none, put_front, put-put, length-put}
use Rattle.bitcask.specs.entry.Entry.{Entry, set, bytes_of, size_of}
use Rattle.bitcask.proofs.entry.EntryLaws.{length-bytes}
use Rattle.bitcask.specs.declared.keydir.slots.Slot.{Slot}
use Rattle.bitcask.specs.keydir.Slots.{slot_words, free_slot, slot_head, slot_at, slots_of, words_of, key_of, value_of}
use Rattle.bitcask.proofs.keydir.SlotLaws.{words_append, words-length, slots_length, slot_at_is}
use Rattle.bitcask.specs.recovery.Recover.{view}
use Rattle.bitcask.specs.change.Append.{slot_of, size_all, bytes_all}
use Rattle.bitcask.specs.compaction.Compaction.{entries_of, entry_in, placed, MovedOne, Moved}

-- ---- lists of entries

pub size_append : (xs ys : List Entry) → size_all (xs ++ ys) ≡ size_all xs + size_all ys
unfolding size_all
size_append [] ys = omega arith
size_append (x ∷ xs) ys = let e = size_append xs ys in omega arith

pub bytes-append : (xs ys : List Entry) → bytes_all (xs ++ ys) ≡ bytes_all xs ++ bytes_all ys
unfolding bytes_all
bytes-append [] ys = refl
bytes-append (x ∷ xs) ys = ap (λ (r : List ℕ). bytes_of x ++ r) (bytes-append xs ys) ∙ sym (append_assoc (bytes_of x) (bytes_all xs) (bytes_all ys))

pub bytes-length : (es : List Entry) → length (bytes_all es) ≡ size_all es
unfolding bytes_all size_all
bytes-length [] = refl
bytes-length (e ∷ es) = length-append (bytes_of e) (bytes_all es) ∙ (let a = length-bytes e in let b = bytes-length es in omega arith)

pub placed-length : (at : ℕ) (es : List Entry) → length (placed at es) ≡ length es
unfolding placed
placed-length at [] = refl
placed-length at (e ∷ es) = ap suc (placed-length (at + size_of e) es)

placed-append : (at : ℕ) (xs ys : List Entry) → placed at (xs ++ ys) ≡ placed at xs ++ placed (at + size_all xs) ys
unfolding placed size_all
placed-append at [] ys = let q : at ≡ at + 0 = omega arith in ap (λ (n : ℕ). placed n ys) q
placed-append at (x ∷ xs) ys =
    let q : at + size_of x + size_all xs ≡ at + (size_of x + size_all xs) = omega arith in
    ap (λ (r : List Slot). slot_of at x ∷ r) (placed-append (at + size_of x) xs ys ∙ ap (λ (n : ℕ). placed (at + size_of x) xs ++ placed n ys) q)

-- one entry more
module _ (es : List Entry) (e : Entry) where
  pub size_more : size_all (es ++ (e ∷ [])) ≡ size_all es + size_of e
  unfolding size_all
  size_more = let a = size_append es (e ∷ []) in omega arith

  pub bytes-more : bytes_all (es ++ (e ∷ [])) ≡ bytes_all es ++ bytes_of e
  unfolding bytes_all
  bytes-more = bytes-append es (e ∷ []) ∙ ap (λ (r : List ℕ). bytes_all es ++ r) (append-nil (bytes_of e))

  pub placed-more : placed 0 (es ++ (e ∷ [])) ≡ placed 0 es ++ (slot_of (size_all es) e ∷ [])
  unfolding placed
  placed-more = let q : 0 + size_all es ≡ size_all es = omega arith in placed-append 0 es (e ∷ []) ∙ ap (λ (n : ℕ). placed 0 es ++ (slot_of n e ∷ [])) q

  -- laid behind the others
  pub laid_more : (g : List ℕ) → size_all es ≤ length g → put (put g 0 (bytes_all es)) (size_all es) (bytes_of e) ≡ put g 0 (bytes_all (es ++ (e ∷ [])))
  laid_more g h =
      let l = bytes-length es in
      let q : size_all es ≡ 0 + length (bytes_all es) = omega arith in
      ap (λ (n : ℕ). put (put g 0 (bytes_all es)) n (bytes_of e)) q ∙ put-put g 0 (bytes_all es) (omega arith) (bytes_of e) ∙ ap (put g 0) (sym bytes-more)

  named_more : (t : List ℕ) → slot_words * length es ≤ length t
      → put (put t 0 (words_of (placed 0 es))) (slot_words * length es) (words_of (slot_of (size_all es) e ∷ [])) ≡ put t 0 (words_of (placed 0 (es ++ (e ∷ []))))
  named_more t h =
      let ws : List ℕ = words_of (placed 0 es) in
      let w : List ℕ = words_of (slot_of (size_all es) e ∷ []) in
      let l : length ws ≡ slot_words * length es = words-length (placed 0 es) ∙ ap (λ (n : ℕ). slot_words * n) (placed-length 0 es) in
      let q : slot_words * length es ≡ 0 + length ws = omega arith in
      ap (λ (n : ℕ). put (put t 0 ws) n w) q ∙ put-put t 0 ws (omega arith) w
      ∙ ap (put t 0) (sym (ap words_of placed-more ∙ words_append (placed 0 es) (slot_of (size_all es) e ∷ [])))

-- ---- entries moved

moved_none : (t g : List ℕ) → Moved t g [] t g 0
unfolding placed words_of bytes_all size_all
moved_none t g = record { words = put-none t 0; bytes = put-none g 0; last = refl }

module _ {t g : List ℕ} {es : List Entry} {x y : List ℕ} {to : ℕ} (w : Moved t g es x y to) (slots : slot_words * length es ≤ length t) (room : size_all es ≤ length g) where
  words_are : length (words_of (placed 0 es)) ≡ slot_words * length es
  words_are = words-length (placed 0 es) ∙ ap (λ (n : ℕ). slot_words * n) (placed-length 0 es)

  pub moved_words : length x ≡ length t
  moved_words = ap length w.words ∙ length-put t 0 (words_of (placed 0 es)) (omega (arith, words_are))

  pub moved_bytes : length y ≡ length g
  moved_bytes = ap length w.bytes ∙ length-put g 0 (bytes_all es) (omega (arith, bytes-length es))

  -- the bytes and the slots behind them are as they were
  pub moved_past : drop to y ≡ drop to g
  moved_past =
      let b = bytes_all es in
      let q : length b ≡ to = bytes-length es ∙ sym w.last in
      ap (drop to) (w.bytes ∙ put_front g b) ∙ drop_at b (drop (length b) g) to q ∙ ap (λ (n : ℕ). drop n g) q

  moved_still : (i : ℕ) → length es ≡ i → slot_at x i ≡ slot_at t i
  unfolding slot_at
  moved_still i e =
      let b = words_of (placed 0 es) in
      let q : length b ≡ slot_words * i = words_are ∙ ap (λ (n : ℕ). slot_words * n) e in
      ap slot_head (ap (drop (slot_words * i)) (w.words ∙ put_front t b) ∙ drop_at b (drop (length b) t) (slot_words * i) q ∙ ap (λ (n : ℕ). drop n t) q)

  moved_more : (e : Entry) {x' y' : List ℕ} {to' : ℕ} → MovedOne x y (length es) to e x' y' to' → Moved t g (es ++ (e ∷ [])) x' y' to'
  moved_more e o = record {
    words = o.words ∙ rw (w.words, w.last) (named_more es e t slots);
    bytes = o.bytes ∙ rw (w.bytes, w.last) (laid_more es e g room);
    last = o.last ∙ rw w.last (sym (size_more es e));
  }

-- ---- one slot's

module _ (log t : List ℕ) (i to : ℕ) {s : Slot} (es : s ≡ slot_at t i) {key value : List ℕ} (ek : key ≡ key_of log s) (ev : value ≡ value_of log s) where
  entry-is : set key value ≡ entry_in log (slot_at t i)
  unfolding entry_in
  entry-is = rw (ek, ev, es)

  pub slot-room : (g : List ℕ) → to + size_of (entry_in log (slot_at t i)) ≤ length g → to + 8 + length key + length value ≤ length g
  slot-room g h = let q : size_of (set key value) ≡ size_of (entry_in log (slot_at t i)) = ap size_of entry-is in omega arith

  pub slot_moved : (g : List ℕ) {t' g' : List ℕ} {r : ℕ} → r ≡ to + size_of (set key (value ++ []))
      → t' ≡ put t (slot_words * i) (words_of (record { place = to + 1; klen = length key; vlen = length value } ∷ [])) → g' ≡ put g to (bytes_of (set key (value ++ [])))
      → MovedOne t g i to (entry_in log (slot_at t i)) t' g' r
  slot_moved g a b d =
      let n : value ++ [] ≡ value = append-nil value in
      record { words = b ∙ rw (add-one to, ← entry-is); bytes = d ∙ rw (n, ← entry-is); last = a ∙ rw (n, ← entry-is) }

-- ---- the loop

entries_at : (log : List ℕ) (ss : List Slot) (i : ℕ) → i < length ss → get_or (entries_of (view log ss)) i (entry_in log free_slot) ≡ entry_in log (get_or ss i free_slot)
unfolding entries_of view entry_in
entries_at log [] i h = absurd (omega arith)
entries_at log (s ∷ ss) zero h = refl
entries_at log (s ∷ ss) (suc i) h = entries_at log ss i (omega arith)

pub entries_length : (log : List ℕ) (ss : List Slot) → length (entries_of (view log ss)) ≡ length ss
unfolding entries_of view
entries_length log [] = refl
entries_length log (s ∷ ss) = ap suc (entries_length log ss)

-- the entries of the first i of n slots are moved
pub record Moving (log t g : List ℕ) (n : ℕ) (x y : List ℕ) (to i : ℕ) : Type 0 where
  pub near : i ≤ n
  pub done : Moved t g (take i (entries_of (view log (slots_of n t)))) x y to

module _ (log t g : List ℕ) (n : ℕ) where
  pub moving_start : Moving log t g n t g 0 0
  moving_start = record { near = omega arith; done = moved_none t g }

  abbrev all : List Entry
  all = entries_of (view log (slots_of n t))

  all-length : length all ≡ n
  all-length = entries_length log (slots_of n t) ∙ slots_length n t

  some_length : (i : ℕ) → i ≤ n → length (take i all) ≡ i
  some_length i h = length-take-le i all (omega (arith, all-length))

  some_more : (i : ℕ) → i < n → take (i + 1) all ≡ take i all ++ (entry_in log (slot_at t i) ∷ [])
  some_more i h =
      rw (add-one i, slot_at_is n t i h, ← entries_at log (slots_of n t) i (omega (arith, slots_length n t)))
      (take-suc all i (entry_in log free_slot) (omega (arith, all-length)))

  some_size : (i : ℕ) → size_all (take i all) ≤ size_all all
  some_size i =
      let e : size_all (take i all) + size_all (drop i all) ≡ size_all all = sym (size_append (take i all) (drop i all)) ∙ ap size_all (take-append-drop i all) in
      omega arith

  module _ {x y : List ℕ} {to i : ℕ} (w : Moving log t g n x y to i) (slots : slot_words * n ≤ length t) (room : size_all all ≤ length g) where
    slots_some : slot_words * length (take i all) ≤ length t
    slots_some = omega (arith, some_length i w.near, w.near)

    room_some : size_all (take i all) ≤ length g
    room_some = omega (arith, some_size i)

    pub moving_words : length x ≡ length t
    moving_words = moved_words w.done slots_some room_some

    pub moving_bytes : length y ≡ length g
    moving_bytes = moved_bytes w.done slots_some room_some

    pub moving_end : n ≤ i → Moved t g (entries_of (view log (slots_of n t))) x y to
    moving_end h = rw (take_all i all (omega (arith, all-length))) at w.done

    module _ (here : i < n) where
      still : slot_at x i ≡ slot_at t i
      still = moved_still w.done slots_some room_some i (some_length i w.near)

      pub moving_room : length g ≤ max_log → (slot_words * i + slot_words ≤ length x) × (to + size_of (entry_in log (slot_at x i)) ≤ length y) × (length y ≤ max_log)
      moving_room small =
          let a = moving_words in
          let b = moving_bytes in
          let e : size_all (take i all) + size_of (entry_in log (slot_at t i)) ≡ size_all (take (i + 1) all) = sym (ap size_all (some_more i here) ∙ size_more (take i all) (entry_in log (slot_at t i))) in
          let k = some_size (i + 1) in
          (omega arith, rw still (omega (arith, w.done.last)), omega arith)

      pub moving_more : {x' y' : List ℕ} {to' : ℕ} → MovedOne x y i to (entry_in log (slot_at x i)) x' y' to' → Moving log t g n x' y' to' (i + 1)
      moving_more q = record {
        near = omega arith;
        done = rw (some_more i here) (moved_more w.done slots_some room_some (entry_in log (slot_at t i)) (rw (some_length i w.near) (rw still at q)));
      }
