-- Laws of an entry's bytes: their number, how a writer lays them piece by piece, and that what was laid is read back.
-- Assumes nothing.
use Prim.Native.Nat.{ℕ, ◌+◌, ◌-◌, ◌^◌, ◌<◌, ◌≤◌}
use mathlib.Core.Path.{◌≡◌, refl, sym, ap, ◌∙◌}
use mathlib.Core.List.{List, [], ◌∷◌, ◌++◌, append_assoc, append-nil}
use native.Mathlib.Numerals.{add-one}
use native.Mathlib.Omega.{arith}
use lib.ListN.{length, take, drop, get_or, set, length-append}
use lib.Seq.{drop-drop, drop-cons, take_at, drop_at, length-take-le}
use Rattle.keycode.specs.Limits.{max_log}
use Rattle.keycode.specs.Number.{be}
use Rattle.keycode.specs.Buffer.{put}
use Rattle.keycode.proofs.NumberLaws.{length-be, num-be}
use Rattle.keycode.proofs.BufferLaws.{Laying, lay-more, lay-room, set-put, put-put}
use Rattle.bitcask.specs.entry.Length.{length_of}
use Rattle.bitcask.specs.entry.Entry.{Entry, set as set_entry, del as del_entry, entry_key, entry_value, entry_bits, bytes_of, size_of}
use Rattle.bitcask.specs.entry.Reading.{word_at, headed, size_read, head_at, entry_at, read_of}
use Rattle.bitcask.proofs.entry.LengthLaws.{length-small, length-gone}
use Rattle.bitcask.proofs.entry.ReadingLaws.{entry_whole}

pub length-bytes : (e : Entry) → length (bytes_of e) ≡ size_of e
unfolding bytes_of
length-bytes e = simp (length-append, length-be)

-- ---- laying the bytes

-- a byte more of a run that is copied
module _ (src : List ℕ) (i : ℕ) {d : List ℕ} {at : ℕ} {all out : List ℕ} {o : ℕ} (w : Laying d at all out o (drop i src)) (h : i < length src) where
  next_byte : drop i src ≡ (get_or src i 0 ∷ []) ++ drop (i + 1) src
  next_byte = rw (add-one, drop-cons src i 0)

  pub copy_room : o < length out
  copy_room = omega (arith, lay-room w (get_or src i 0 ∷ []) (drop (i + 1) src) next_byte)

  pub copy_turn : Laying d at all (set out o (get_or src i 0)) (o + 1) (drop (i + 1) src)
  copy_turn =
      lay-more w (get_or src i 0 ∷ []) (drop (i + 1) src) (set out o (get_or src i 0)) (o + 1) next_byte refl (set-put out o (get_or src i 0) copy_room)

-- a part with a run copied over it
pub part_laid : (d : List ℕ) (at : ℕ) (xs : List ℕ) {x : List ℕ} → x ≡ xs → take at d ++ (x ++ drop (at + length xs - at) (drop at d)) ≡ put d at xs
unfolding put
part_laid d at xs e =
    let n : at + length xs - at ≡ length xs = omega arith in
    rw (e, n, drop-drop (length xs) at d) (simp append_assoc)

-- a run that one call laid behind another's
laid_more : (d : List ℕ) (at : ℕ) {d₁ d₂ : List ℕ} {o : ℕ} (xs ys : List ℕ) → at + length xs ≤ length d → o ≡ at + length xs
    → d₁ ≡ put d at xs → d₂ ≡ put d₁ o ys → d₂ ≡ put d at (xs ++ ys)
laid_more d at xs ys h q e f = f ∙ rw (e, q) (put-put d at xs h ys)

module _ (d : List ℕ) (at : ℕ) (key : List ℕ) where
  -- the two lengths and the key
  pub head_laid : (bits : ℕ) {d₁ d₂ d₃ : List ℕ} → at + 8 + length key ≤ length d
      → d₁ ≡ put d at (be 4 (length key)) → d₂ ≡ put d₁ (at + 4) (be 4 bits) → d₃ ≡ put d₂ (at + 8) key
      → d₃ ≡ put d at (be 4 (length key) ++ be 4 bits ++ key)
  head_laid bits h e f g =
      let m = length-be 4 (length key) in
      let n = length-be 4 bits in
      let l = length-append (be 4 (length key)) (be 4 bits) in
      laid_more d at (be 4 (length key) ++ be 4 bits) key (omega arith) (omega arith)
      (laid_more d at (be 4 (length key)) (be 4 bits) (omega arith) (omega arith) e f) g

  -- a value in two parts behind them
  pub set-laid : (head body : List ℕ) {bits o p : ℕ} {d₁ d₂ d₃ : List ℕ} → at + 8 + length key + length head + length body ≤ length d
      → bits ≡ length head + length body → o ≡ at + 8 + length key → p ≡ o + length head
      → d₁ ≡ put d at (be 4 (length key) ++ be 4 bits ++ key) → d₂ ≡ put d₁ o head → d₃ ≡ put d₂ p body
      → d₃ ≡ put d at (bytes_of (set_entry key (head ++ body)))
  unfolding bytes_of
  set-laid head body {bits} h b q r e f g =
      let xs : List ℕ = be 4 (length key) ++ be 4 bits ++ key in
      let n : length xs ≡ 8 + length key = simp (length-append, length-be) in
      let m = length-append xs head in
      laid_more d at (xs ++ head) body (omega arith) (omega arith) (laid_more d at xs head (omega arith) (omega arith) e f) g
      ∙ rw (b, length-append head body) (simp append_assoc)

  pub del-laid : {d₁ : List ℕ} → d₁ ≡ put d at (be 4 (length key) ++ be 4 (2 ^ 32 - 1) ++ key) → d₁ ≡ put d at (bytes_of (del_entry key))
  unfolding bytes_of
  del-laid e = e ∙ ap (put d at) (sym (append-nil (be 4 (length key) ++ be 4 (2 ^ 32 - 1) ++ key)))

-- the bytes before what was laid stay, so that `entry-again` holds of an append
pub laid-before : (d : List ℕ) (at : ℕ) (xs : List ℕ) → at ≤ length d → take at (put d at xs) ≡ take at d
unfolding put
laid-before d at xs h =
    let rest = drop (at + length xs) d in
    rw (append_assoc (take at d) xs rest) (take_at (take at d) (xs ++ rest) at (length-take-le at d h))

-- ---- reading them back

-- a run within what was laid is read back
laid_part : (d : List ℕ) (at : ℕ) (all xs ys zs : List ℕ) (o n : ℕ) → at ≤ length d → all ≡ xs ++ (ys ++ zs) → o ≡ at + length xs → n ≡ length ys
    → take n (drop o (put d at all)) ≡ ys
unfolding put
laid_part d at all xs ys zs o n h e q m =
    let rest = drop (at + length all) d in
    let p : length (take at d ++ xs) ≡ o = length-append (take at d) xs ∙ ap (λ (i : ℕ). i + length xs) (length-take-le at d h) ∙ sym q in
    let s : take at d ++ all ++ rest ≡ (take at d ++ xs) ++ (ys ++ (zs ++ rest)) = ap (λ (b : List ℕ). take at d ++ b ++ rest) e ∙ simp append_assoc in
    rw (s, drop_at (take at d ++ xs) (ys ++ (zs ++ rest)) o p, take_at ys (zs ++ rest) n (sym m))

headed-entry : (e : Entry) → size_of e ≤ max_log → headed (length (entry_key e)) (length_of (entry_bits e)) ≡ read_of e
headed-entry (set_entry k v) h = rw (length-small (length v) (omega arith))
headed-entry (del_entry k) h = rw length-gone

bits_fit : (e : Entry) → size_of e ≤ max_log → entry_bits e < 2 ^ 32
bits_fit (set_entry k v) h = omega arith
bits_fit (del_entry k) h = omega arith

pub size_read_lem : (e : Entry) → size_read (read_of e) ≡ size_of e
size_read_lem (set_entry k v) = refl
size_read_lem (del_entry k) = omega arith

module _ (log : List ℕ) (at : ℕ) (e : Entry) (small : size_of e ≤ max_log) (room : at + size_of e ≤ length log) where
  key-word : word_at (put log at (bytes_of e)) at ≡ length (entry_key e)
  unfolding word_at bytes_of
  key-word =
      let n = length (entry_key e) in
      rw (laid_part log at (bytes_of e) [] (be 4 n) (be 4 (entry_bits e) ++ (entry_key e ++ entry_value e)) at 4 (omega arith) (simp append_assoc) (omega arith) (sym (length-be 4 n)))
      (num-be 4 n (omega arith))

  value-word : word_at (put log at (bytes_of e)) (at + 4) ≡ entry_bits e
  unfolding word_at bytes_of
  value-word =
      let n = length (entry_key e) in
      let l = length-be 4 n in
      rw (laid_part log at (bytes_of e) (be 4 n) (be 4 (entry_bits e)) (entry_key e ++ entry_value e) (at + 4) 4 (omega arith) (simp append_assoc) (omega arith) (sym (length-be 4 (entry_bits e))))
      (num-be 4 (entry_bits e) (bits_fit e small))

  head_back : head_at (put log at (bytes_of e)) at ≡ read_of e
  unfolding head_at
  head_back = rw (key-word, value-word) (headed-entry e small)

  -- the entry stands there, whole
  pub entry-back : (used : ℕ) → at + size_of e ≤ used → entry_at (put log at (bytes_of e)) used at ≡ read_of e
  entry-back used h =
      let n : size_read (head_at (put log at (bytes_of e)) at) ≡ size_of e = ap size_read head_back ∙ size_read_lem e in
      entry_whole (put log at (bytes_of e)) used at (omega arith) ∙ head_back

  -- and its key and its value, none for a tombstone
  pub key_back : take (length (entry_key e)) (drop (at + 8) (put log at (bytes_of e))) ≡ entry_key e
  unfolding bytes_of
  key_back =
      let n = length (entry_key e) in
      let l : length (be 4 n ++ be 4 (entry_bits e)) ≡ 8 = simp (length-append, length-be) in
      laid_part log at (bytes_of e) (be 4 n ++ be 4 (entry_bits e)) (entry_key e) (entry_value e) (at + 8) n (omega arith) (simp append_assoc) (omega arith) refl

  pub value-back : take (length (entry_value e)) (drop (at + 8 + length (entry_key e)) (put log at (bytes_of e))) ≡ entry_value e
  unfolding bytes_of
  value-back =
      let n = length (entry_key e) in
      let l : length (be 4 n ++ be 4 (entry_bits e) ++ entry_key e) ≡ 8 + n = simp (length-append, length-be) in
      laid_part log at (bytes_of e) (be 4 n ++ be 4 (entry_bits e) ++ entry_key e) (entry_value e) [] (at + 8 + n) (length (entry_value e)) (omega arith) (simp (append_assoc, append-nil)) (omega arith) refl
