-- Laws of words copied within a table: that the library's `copy_within` is that, a turn of a loop that moves by w words or clears, a run
-- laid right before another, and that a part of a table moved or cleared is one of the whole. Assumes nothing.
use Prim.Native.Nat.{ℕ, zero, suc, ◌+◌, ◌-◌, ◌<◌, ◌≤◌}
use mathlib.Core.Path.{◌≡◌, refl, sym, ap, ◌∙◌}
use mathlib.Core.List.{List, [], ◌∷◌, ◌++◌, append_assoc, append-nil}
use native.Mathlib.Omega.{arith}
use native.Mathlib.Nat.{add_assoc, zero-add, suc-add}
use native.Mathlib.Numerals.{add-one}
use borrow.Author.Fill.{fill_more}
use lib.ListN.{length, take, drop, get_or, set, replicate, length-append, length-take, length-drop, length-replicate, get_or-append, drop_of_length-le, take-append-drop}
use lib.Seq.{drop-drop, take-add, take_all, take-nil, drop-nil, slice, slice_empty, slice-cons, take-suc, length-take-le, get_or-take, get_or-drop, get_or-append-add, drop-append-le, length-slice, take-append-le, take-take, drop_at}
use Rattle.std.specs.List.{copy_within}
use Rattle.keycode.specs.Buffer.{put}
use Rattle.keycode.proofs.BufferLaws.{set-put, put-none, put-before, put-put, length-put}
use Rattle.bitcask.specs.keydir.Words.{copied}

-- ---- words outside a run that is laid stay

put-below : (d : List ℕ) (at : ℕ) (xs : List ℕ) (i : ℕ) → i < at → at ≤ length d → get_or (put d at xs) i 0 ≡ get_or d i 0
unfolding put
put-below d at xs i h k =
    let l : length (take at d) ≡ at = length-take-le at d k in
    rw append_assoc (get_or-append (take at d) (xs ++ drop (at + length xs) d) 0 i (omega arith) ∙ get_or-take at d i 0 h)

put_above : (d : List ℕ) (at : ℕ) (xs : List ℕ) (m : ℕ) → at + length xs ≤ length d → get_or (put d at xs) (at + length xs + m) 0 ≡ get_or d (at + length xs + m) 0
unfolding put
put_above d at xs m h =
    let n : length (take at d ++ xs) ≡ at + length xs = simp (length-append, length-take) (omega arith) in
    ap (λ (k : ℕ). get_or (take at d ++ xs ++ drop (at + length xs) d) (k + m) 0) (sym n)
    ∙ get_or-append-add (take at d ++ xs) (drop (at + length xs) d) m 0
    ∙ get_or-drop (at + length xs) d m 0

-- a run laid right before another
pub put_first : (d : List ℕ) (at : ℕ) (xs ys : List ℕ) → at + length xs ≤ length d → put (put d (at + length xs) ys) at xs ≡ put d at (xs ++ ys)
unfolding put
put_first d at xs ys h =
    let n : ℕ = at + length xs in
    let z : List ℕ = ys ++ drop (n + length ys) d in
    let l : length (take n d) ≡ n = length-take-le n d h in
    let e : take n d ++ ys ++ drop (n + length ys) d ≡ take n d ++ z = append_assoc (take n d) ys (drop (n + length ys) d) in
    rw (e, take-append-le at (take n d) z (omega arith), take-take at n d (omega arith), drop_at (take n d) z n l)
    (simp (length-append, append_assoc, add_assoc))

-- ---- the loops

module _ (l : List ℕ) where
  pub copy_none : (t g : ℕ) → l ≡ copied l t t g
  unfolding copied
  copy_none t g = put-none l g ∙ ap (put l g) (sym (slice_empty t l))

  -- where the words stand already
  pub copy_self : (f t g : ℕ) → g ≡ f → f ≤ t → t ≤ length l → l ≡ copied l f t g
  unfolding copied put
  copy_self f t g e h k =
      let n : f + length (slice f t l) ≡ t = omega (arith, length-slice f t l k) in
      let q : take f l ++ slice f t l ≡ take t l = ap (λ (x : List ℕ). x ++ slice f t l) (sym (take-take f t l h)) ∙ take-append-drop f (take t l) in
      sym (rw (e, n, q) (take-append-drop t l))

  -- the library's words for it
  pub within_is : (f t g : ℕ) {x : List ℕ} → f ≤ t → t ≤ length l → x ≡ copy_within l f t g → x ≡ copied l f t g
  unfolding copied put
  within_is f t g h k e =
      let n : f + (t - f) ≡ t = omega arith in
      let c : take t l ≡ take f l ++ take (t - f) (drop f l) = ap (λ (m : ℕ). take m l) (sym n) ∙ take-add f (t - f) l in
      let s : slice f t l ≡ take (t - f) (drop f l) = ap (drop f) c ∙ drop_at (take f l) (take (t - f) (drop f l)) f (length-take-le f l (omega arith)) in
      let d : length (take (t - f) (drop f l)) ≡ t - f = ap length (sym s) ∙ length-slice f t l k in
      e ∙ sym (rw (s, d) refl)

  -- the words below i are cleared
  pub clear_turn : (x : List ℕ) (i : ℕ) → x ≡ replicate i 0 ++ drop i l → i < length l → set x i 0 ≡ replicate (i + 1) 0 ++ drop (i + 1) l
  clear_turn x i e h = ap (λ (r : List ℕ). set r i 0) e ∙ fill_more i 0 l h

  pub clear_end : (x : List ℕ) (i : ℕ) → x ≡ replicate i 0 ++ drop i l → i ≤ length l → length l ≤ i → x ≡ replicate (length l) 0
  clear_end x i e h k = let q : i ≡ length l = omega arith in e ∙ rw (q, drop_of_length-le l {i = length l} (omega arith), append-nil)

module _ (w : ℕ) (l : List ℕ) where
  up_more : (j t : ℕ) → j < t → t + w ≤ length l → set (copied l (j + 1) t (j + 1 + w)) (j + w) (get_or (copied l (j + 1) t (j + 1 + w)) j 0) ≡ copied l j t (j + w)
  unfolding copied
  up_more j t h k =
      let n = length-slice (j + 1) t l (omega arith) in
      let e : j + 1 + w ≡ j + w + 1 = omega arith in
      let r : get_or (put l (j + 1 + w) (slice (j + 1) t l)) j 0 ≡ get_or l j 0 = put-below l (j + 1 + w) (slice (j + 1) t l) j (omega arith) (omega arith) in
      let s : slice j t l ≡ get_or l j 0 ∷ slice (j + 1) t l = rw add-one (slice-cons j t l 0 h (omega arith)) in
      rw (r, e, s) (put-before l (j + w) (get_or l j 0) (slice (j + 1) t l) (omega arith))

  pub up_turn : (x : List ℕ) (j t : ℕ) → x ≡ copied l j t (j + w) → 0 < j → j ≤ t → t + w ≤ length l → set x (j - 1 + w) (get_or x (j - 1) 0) ≡ copied l (j - 1) t (j - 1 + w)
  up_turn x j t e p h k =
      let q : j ≡ j - 1 + 1 = omega arith in
      let g : x ≡ copied l (j - 1 + 1) t (j - 1 + 1 + w) = e ∙ ap (λ (n : ℕ). copied l n t (n + w)) q in
      rw g (up_more (j - 1) t (omega arith) k)

  -- a run with one word more
  run_more : (f j : ℕ) → f ≤ j → j < length l → slice f (suc j) l ≡ slice f j l ++ (get_or l j 0 ∷ [])
  run_more f j h k =
      let m : length (take j l) ≡ j = length-take-le j l (omega arith) in
      rw (take-suc l j 0 k) (drop-append-le f (take j l) (get_or l j 0 ∷ []) (omega arith))

  down_more : (f j : ℕ) → f ≤ j → j + w < length l → set (copied l (f + w) (j + w) f) j (get_or (copied l (f + w) (j + w) f) (j + w) 0) ≡ copied l (f + w) (j + 1 + w) f
  unfolding copied
  down_more f j h k =
      let xs : List ℕ = slice (f + w) (j + w) l in
      let v : ℕ = get_or l (j + w) 0 in
      let n = length-slice (f + w) (j + w) l (omega arith) in
      let m = length-put l f xs (omega arith) in
      let a : f + length xs ≡ j = omega arith in
      let e : j + 1 + w ≡ suc (j + w) = omega arith in
      ap (λ (y : ℕ). set (put l f xs) j y) (rw a at (put_above l f xs w (omega arith)))
      ∙ set-put (put l f xs) j v (omega arith)
      ∙ (rw a at (put-put l f xs (omega arith) (v ∷ [])))
      ∙ rw e (ap (put l f) (sym (run_more (f + w) (j + w) (omega arith) k)))

  pub down_turn : (x : List ℕ) (f j : ℕ) → x ≡ copied l (f + w) (j + w) f → f ≤ j → j + w < length l → set x j (get_or x (j + w) 0) ≡ copied l (f + w) (j + 1 + w) f
  down_turn x f j e h k = rw e (down_more f j h k)

-- ---- a move within a part is one within the whole

put_part : (l : List ℕ) (at g : ℕ) (xs : List ℕ) → take at l ++ put (drop at l) g xs ≡ put l (at + g) xs
unfolding put
put_part l at g xs =
    rw (drop-drop (g + length xs) at l, take-add at g l)
    (simp (append_assoc, add_assoc))

part_slice : (l : List ℕ) (at f t : ℕ) → slice f t (drop at l) ≡ slice (at + f) (at + t) l
part_slice l zero f t = rw (zero-add f, zero-add t)
part_slice [] (suc at) f t = rw (take-nil t, take-nil (suc at + t), drop-nil f, drop-nil (suc at + f))
part_slice (x ∷ l) (suc at) f t = rw (suc-add at f, suc-add at t) (part_slice l at f t)

copied_part : (l : List ℕ) (at f t g : ℕ) → take at l ++ copied (drop at l) f t g ≡ copied l (at + f) (at + t) (at + g)
unfolding copied
copied_part l at f t g = rw (part_slice l at f t) (put_part l at g (slice (at + f) (at + t) l))

-- what a call on the part from index at on leaves of the whole
pub lent : (l : List ℕ) (at f t g : ℕ) {x : List ℕ} → x ≡ copied (take (length l - at) (drop at l)) f t g
    → take at l ++ (x ++ drop (length l - at) (drop at l)) ≡ copied l (at + f) (at + t) (at + g)
lent l at f t g e =
    let n : length (drop at l) ≡ length l - at = length-drop at l in
    rw (e, take_all (length l - at) (drop at l) (omega arith), drop_of_length-le (drop at l) {i = length l - at} (omega arith), append-nil) (copied_part l at f t g)

-- the library's move of the first n words of a part
module _ (w : ℕ) (l : List ℕ) (at n : ℕ) where
  part_long : at + n ≤ length l → n ≤ length (take (length l - at) (drop at l))
  part_long h = let d = length-drop at l in omega (arith, length-take-le (length l - at) (drop at l) (omega arith))

  pub part_up : at + n ≤ length l → {x : List ℕ} → x ≡ copy_within (take (length l - at) (drop at l)) 0 n w
      → take at l ++ (x ++ drop (length l - at) (drop at l)) ≡ copied l at (at + n) (at + w)
  part_up h e =
      let p : at + 0 ≡ at = omega arith in
      lent l at 0 n w (within_is (take (length l - at) (drop at l)) 0 n w (omega arith) (part_long h) e) ∙ rw p refl

  pub part_down : w ≤ n → at + n ≤ length l → {x : List ℕ} → x ≡ copy_within (take (length l - at) (drop at l)) w n 0
      → take at l ++ (x ++ drop (length l - at) (drop at l)) ≡ copied l (at + w) (at + n) at
  part_down g h e =
      let p : at + 0 ≡ at = omega arith in
      lent l at w n 0 (within_is (take (length l - at) (drop at l)) w n 0 g (part_long h) e) ∙ rw p refl

-- a part, cleared
module _ (l : List ℕ) (at end : ℕ) (h : at ≤ end) (g : end ≤ length l) {x : List ℕ} (e : x ≡ replicate (length (take (end - at) (drop at l))) 0) where
  pub cleared : take at l ++ (x ++ drop (end - at) (drop at l)) ≡ put l at (replicate (end - at) 0)
  unfolding put
  cleared =
      let d : length (drop at l) ≡ length l - at = length-drop at l in
      let n : length (take (end - at) (drop at l)) ≡ end - at = length-take-le (end - at) (drop at l) (omega arith) in
      let r : length (replicate {A = ℕ} (end - at) 0) ≡ end - at = length-replicate (end - at) 0 in
      rw (e, n, drop-drop (end - at) at l, r) (simp append_assoc)
