-- Laws of what stands at an offset of the log: its cases, the answers of the code that reads it, what a whole entry says, and on
-- which bytes it depends. Assumes nothing.
use Prim.Native.Nat.{ℕ, zero, suc, ◌+◌, ◌^◌, ◌<◌, ◌≤◌}
use mathlib.Core.Path.{◌≡◌, refl, sym, ap, ◌∙◌}
use mathlib.Core.Bool.{Bool, true, false}
use mathlib.Core.List.{List, [], ◌∷◌}
use native.Mathlib.Decide.{dec_lt}
use native.Mathlib.Nat.{lt_of_lt_of_le, pow-le-pow_right}
use native.Mathlib.Omega.{arith}
use lib.Dec.{leb, lit<}
use lib.ListN.{length, take, drop, length-take}
use lib.Seq.{take-take}
use borrow.Author.Tests.{le-leb, lt-leb}
use Rattle.std.specs.Prelude.{Option, ℕ, Some, None}
use Rattle.keycode.specs.Tests.{pick}
use Rattle.keycode.specs.Number.{num}
use Rattle.keycode.proofs.NumberLaws.{Bytes as AllBytes, bytes_take, bytes_drop, num-bound}
use Rattle.bitcask.specs.declared.entry.read.Lengths.{Lengths}
use Rattle.bitcask.specs.declared.entry.read.Lengths.TheVariants.{Set, Del}
use Rattle.bitcask.specs.entry.Length.{length_of}
use Rattle.bitcask.specs.entry.Reading.{word_at, headed, size_read, head_at, entry_at}

-- ---- a length as the code reads it

module _ (log : List ℕ) (at : ℕ) {part : List ℕ} (e : part ≡ take 4 (drop at log)) where
  four : length part ≤ 4
  four = rw (e, length-take) (omega arith)

  pub word_part : length part ≤ 8
  word_part = omega (arith, four)

  pub word_fits : AllBytes log → num part < 2 ^ 32
  word_fits b =
      lt_of_lt_of_le (num-bound part (rw e (bytes_take 4 (drop at log) (bytes_drop at log b))))
      (pow-le-pow_right {n = 256} (lit< tt) {i = length part} {j = 4} four)

  pub word_read : (n : ℕ) → n ≡ num part → n ≡ word_at log at
  unfolding word_at
  word_read n f = f ∙ ap num e

-- ---- the cases

both_stop : (b : Bool) → ◌≡◌ {A = Option Lengths} (pick b None None) None
both_stop true = refl
both_stop false = refl

headed_size : (k : ℕ) (l : Option ℕ) → 8 + k ≤ size_read (headed k l)
headed_size k (Some n) = omega arith
headed_size k None = omega arith

-- an announced entry has its header and its key at least
pub head_size : (log : List ℕ) (at : ℕ) → 8 + word_at log at ≤ size_read (head_at log at)
unfolding head_at
head_size log at = headed_size (word_at log at) (length_of (word_at log (at + 4)))

module _ (log : List ℕ) (used at : ℕ) where
  pub entry-short : used < at + 8 → entry_at log used at ≡ None
  unfolding entry_at
  entry-short h = rw (lt-leb (at + 8) used h)

  pub entry_cut : used < at + size_read (head_at log at) → entry_at log used at ≡ None
  unfolding entry_at
  entry_cut h = rw (lt-leb (at + size_read (head_at log at)) used h) (both_stop (leb (at + 8) used))

  pub entry_whole : at + size_read (head_at log at) ≤ used → entry_at log used at ≡ head_at log at
  unfolding entry_at
  entry_whole h =
      rw (le-leb (at + 8) used (omega (arith, head_size log at)), le-leb (at + size_read (head_at log at)) used h)

-- ---- the answers of the code, of what it has read

module _ (log : List ℕ) (used at : ℕ) {k : ℕ} (ek : k ≡ word_at log at) where
  pub read_keyless : used < at + 8 + k → None ≡ entry_at log used at
  read_keyless h = sym (entry_cut log used at (omega (arith, head_size log at)))

  module _ {w : ℕ} {l : Option ℕ} (ew : w ≡ word_at log (at + 4)) (el : l ≡ length_of w) where
    read_head : (r : Option Lengths) → headed k l ≡ r → r ≡ head_at log at
    unfolding head_at
    read_head r e = sym e ∙ rw (el, ew, ek)

    pub read_cut : (n : ℕ) → l ≡ Some n → used < at + 8 + k + n → None ≡ entry_at log used at
    read_cut n e h =
        let s : 8 + k + n ≡ size_read (head_at log at) = ap size_read (read_head (Some (Set k n)) (rw e)) in
        sym (entry_cut log used at (omega arith))

    pub read_set_lem : (n : ℕ) → l ≡ Some n → at + 8 + k + n ≤ used → (Some (Set k n)) ≡ entry_at log used at
    read_set_lem n e h =
        let q : (Some (Set k n)) ≡ head_at log at = read_head (Some (Set k n)) (rw e) in
        let s : 8 + k + n ≡ size_read (head_at log at) = ap size_read q in
        q ∙ sym (entry_whole log used at (omega arith))

    pub read_del : l ≡ None → at + 8 + k ≤ used → (Some (Del k)) ≡ entry_at log used at
    read_del e h =
        let q : (Some (Del k)) ≡ head_at log at = read_head (Some (Del k)) (rw e) in
        let s : 8 + k ≡ size_read (head_at log at) = ap size_read q in
        q ∙ sym (entry_whole log used at (omega arith))

-- ---- what is whole ends within the used length

module _ (log : List ℕ) (used at : ℕ) {r : Option Lengths} (e : entry_at log used at ≡ r) where
  -- a whole entry is the one that its header announces
  pub entry-says : (r ≡ None → ⊥) → (r ≡ head_at log at) × (at + size_read r ≤ used)
  entry-says f = go (dec_lt used (at + size_read (head_at log at)))
    where
      go : Dec (used < at + size_read (head_at log at)) → (r ≡ head_at log at) × (at + size_read r ≤ used)
      go (yes h) = absurd (f (sym e ∙ entry_cut log used at h))
      go (no g) =
          let q : r ≡ head_at log at = sym e ∙ entry_whole log used at (omega arith) in
          (q, rw q (omega arith))

  pub entry-within : at ≤ used → at + size_read r ≤ used
  entry-within m = go (dec_lt used (at + size_read (head_at log at)))
    where
      go : Dec (used < at + size_read (head_at log at)) → at + size_read r ≤ used
      go (yes h) = rw (sym e ∙ entry_cut log used at h) (omega arith)
      go (no g) = rw (sym e ∙ entry_whole log used at (omega arith)) (omega arith)

-- ---- logs that agree in their first `used` bytes

part_within : (o used n : ℕ) (s : List ℕ) → o + n ≤ used → take n (drop o (take used s)) ≡ take n (drop o s)
part_within zero used n s h = take-take n used s (omega arith)
part_within (suc o) zero n s h = absurd (omega arith)
part_within (suc o) (suc used) n [] h = refl
part_within (suc o) (suc used) n (x ∷ s) h = part_within o used n s (omega arith)

module _ (log log' : List ℕ) (used : ℕ) (agree : take used log ≡ take used log') where
  -- a part within those bytes is the same
  pub part_same : (o n : ℕ) → o + n ≤ used → take n (drop o log) ≡ take n (drop o log')
  part_same o n h =
      sym (part_within o used n log h) ∙ ap (λ (s : List ℕ). take n (drop o s)) agree ∙ part_within o used n log' h

  head_same : (at : ℕ) → at + 8 ≤ used → head_at log at ≡ head_at log' at
  unfolding head_at word_at
  head_same at h = rw (part_same at 4 (omega arith), part_same (at + 4) 4 (omega arith))

  -- what is whole stays the same entry where more bytes count
  pub entry-again : (used' at : ℕ) → used ≤ used' → (entry_at log used at ≡ None → ⊥) → entry_at log' used' at ≡ entry_at log used at
  entry-again used' at m f = go (entry_at log used at) (entry-says log used at refl f)
    where
      go : (r : Option Lengths) → (r ≡ head_at log at) × (at + size_read r ≤ used) → entry_at log' used' at ≡ r
      go r w =
          let n : size_read r ≡ size_read (head_at log at) = ap size_read w.0 in
          let q : head_at log at ≡ head_at log' at = head_same at (omega (arith, head_size log at, w.1)) in
          let l : size_read (head_at log at) ≡ size_read (head_at log' at) = ap size_read q in
          entry_whole log' used' at (omega (arith, w.1)) ∙ sym (w.0 ∙ q)
