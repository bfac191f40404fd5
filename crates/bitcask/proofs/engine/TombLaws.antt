-- A tombstone whose key stands in the log: its bytes copied up within the log, and the whole entry. Assumes nothing.
use Prim.Native.Nat.{ℕ, ◌+◌, ◌-◌, ◌^◌, ◌≤◌}
use mathlib.Core.Path.{◌≡◌, sym, ap, ◌∙◌}
use mathlib.Core.List.{List, ◌++◌}
use native.Mathlib.Omega.{arith}
use lib.ListN.{length, take, drop, length-drop}
use lib.Seq.{length-take-le}
use Rattle.std.specs.List.{copy_within}
use Rattle.keycode.specs.Buffer.{put}
use Rattle.keycode.specs.Number.{be}
use Rattle.keycode.proofs.BufferLaws.{put-put, length-put}
use Rattle.keycode.proofs.NumberLaws.{length-be}
use Rattle.bitcask.specs.entry.Entry.{del, bytes_of}
use Rattle.bitcask.proofs.entry.EntryLaws.{head_laid, del-laid, laid-before}
use Rattle.bitcask.proofs.entry.ReadingLaws.{part_same}

-- ---- bytes copied up

pub copied : (d : List ℕ) (from to len : ℕ) → from + len ≤ length d → copy_within d from (from + len) to ≡ put d to (take len (drop from d))
unfolding put
copied d from to len h =
    let q : from + len - from ≡ len = omega arith in
    let l : length (take len (drop from d)) ≡ len = length-take-le len (drop from d) (omega (arith, length-drop from d)) in
    rw (q, l)

-- ---- the entry

module _ (d : List ℕ) (at from len : ℕ) (below : from + len ≤ at) (room : at + 8 + len ≤ length d) where
  abbrev key : List ℕ
  key = take len (drop from d)

  pub key-long : length key ≡ len
  key-long = length-take-le len (drop from d) (rw (length-drop from d) (omega arith))

  pub tomb_laid : {d₁ d₂ d₃ : List ℕ} → d₁ ≡ put d at (be 4 len) → d₂ ≡ put d₁ (at + 4) (be 4 (2 ^ 32 - 1)) → d₃ ≡ put d₂ (at + 8) (take len (drop from d₂)) → d₃ ≡ put d at (bytes_of (del key))
  tomb_laid {d₁} {d₂} {d₃} e f g =
      let n₁ = length-be 4 len in
      let n₂ = length-be 4 (2 ^ 32 - 1) in
      let l₁ : length d₁ ≡ length d = ap length e ∙ length-put d at (be 4 len) (omega arith) in
      let q : at + 4 ≡ at + length (be 4 len) = omega arith in
      let s₂ : d₂ ≡ put d at (be 4 len ++ be 4 (2 ^ 32 - 1)) =
      f ∙ ap (λ (r : List ℕ). put r (at + 4) (be 4 (2 ^ 32 - 1))) e ∙ ap (λ (i : ℕ). put (put d at (be 4 len)) i (be 4 (2 ^ 32 - 1))) q ∙ put-put d at (be 4 len) (omega arith) (be 4 (2 ^ 32 - 1)) in
      let agree : take at d₂ ≡ take at d = ap (λ (r : List ℕ). take at r) s₂ ∙ laid-before d at (be 4 len ++ be 4 (2 ^ 32 - 1)) (omega arith) in
      let same : take len (drop from d₂) ≡ key = part_same d₂ d at agree from len below in
      del-laid d at key
      (head_laid d at key (2 ^ 32 - 1) (omega (arith, key-long)) (e ∙ ap (λ (n : ℕ). put d at (be 4 n)) (sym key-long)) f (g ∙ ap (put d₂ (at + 8)) same))
