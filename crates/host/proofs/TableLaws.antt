-- Laws of slots put into a table's words and taken out, by a move of slots and one slot laid. Assumes nothing.
use Prim.Native.Nat.{ℕ, ◌+◌, ◌-◌, ◌*◌, ◌<◌, ◌≤◌}
use mathlib.Core.Path.{◌≡◌, ap, ◌∙◌}
use mathlib.Core.List.{List, [], ◌∷◌, ◌++◌}
use native.Mathlib.Omega.{arith}
use lib.ListN.{length, drop, replicate}
use lib.Seq.{slice, length-slice}
use Rattle.keycode.specs.Buffer.{put}
use Rattle.keycode.proofs.BufferLaws.{length-put}
use Rattle.bitcask.specs.keydir.Words.{copied}
use Rattle.bitcask.specs.keydir.Slots.{slot_words, free_slot, slots_of, words_of, insert_at, remove_at}
use Rattle.bitcask.specs.declared.keydir.slots.Slot.{Slot}
use Rattle.bitcask.proofs.keydir.SlotLaws.{insert_is, remove_is}

-- slots moved leave the table its length
pub copied-length : (w : List ℕ) (f t g : ℕ) → f ≤ t → slot_words * t ≤ length w → slot_words * (g + (t - f)) ≤ length w → length (copied w (slot_words * f) (slot_words * t) (slot_words * g)) ≡ length w
unfolding copied
copied-length w f t g h k m =
    let l = length-slice (slot_words * f) (slot_words * t) w k in length-put w (slot_words * g) (slice (slot_words * f) (slot_words * t) w) (omega arith)

-- room made before the i-th of n slots, and a slot laid there
pub inserted : (w : List ℕ) (n i : ℕ) (s : Slot) {w₁ w₂ : List ℕ} → i ≤ n → slot_words * n + slot_words ≤ length w
    → w₁ ≡ copied w (slot_words * i) (slot_words * n) (slot_words * (i + 1)) → w₂ ≡ put w₁ (slot_words * i) (words_of (s ∷ []))
    → w₂ ≡ words_of (insert_at i s (slots_of n w)) ++ drop (slot_words * n + slot_words) w
inserted w n i s h k e f =
    let x : slot_words * (i + 1) ≡ slot_words * i + slot_words = omega arith in
    f ∙ ap (λ (u : List ℕ). put u (slot_words * i) (words_of (s ∷ []))) (e ∙ ap (copied w (slot_words * i) (slot_words * n)) x) ∙ insert_is w n i s h k

-- the gap of the i-th of n slots closed, and the last cleared
pub removed : (w : List ℕ) (n i : ℕ) {w₁ w₂ : List ℕ} → i < n → slot_words * n ≤ length w
    → w₁ ≡ copied w (slot_words * (i + 1)) (slot_words * n) (slot_words * i) → w₂ ≡ put w₁ (slot_words * (n - 1)) (words_of (free_slot ∷ []))
    → w₂ ≡ words_of (remove_at i (slots_of n w)) ++ (replicate slot_words 0 ++ drop (slot_words * n) w)
removed w n i h k e f =
    let x : slot_words * (i + 1) ≡ slot_words * i + slot_words = omega arith in
    let y : slot_words * n ≡ slot_words * (n - 1) + slot_words = omega arith in
    f ∙ ap (λ (u : List ℕ). put u (slot_words * (n - 1)) (words_of (free_slot ∷ []))) (e ∙ rw (x, ← y)) ∙ remove_is w n k i h
