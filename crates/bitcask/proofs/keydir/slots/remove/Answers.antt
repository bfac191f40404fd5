-- `remove` closes the gap and clears the last slot's words.
use Prim.Native.Nat.{ℕ, ◌+◌, ◌-◌, ◌*◌}
use mathlib.Core.Path.{◌≡◌, ap, ◌∙◌}
use mathlib.Core.List.{List, [], ◌∷◌}
use native.Mathlib.Omega.{arith}
use Rattle.keycode.specs.Buffer.{put}
use Rattle.bitcask.specs.keydir.Slots.{slot_words, free_slot, words_of}
use Rattle.bitcask.specs.keydir.Words.{copied}
use Rattle.bitcask.proofs.keydir.WordLaws.{part_down}
use Rattle.bitcask.proofs.keydir.SlotLaws.{remove_is}
use Rattle.bitcask.proofs.keydir.slots.remove.Goals as goal

pub returns : goal.returns
returns c =
    let a = c.args in
    let t = a.table.now in
    let q = c.requires in
    let e : slot_words * a.i + slot_words * (a.count - a.i) ≡ slot_words * (a.count - 1) + slot_words = omega (arith, q.0) in
    c.store.ensures
    ∙ ap (λ (x : List ℕ). put x (slot_words * (a.count - 1)) (words_of (free_slot ∷ [])))
    (part_down slot_words t (slot_words * a.i) (slot_words * (a.count - a.i)) (omega (arith, q.0)) (omega (arith, q.0, q.1)) c.copy_within.ensures.after
    ∙ ap (λ (n : ℕ). copied t (slot_words * a.i + slot_words) n (slot_words * a.i)) e)
    ∙ remove_is t a.count q.1 a.i q.0
