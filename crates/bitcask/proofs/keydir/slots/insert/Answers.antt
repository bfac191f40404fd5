-- `insert` makes room and lays a slot there.
use Prim.Native.Nat.{ℕ, ◌+◌, ◌-◌, ◌*◌}
use mathlib.Core.Path.{◌≡◌, ap, ◌∙◌}
use mathlib.Core.List.{List, [], ◌∷◌}
use native.Mathlib.Omega.{arith}
use Rattle.keycode.specs.Buffer.{put}
use Rattle.bitcask.specs.keydir.Slots.{slot_words, words_of}
use Rattle.bitcask.specs.keydir.Words.{copied}
use Rattle.bitcask.proofs.keydir.WordLaws.{part_up}
use Rattle.bitcask.proofs.keydir.SlotLaws.{insert_is}
use Rattle.bitcask.proofs.keydir.slots.insert.Goals as goal

pub returns : goal.returns
returns c =
    let a = c.args in
    let t = a.table.now in
    let q = c.requires in
    let e : slot_words * a.i + slot_words * (a.count - a.i) ≡ slot_words * a.count = omega (arith, q.0) in
    c.store.ensures
    ∙ ap (λ (x : List ℕ). put x (slot_words * a.i) (words_of (a.s ∷ [])))
    (part_up slot_words t (slot_words * a.i) (slot_words * (a.count - a.i)) (omega (arith, q.1)) c.copy_within.ensures.after
    ∙ ap (λ (n : ℕ). copied t (slot_words * a.i) n (slot_words * a.i + slot_words)) e)
    ∙ insert_is t a.count a.i a.s q.0 q.1
