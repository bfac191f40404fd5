-- `move_slot` reads the slot's key and value, lays their entry and renames the slot.
use Prim.Native.Nat.{◌*◌}
use mathlib.Core.Path.{ap, ◌∙◌}
use mathlib.Core.List.{[], ◌∷◌}
use Rattle.keycode.specs.Buffer.{put}
use Rattle.bitcask.specs.declared.keydir.slots.Slot.{Slot}
use Rattle.bitcask.specs.keydir.Slots.{slot_words, words_of}
use Rattle.bitcask.proofs.compaction.MoveLaws.{slot-room, slot_moved}
use native.Mathlib.Omega.{arith}
use Rattle.bitcask.proofs.compaction.move_slot.Goals as goal

pub put_set-end-requires : goal.put_set-end-requires
put_set-end-requires c = let a = c.args in let h = slot-room a.log.now a.table.now a.i a.to c.slot_at-s.ensures c.key_of-key.ensures c.value_of-value.ensures a.target.now c.requires.1 in (omega arith, c.requires.2)

pub of_entry-requires : goal.of_entry-requires
of_entry-requires c = let a = c.args in let h = slot-room a.log.now a.table.now a.i a.to c.slot_at-s.ensures c.key_of-key.ensures c.value_of-value.ensures a.target.now c.requires.1 in omega (arith, c.requires.2)

pub returns : goal.returns
returns c = let a = c.args in slot_moved a.log.now a.table.now a.i a.to c.slot_at-s.ensures c.key_of-key.ensures c.value_of-value.ensures a.target.now c.put_set-end.ensures.0 (c.store.ensures ∙ ap (λ (x : Slot). put a.table.now (slot_words * a.i) (words_of (x ∷ []))) c.of_entry.ensures) c.put_set-end.ensures.1
