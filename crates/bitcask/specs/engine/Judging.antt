-- 7 and 8 of entries that are appended together: the room behind the entries, and the rows that a table can still take. Assumes nothing.
use Rattle.keycode.specs.declared.refusal.Refusal.{Refusal}
use Rattle.std.specs.Prelude.{ℕ, ◌-◌, ◌/◌, List, length, Option, Some, Result, ⊤}
use Rattle.bitcask.specs.keydir.Slots.{slot_words}
use Rattle.bitcask.specs.change.Append.{judge}
use Rattle.bitcask.specs.declared.engine.mark.Mark.{Mark}

-- the room behind the entries
unfoldable pub room_in : List ℕ → Mark → Option ℕ
room_in log m = Some (length log - m.used.len)

-- entries that leave so much room and add so many rows
unfoldable pub judge_in : List ℕ → Mark → Option ℕ → ℕ → Result ⊤ Refusal
judge_in t m room more = judge room more (length t / slot_words - m.count)
