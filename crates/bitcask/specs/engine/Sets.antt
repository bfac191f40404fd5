-- A set laid at a place that was found before: what the code does, for any table and any place. Where the place is that of the key it is
-- `appended`. Assumes nothing.
use Rattle.bitcask.specs.declared.engine.spot.Spot.{Spot}
use Rattle.std.specs.Prelude.{ℕ, ◌+◌, List, length, Result, Ok, Err}
use Rattle.keycode.specs.Buffer.{put}
use Rattle.bitcask.specs.entry.Entry.{set, bytes_of, size_of}
use Rattle.bitcask.specs.declared.keydir.slots.Slot.{Slot}
use Rattle.bitcask.specs.keydir.Slots.{slots_of}
use Rattle.bitcask.specs.keydir.Place.{entered, laid}
use Rattle.bitcask.specs.change.Append.{State, slot_of}

-- a place that was found, as the table knows it
unfoldable pub spot_place : Result Spot Spot → Result ℕ ℕ
spot_place (Ok p) = Ok p.number
spot_place (Err p) = Err p.number

-- so many rows further on
abbrev pub up_by : ℕ → Result ℕ ℕ → Result ℕ ℕ
up_by d (Ok i) = Ok (i + d)
up_by d (Err i) = Err (i + d)

-- the slots then
abbrev pub slots_with : State → Result ℕ ℕ → List ℕ → List ℕ → List Slot
slots_with s f k v = entered s.table (slot_of s.used (set k v)) f (slots_of s.count s.table)

unfoldable pub set_at : State → Result ℕ ℕ → List ℕ → List ℕ → State
set_at s f k v =
    record {
      log = put s.log s.used (bytes_of (set k v));
      used = s.used + size_of (set k v);
      table = laid s.count (slots_with s f k v) s.table;
      count = length (slots_with s f k v);
    }
