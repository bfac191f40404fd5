-- Whether a key is in the store, by where the search finds it. Assumes nothing.
use Rattle.std.specs.Prelude.{ℕ, Bool, true, false, List, Result, Ok, Err}
use Rattle.bitcask.specs.declared.keydir.slots.Slot.{Slot}
use Rattle.bitcask.specs.keydir.Place.{place_of}

abbrev pub is_at : Result ℕ ℕ → Bool
is_at (Ok i) = true
is_at (Err i) = false

unfoldable pub live_of : List ℕ → List ℕ → List Slot → Bool
live_of log key ss = is_at (place_of log key ss)
