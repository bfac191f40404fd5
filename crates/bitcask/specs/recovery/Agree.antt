-- A request's sizes, and the agreement of a table with its log.
-- Assumes nothing.
use Rattle.std.specs.Prelude.{ℕ, ◌%◌, ◌≡◌, Bool, true, false, List, leb, eqb, length}
use Rattle.keycode.specs.Tests.{pick}
use Rattle.keycode.specs.Limits.{max_log}
use Rattle.bitcask.specs.keydir.Slots.{slot_words, table_of}
use Rattle.bitcask.specs.recovery.Recover.{items, ends, recovered}

-- a log buffer of so many bytes, its used length and a table of so many words are of sizes that the store takes: 13 where they are not
unfoldable pub fit : ℕ → ℕ → ℕ → Bool
fit size used words = pick (leb size max_log) (pick (leb used size) (eqb (words % slot_words) 0) false) false

-- the sizes are right, recovery does not cut, and the words are those of recovery's slots and then zeros. The log decides such a table.
pub record Agrees (log : List ℕ) (used : ℕ) (t : List ℕ) : Type 0 where
  pub sound : fit (length log) used (length t) ≡ true
  pub clean : ends 0 (items log used 0) ≡ used
  pub words : t ≡ table_of (length t) (recovered log used)
