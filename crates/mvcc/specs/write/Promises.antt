-- What the writes promise, in three parts. Always: what a refusal leaves, and that nothing outside changes. Request: the numbers that need
-- no table, exactly in their cases. Agreed: where the table agrees with the log, the answer and every byte are the map's, and the table
-- agrees again. docs/TABLES.md says why the last part has that condition. Assumes nothing.
use Rattle.bitcask.specs.declared.request.Used.{Used}
use Rattle.keycode.specs.declared.refusal.Refusal.{Refusal}
use Rattle.std.specs.Prelude.{ℕ, ◌≡◌, Bool, true, false, not, List, leb, eqb, length, Result}
use Rattle.keycode.specs.Tests.{pick}
use Rattle.keycode.specs.Limits.{max_key, max_value}
use Rattle.bitcask.specs.entry.Entry.{Entry}
use Rattle.bitcask.specs.recovery.Recover.{map_of}
use Rattle.bitcask.specs.recovery.Agree.{fit, Agrees}
use Rattle.bitcask.specs.recovery.Promises.{changed_number}
use Rattle.bitcask.specs.change.Append.{append_answer}
use Rattle.mvcc.specs.declared.handle.Handle.{Handle}
use Rattle.mvcc.specs.handle.Handles.{sound_handle}
use Rattle.bitcask.specs.recovery.Map.{pairs_of, live_in}
use Rattle.mvcc.specs.request.Checks.{active_key, own_version, open_by, or_else}
use Rattle.mvcc.specs.append.Lays.{Leaves}
use Rattle.mvcc.specs.write.Writes.{allow_by, plan}
use Rattle.mvcc.specs.conflict.Conflicts.{search_by, searched}

-- a request that is none of 13 and 2
unfoldable pub may_write : Bool → Bool → Bool → Bool
may_write fits sound reads = pick fits (pick sound (not reads) false) false

-- the numbers of a request: `own` is whether the handle's version can be a read-write one's. Whether it is open is the store's to say, so
-- that 3 is exact for other versions, and 4 and 5 where 3 is not the answer.
pub record Early (fits sound reads own short small : Bool) (n : ℕ) : Type 0 where
  pub bad : eqb n 13 ≡ not (pick fits sound false)
  pub read_only : eqb n 2 ≡ pick fits (pick sound reads false) false
  pub not_open : eqb n 3 ≡ pick (may_write fits sound reads) (pick own (eqb n 3) true) false
  pub key_long : eqb n 4 ≡ pick (may_write fits sound reads) (pick (eqb n 3) false (not short)) false
  pub value_long : eqb n 5 ≡ pick (may_write fits sound reads) (pick (eqb n 3) false (pick short (not small) false)) false

-- the checks, the search, and the entries' own 7 and 8, all of the map
unfoldable pub write_answer : List ℕ → ℕ → ℕ → Handle → List ℕ → ℕ → List Entry → Result Used Refusal
write_answer log used words h key size es =
    or_else (allow_by (fit (length log) used words) (sound_handle h) h.read_only (open_by h (live_in (active_key h) (map_of log used))) (leb (length key) max_key) (leb size max_value))
    (or_else (search_by h (pairs_of (searched h key) (map_of log used))) (append_answer log used words es))

-- a write of a payload with so many bytes of the user's
pub record Writes (log : List ℕ) (used : ℕ) (t : List ℕ) (h : Handle) (key payload : List ℕ) (size : ℕ) (r : Result Used Refusal) (log' t' : List ℕ) : Type 0 where
  pub leaves : Leaves log used t (plan h.version key payload) r log' t'
  -- request
  pub early : Early (fit (length log) used (length t)) (sound_handle h) h.read_only (own_version h.version) (leb (length key) max_key) (leb size max_value) (changed_number r)
  -- agreed
  pub answer : Agrees log used t → r ≡ write_answer log used (length t) h key size (plan h.version key payload)
