-- What the unversioned calls promise, in three parts. Always: what a refusal leaves, and that nothing outside changes. Request: the numbers
-- that need no table, exactly in their cases. Agreed: where the table agrees with the log, the answer and every byte are the map's, and the
-- table agrees again. docs/TABLES.md says why the last part has that condition. Assumes nothing.
use Rattle.bitcask.specs.declared.request.Used.{Used}
use Rattle.keycode.specs.declared.refusal.Refusal.{Refusal}
use Rattle.keycode.specs.declared.parts.Part.{Part}
use Rattle.std.specs.Prelude.{ℕ, ◌+◌, ◌≡◌, Bool, false, not, List, [], ◌∷◌, leb, eqb, length, Result, Err, Ok, Option, None, Some}
use Rattle.keycode.specs.Tests.{pick}
use Rattle.keycode.specs.Limits.{max_key, max_value}
use Rattle.keycode.specs.declared.refusal.Refusal.TheVariants.{Absent, KeyTooLong, BadRequest}
use Rattle.keycode.specs.key.Keys.{encode, unversioned}
use Rattle.bitcask.specs.entry.Entry.{Entry, set}
use Rattle.bitcask.specs.recovery.Agree.{fit, Agrees}
use Rattle.bitcask.specs.recovery.Promises.{changed_number}
use Rattle.bitcask.specs.change.Append.{size_all, append_answer}
use Rattle.bitcask.specs.read.Promises.{located_number}
use Rattle.bitcask.specs.engine.Rows.{Row, value_place, rows_in}
use Rattle.bitcask.specs.engine.Spots.{look_row}
use Rattle.mvcc.specs.request.Checks.{or_else}
use Rattle.mvcc.specs.append.Lays.{sizes_by, Leaves}

-- ---- get

-- the place of a row's value, or 1
abbrev pub row_located : Option Row → Result Part Refusal
row_located (Some r) = Ok (value_place r)
row_located None = Err Absent

-- 13, 4, and then what the key's row says
unfoldable pub unversioned_answer : Bool → List ℕ → Option Row → Result Part Refusal
unversioned_answer fits key o = pick fits (pick (leb (length key) max_key) (row_located o) (Err KeyTooLong)) (Err BadRequest)

pub record GetsUnversioned (log : List ℕ) (used : ℕ) (t key : List ℕ) (r : Result Part Refusal) : Type 0 where
  -- request
  pub bad : eqb (located_number r) 13 ≡ not (fit (length log) used (length t))
  pub long : eqb (located_number r) 4 ≡ pick (fit (length log) used (length t)) (not (leb (length key) max_key)) false
  -- agreed
  pub answer : Agrees log used t → r ≡ unversioned_answer (fit (length log) used (length t)) key (look_row (encode (unversioned key)) (rows_in log used))

-- ---- set

unfoldable pub plain_plan : List ℕ → List ℕ → List Entry
plain_plan key value = set (encode (unversioned key)) value ∷ []

-- the numbers of a request, which needs no table for 7 either: `room` is whether the log has room
pub record EarlyPlain (fits short small room : Bool) (n : ℕ) : Type 0 where
  pub bad : eqb n 13 ≡ not fits
  pub key_long : eqb n 4 ≡ pick fits (not short) false
  pub value_long : eqb n 5 ≡ pick fits (pick short (not small) false) false
  pub full : eqb n 7 ≡ pick fits (pick short (pick small (not room) false) false) false

unfoldable pub plain_answer : List ℕ → ℕ → ℕ → List ℕ → List ℕ → Result Used Refusal
plain_answer log used words key value =
    pick (fit (length log) used words) (or_else (sizes_by (leb (length key) max_key) (leb (length value) max_value)) (append_answer log used words (plain_plan key value))) (Err BadRequest)

pub record SetsPlain (log : List ℕ) (used : ℕ) (t key value : List ℕ) (r : Result Used Refusal) (log' t' : List ℕ) : Type 0 where
  pub leaves : Leaves log used t (plain_plan key value) r log' t'
  -- request
  pub early : EarlyPlain (fit (length log) used (length t)) (leb (length key) max_key) (leb (length value) max_value) (leb (used + size_all (plain_plan key value)) (length log)) (changed_number r)
  -- agreed
  pub answer : Agrees log used t → r ≡ plain_answer log used (length t) key value
