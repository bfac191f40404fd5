-- One record of a tape and its answers. What the store does is a step of its world (mvcc): the definition that the `ensures` of the call
-- cites, from the world before to the world after. Assumes nothing.
use Rattle.bitcask.specs.declared.request.Used.{Used}
use Rattle.keycode.specs.declared.refusal.Refusal.{Refusal}
use Rattle.keycode.specs.declared.parts.Part.{Part}
use Rattle.bitcask.specs.declared.answers.KeyValue.{KeyValue}
use Rattle.bitcask.specs.declared.report.Counts.{Counts}
use Rattle.std.specs.Prelude.{ℕ, ◌+◌, ◌≤◌, ◌≡◌, Bool, true, false, not, List, [], ◌∷◌, ◌++◌, length, eqb, Result}
use Rattle.keycode.specs.Tests.{pick}
use Rattle.keycode.specs.Limits.{max_open}
use Rattle.bitcask.specs.recovery.Promises.{changed_number}
use Rattle.bitcask.specs.compaction.Promises.{Compacts}
use Rattle.mvcc.specs.declared.handle.Handle.{Handle}
use Rattle.mvcc.specs.declared.begun.Begun.{Begun}
use Rattle.mvcc.specs.world.World.{World, Call, begins, begins_reading, begins_as_of, gets, sets, deletes, scans_prefix, commits, rolls_back, counts}
use Rattle.mvcc.specs.world.Steps.{Step, used_by, is_done}
use Rattle.tape.specs.declared.format.request.Request.{Request}
use Rattle.tape.specs.format.Layout.{record_len, laid, plainly}
use Rattle.tape.specs.format.Requests.{fields_of, key_in, value_in, proper}
use Rattle.tape.specs.format.Slots.{filled, slot_fits, handle_at}
use Rattle.tape.specs.Answers.{given_bytes, filled_with, got_bytes, pair, last, shown, emptied_by, used_bytes, count_bytes}

-- ---- the calls that a command makes

unfoldable pub start_call : ℕ → ℕ → Begun → Call
start_call c v a = pick (eqb c 1) (begins a) (pick (eqb c 2) (begins_reading a) (begins_as_of v a))

-- the used length after it: only the first changes it
unfoldable pub start_used : ℕ → Result Used Refusal → ℕ → ℕ
start_used c a used = pick (eqb c 1) (used_by a used) used

unfoldable pub write_call : ℕ → Handle → List ℕ → List ℕ → Result Used Refusal → Call
write_call c h key value a = pick (eqb c 5) (sets h key value a) (deletes h key a)

unfoldable pub end_call : ℕ → Handle → Result Used Refusal → Call
end_call c h a = pick (eqb c 8) (commits h a) (rolls_back h a)

-- ---- each command: the world and the slots after it, and its answers

pub data Started (w : World) (slots : List ℕ) (q : Request) : World → List ℕ → List ℕ → Type 0 where
  started : (a : Begun) {w' : World} → length a.handle.set ≡ max_open → Step w (start_call q.command q.version a) w'
      → Started w slots q w' (filled_with slots q.slot a.answer a.handle) (given_bytes q.command a.answer a.handle.version)

pub data Looked (w : World) (h : Handle) (key : List ℕ) : List ℕ → Type 0 where
  looked : (a : Result Part Refusal) → Step w (gets h key a) w → Looked w h key (got_bytes w.log a)

pub data Written (w : World) (h : Handle) (c : ℕ) (key value : List ℕ) : World → List ℕ → Type 0 where
  written : (a : Result Used Refusal) {w' : World} → Step w (write_call c h key value a) w' → Written w h c key value w' (plainly (changed_number a) c)

-- a scan that has shown n pairs, behind the last key where one is given
pub data Scanned (w : World) (h : Handle) (prefix : List ℕ) (room : ℕ) : Bool → List ℕ → ℕ → List ℕ → Type 0 where
  ends : {given : Bool} {before : List ℕ} {n : ℕ} (s : Result KeyValue Refusal) {x : List ℕ} → Step w (scans_prefix h prefix given before s) w → shown w.log room n s ≡ last x
      → Scanned w h prefix room given before n x
  goes : {given : Bool} {before : List ℕ} {n : ℕ} (s : Result KeyValue Refusal) {key value x : List ℕ} → Step w (scans_prefix h prefix given before s) w → shown w.log room n s ≡ pair key value
      → Scanned w h prefix room true key (n + 1) x → Scanned w h prefix room given before n (laid 0 7 0 key value ++ x)

pub data Ended (w : World) (h : Handle) (slots : List ℕ) (q : Request) : World → List ℕ → List ℕ → Type 0 where
  ended : (a : Result Used Refusal) {w' : World} → Step w (end_call q.command h a) w' → Ended w h slots q w' (emptied_by slots q.slot a) (plainly (changed_number a) q.command)

-- a compaction from the log into the buffer beside it: done, that buffer is the log
pub data Tidied (log : List ℕ) (used : ℕ) (t spare : List ℕ) : ℕ → Bool → List ℕ → List ℕ → List ℕ → Type 0 where
  tidied : (a : Result Used Refusal) {t' spare' : List ℕ} → Compacts log used t spare a t' spare' → Tidied log used t spare (used_by a used) (is_done a) t' spare' (used_bytes a)

pub data Told (w : World) : List ℕ → Type 0 where
  told : (a : Result Counts Refusal) → Step w (counts a) w → Told w (count_bytes a)

-- ---- the commands that are made with the handle of a slot

pub data Held (w : World) (slots : List ℕ) (q : Request) (key value : List ℕ) (room : ℕ) : World → List ℕ → List ℕ → Type 0 where
  looking : {x : List ℕ} → q.command ≡ 4 → Looked w (handle_at slots q.slot) key x → Held w slots q key value room w slots x
  writing : {w' : World} {x : List ℕ} → 5 ≤ q.command → q.command ≤ 6 → Written w (handle_at slots q.slot) q.command key value w' x → Held w slots q key value room w' slots x
  scanning : {x : List ℕ} → q.command ≡ 7 → Scanned w (handle_at slots q.slot) key room false [] 0 x → Held w slots q key value room w slots x
  ending : {w' : World} {s x : List ℕ} → 8 ≤ q.command → q.command ≤ 9 → Ended w (handle_at slots q.slot) slots q w' s x → Held w slots q key value room w' s x

-- ---- a command that a record names

-- the world, the buffer beside its log, the handle slots, and which of the two buffers as they were lent is the log
pub record Bench : Type 0 where
  pub world : World
  pub spare : List ℕ
  pub slots : List ℕ
  pub other : Bool

abbrev pub world_of : List ℕ → ℕ → List ℕ → World
world_of log used t = record { log = log; used = used; table = t }

-- the bench of two buffers of which the second is the log, or the first
abbrev pub bench_of : Bool → List ℕ → List ℕ → ℕ → List ℕ → List ℕ → Bench
bench_of true first second used t slots = record { world = world_of second used t; spare = first; slots = slots; other = true }
bench_of false first second used t slots = record { world = world_of first used t; spare = second; slots = slots; other = false }

-- the world and the slots after a command that leaves the buffers where they are
abbrev pub in_place : Bench → World → List ℕ → Bench
in_place b w s = record { world = w; spare = b.spare; slots = s; other = b.other }

-- after a compaction: done, log and spare buffer have changed places
abbrev pub swapped : Bench → Bool → List ℕ → ℕ → List ℕ → Bench
swapped b true g used t = record { world = world_of g used t; spare = b.world.log; slots = b.slots; other = not b.other }
swapped b false g used t = record { world = world_of b.world.log used t; spare = g; slots = b.slots; other = b.other }

pub data Carried (b : Bench) (q : Request) (key value : List ℕ) (room : ℕ) : Bench → List ℕ → Type 0 where
  starting : {w : World} {s x : List ℕ} → q.command ≤ 3 → Started b.world b.slots q w s x → Carried b q key value room (in_place b w s) x
  holding : {w : World} {s x : List ℕ} → Held b.world b.slots q key value room w s x → Carried b q key value room (in_place b w s) x
  tidying : {used : ℕ} {done : Bool} {t g x : List ℕ} → q.command ≡ 10 → Tidied b.world.log b.world.used b.world.table b.spare used done t g x
      → Carried b q key value room (swapped b done g used t) x
  telling : {x : List ℕ} → q.command ≡ 11 → Told b.world x → Carried b q key value room b x

-- ---- a record: 13 where it is short or bad, else what its command does

-- laid out as it must be, and its slot as the command needs it
unfoldable pub admitted : List ℕ → List ℕ → Bool
admitted r slots = pick (proper r) (slot_fits (fields_of r).command (filled slots (fields_of r).slot)) false

pub data Turned (b : Bench) (r : List ℕ) (room : ℕ) : Bench → List ℕ → Type 0 where
  short : eqb (length r) record_len ≡ false → Turned b r room b (plainly 13 0)
  bad : eqb (length r) record_len ≡ true → admitted r b.slots ≡ false → Turned b r room b (plainly 13 (fields_of r).command)
  good : {b' : Bench} {x : List ℕ} → eqb (length r) record_len ≡ true → admitted r b.slots ≡ true → Carried b (fields_of r) (key_in r) (value_in r) room b' x → Turned b r room b' x

-- ---- a tape: records one after the other, each on what the last one left

pub data Taped (room : ℕ) : Bench → List (List ℕ) → Bench → Type 0 where
  over : {b : Bench} → Taped room b [] b
  turned : {b b₁ b' : Bench} {r x : List ℕ} {rs : List (List ℕ)} → Turned b r room b₁ x → Taped room b₁ rs b' → Taped room b (r ∷ rs) b'
