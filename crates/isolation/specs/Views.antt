-- What a handle is to see, from the calls made and the numbers answered alone, and what it is that an answer shows it. Document 01,
-- 'Demands', the third. Assumes nothing.
use Rattle.bitcask.specs.declared.request.Used.{Used}
use Rattle.keycode.specs.declared.refusal.Refusal.{Refusal}
use Rattle.std.specs.Prelude.{ℕ, ◌+◌, ◌-◌, ◌/◌, ◌%◌, ◌^◌, ◌≤◌, ◌<◌, ◌≡◌, true, false, ◌≢◌, ◌⊎◌, List, [], ◌∷◌, leb, eqb, length, take, drop, Result, Ok, Err, Option, None, Some}
use Rattle.keycode.specs.Tests.{pick}
use Rattle.keycode.specs.Limits.{max_open, max_log}
use Rattle.keycode.specs.declared.refusal.Refusal.TheVariants.{Absent, Conflict, LogFull, TooManyOpen, VersionsSpent, BadRequest}
use Rattle.keycode.specs.declared.parts.Part.{Part}
use Rattle.bitcask.specs.entry.Entry.{Entry}
use Rattle.bitcask.specs.keydir.Slots.{slot_words}
use Rattle.bitcask.specs.recovery.Recover.{run, items, map_of}
use Rattle.bitcask.specs.recovery.Promises.{opened_by}
use Rattle.bitcask.specs.change.Append.{size_all}
use Rattle.bitcask.specs.compaction.Compaction.{entries_of}
use Rattle.mvcc.specs.declared.handle.Handle.{Handle}
use Rattle.mvcc.specs.handle.Handles.{handle_of, rising}
use Rattle.mvcc.specs.declared.begun.Begun.{Begun}
use Rattle.mvcc.specs.request.Given.{refused_by}
use Rattle.mvcc.specs.start.Begins.{begun_by}
use Rattle.mvcc.specs.declared.report.Versions.{Versions}
use Rattle.isolation.specs.history.History.{Key, Bytes, Clash, unborn, opened, status, is_in, is_open, last_write, over, laid, past}
use Rattle.mvcc.specs.world.World.{World, begins, begins_reading, begins_as_of, Calls}
use Rattle.mvcc.specs.world.Runs.{After, Gave}
use Rattle.isolation.specs.Meaning.{meaning}

-- the handle may be used after the calls T: it is read-only, or its transaction is open
abbrev pub Usable : Calls → Handle → Type 0
Usable T h = (h.read_only ≡ true) ⊎ (status (meaning T) h.version ≡ opened)

-- f is what the handle is to see after the calls T, T₁ being the calls before it was given
pub data Sees (T : Calls) (h : Handle) (f : Key → Option Bytes) : Type 0 where
  -- a transaction: its own last accepted write, else what those committed before it began leave when laid down whole in commit order
  writer : {r : Begun} {T₁ : Calls} → After (begins r ∷ T₁) T → Gave r h → ((k : Key) → f k ≡ over (last_write (meaning T) h.version k) (laid (meaning T₁) k)) → Sees T h f
  -- a read-only transaction: the latter
  reader : {r : Begun} {T₁ : Calls} → After (begins_reading r ∷ T₁) T → Gave r h → ((k : Key) → f k ≡ laid (meaning T₁) k) → Sees T h f
  -- as-of v: what had committed before v began; of 0 nothing
  as_of : {v : ℕ} {r : Begun} {T₁ : Calls} → After (begins_as_of v r ∷ T₁) T → Gave r h → v ≢ 0 → ((k : Key) → f k ≡ laid (past (meaning T₁) v) k) → Sees T h f
  as_of_none : {r : Begun} {T₁ : Calls} → After (begins_as_of 0 r ∷ T₁) T → Gave r h → ((k : Key) → f k ≡ None) → Sees T h f

-- an answer shows a value: 0 with the place where its bytes stand in the log; 1 where there is none
abbrev pub Shows : List ℕ → Result Part Refusal → Option Bytes → Type 0
Shows log r None = r ≡ Err Absent
Shows log r (Some v) = (p : Part) × (r ≡ Ok p) × (take p.len (drop p.at log) ≡ v)

-- a write's answer: 6 exactly where another transaction has an accepted write of the key and is open, or committed after this one began;
-- else what the room in log and table says, 0, 7 or 8
pub data Meets (T : Calls) (h : Handle) (k : Key) (room r : Result Used Refusal) : Type 0 where
  clashes : Clash (meaning T) h.version k → r ≡ Err Conflict → Meets T h k room r
  free : (Clash (meaning T) h.version k → ⊥) → r ≡ room → Meets T h k room r

-- the bytes of the user's in what a write lays down; none deletes
abbrev pub size_in : Option Bytes → ℕ
size_in None = 0
size_in (Some v) = length v

-- what the status tells: the last version that began, and how many versions are open
pub record Tells (T : Calls) (s : Versions) : Type 0 where
  pub began : (v : ℕ) → v ≢ 0 → v ≤ s.last → status (meaning T) v ≢ unborn
  pub none-past : (v : ℕ) → s.last < v → status (meaning T) v ≡ unborn
  pub versions : List ℕ
  pub rises : rising versions ≡ true
  pub are_open : (v : ℕ) → is_in v versions ≡ is_open (status (meaning T) v)
  pub counted : s.«open» ≡ length versions

-- the next version, and the versions that are open: never more than sixteen
pub record Stands (T : Calls) (next : ℕ) (vs : List ℕ) : Type 0 where
  pub born : (v : ℕ) → v ≢ 0 → v < next → status (meaning T) v ≢ unborn
  pub not_yet : (v : ℕ) → next ≤ v → status (meaning T) v ≡ unborn
  pub are_open : (v : ℕ) → is_in v vs ≡ is_open (status (meaning T) v)
  pub rises : rising vs ≡ true
  pub few : length vs ≤ max_open

-- a begin's answer: 11 where no version is left, then 9 where sixteen are open, then what the room in log and table says, 0, 7 or 8; with 0
-- the handle of the next version and those open
pub data Starts (next : ℕ) (vs : List ℕ) (room : Result Used Refusal) (r : Begun) : Type 0 where
  spent : next ≡ 2 ^ 64 - 1 → r ≡ refused_by VersionsSpent → Starts next vs room r
  many : next ≢ 2 ^ 64 - 1 → length vs ≡ max_open → r ≡ refused_by TooManyOpen → Starts next vs room r
  starts : next ≢ 2 ^ 64 - 1 → length vs < max_open → r ≡ begun_by room (handle_of next false vs) → Starts next vs room r

-- what the room alone decides. A commit and a rollback: 7 where their tombstones do not fit the log, else 0
abbrev pub ended_in : World → List Entry → Result Used Refusal
ended_in w es = pick (leb (w.used + size_all es) (length w.log)) (Ok (record { len = w.used + size_all es })) (Err LogFull)

-- a compaction into so many bytes: 13 where they are over the largest log, 7 where the live entries do not fit them, else 0
abbrev pub compacted_in : World → ℕ → Result Used Refusal
compacted_in w room =
    let n = size_all (entries_of (map_of w.log w.used)) in
    pick (leb room max_log) (pick (leb n room) (Ok (record { len = n })) (Err LogFull)) (Err BadRequest)

-- an opening with so many words: 13 where they are no whole slots, 8 where at some entry the keys are more than the slots, else 0 with
-- nothing cut
abbrev pub opened_in : World → ℕ → Result Used Refusal
opened_in w words = pick (eqb (words % slot_words) 0) (opened_by (run w.log (words / slot_words) (items w.log w.used 0) []) w.used) (Err BadRequest)
