-- The checks that come first in every transaction call, as combinators: what they ask of the store is handed in. 13
-- comes before 3. Assumes nothing.
use Rattle.keycode.specs.declared.refusal.Refusal.{Refusal}
use Rattle.bitcask.specs.declared.request.Used.{Used}
use Rattle.std.specs.Prelude.{ℕ, ◌-◌, ◌^◌, Bool, true, false, List, eqb, length, Result, ⊤, Ok, Err}
use Rattle.keycode.specs.Tests.{pick}
use Rattle.keycode.specs.Refusals.{number_of}
use Rattle.keycode.specs.key.Keys.{encode, txn_active}
use Rattle.keycode.specs.declared.refusal.Refusal.TheVariants.{NotOpen, BadRequest}
use Rattle.bitcask.specs.recovery.Recover.{map_of}
use Rattle.bitcask.specs.recovery.Agree.{fit}
use Rattle.mvcc.specs.declared.handle.Handle.{Handle}
use Rattle.mvcc.specs.handle.Handles.{sound_handle}
use Rattle.bitcask.specs.recovery.Map.{live_in}

-- the key whose record says that a handle's transaction is open
abbrev pub active_key : Handle → List ℕ
active_key h = encode (txn_active h.version)

-- a version that a read-write handle can have
unfoldable pub own_version : ℕ → Bool
own_version v = pick (eqb v 0) false (pick (eqb v (2 ^ 64 - 1)) false true)

-- read-only handles always are; `live` is whether its key is in the store
unfoldable pub open_by : Handle → Bool → Bool
open_by h live = pick h.read_only true (pick (own_version h.version) live false)

-- 13 for the sizes of the request, then for the handle, then 3
unfoldable pub admit_by : Bool → Bool → Bool → Result ⊤ Refusal
admit_by fits sound active = pick fits (pick sound (pick active (Ok tt) (Err NotOpen)) (Err BadRequest)) (Err BadRequest)

abbrev pub check_number : Result ⊤ Refusal → ℕ
check_number (Ok tt) = 0
check_number (Err r) = number_of r

-- ---- one test after the other

-- what follows where a test passed
abbrev pub on_fine : {A : Type 0} → Result ⊤ Refusal → A → A → A
on_fine (Ok tt) a b = a
on_fine (Err r) a b = b

-- the answer of a test that did not pass
abbrev pub or_else : Result ⊤ Refusal → Result Used Refusal → Result Used Refusal
or_else (Ok tt) a = a
or_else (Err r) a = Err r

-- ---- of a log's map

-- the sizes of a request and its handle: 13 where not
abbrev pub asked : List ℕ → ℕ → List ℕ → Handle → Bool
asked log used t h = pick (fit (length log) used (length t)) (sound_handle h) false

-- whether the map of a log says that a handle's transaction is open
abbrev pub open_in : List ℕ → ℕ → Handle → Bool
open_in log used h = open_by h (live_in (active_key h) (map_of log used))
