-- Lists of entries, appended one after the other: the store then, the room left, the keys that are new. Assumes nothing.
use Rattle.bitcask.specs.declared.request.Used.{Used}
use Rattle.keycode.specs.declared.refusal.Refusal.{Refusal}
use Rattle.std.specs.Prelude.{ℕ, ◌+◌, ◌-◌, ◌/◌, ◌≤◌, ◌≡◌, Bool, true, false, List, [], ◌∷◌, length, Result, Ok, Err, Option, Some, ⊤}
use Rattle.bitcask.specs.entry.Entry.{Entry, set, del, entry_key, entry_value}
use Rattle.bitcask.specs.declared.keydir.slots.Slot.{Slot}
use Rattle.bitcask.specs.keydir.Slots.{slot_words, slots_of}
use Rattle.bitcask.specs.keydir.Place.{All}
use Rattle.bitcask.specs.recovery.Map.{Pair, after, live_in}
use Rattle.bitcask.specs.change.Append.{State, appended, room_after, fresh_in, judge, size_all}
use Rattle.mvcc.specs.request.Checks.{on_fine, or_else}

-- ---- the store

abbrev pub state_of : List ℕ → ℕ → List ℕ → ℕ → State
state_of log used t n = record { log = log; used = used; table = t; count = n }

unfoldable pub appended_all : State → List Entry → State
appended_all s [] = s
appended_all s (e ∷ es) = appended_all (appended s e) es

-- the room that they leave
unfoldable pub room_all : Option ℕ → List Entry → Option ℕ
room_all room [] = room
room_all room (e ∷ es) = room_all (room_after room (length (entry_key e)) (length (entry_value e))) es

-- ---- what lists the calls append

-- sets alone
pub data Sets : List Entry → Type 0 where
  sets-none : Sets []
  sets_more : {k v : List ℕ} {es : List Entry} → Sets es → Sets (set k v ∷ es)

-- tombstones alone
pub data Dels : List Entry → Type 0 where
  dels_none : Dels []
  dels_more : {k : List ℕ} {es : List Entry} → Dels es → Dels (del k ∷ es)

-- no key twice
pub data Apart : List Entry → Type 0 where
  apart_none : Apart []
  apart_more : {e : Entry} {es : List Entry} → All (λ (x : Entry). entry_key e ≡ entry_key x → ⊥) es → Apart es → Apart (e ∷ es)

-- ---- the keys that are new

-- of one key: whether it wants a slot
abbrev pub new_by : Bool → ℕ
new_by true = 0
new_by false = 1

unfoldable pub new_in : List ℕ → List Pair → ℕ
new_in key m = new_by (live_in key m)

-- of a list, each against the map as it was
unfoldable pub new_all : List Entry → List Pair → ℕ
new_all [] m = 0
new_all (e ∷ es) m = new_in (entry_key e) m + new_all es m

-- the same of slots, as the code counts them
unfoldable pub fresh_all : List ℕ → List Entry → List Slot → ℕ
fresh_all log [] ss = 0
fresh_all log (e ∷ es) ss = fresh_in log (entry_key e) ss + fresh_all log es ss

-- the map has at most so many keys after each entry
pub data Fitting (cap : ℕ) : List Entry → List Pair → Type 0 where
  fitting_none : {m : List Pair} → Fitting cap [] m
  fitting_more : {e : Entry} {es : List Entry} {m : List Pair} → length (after e m) ≤ cap → Fitting cap es (after e m) → Fitting cap (e ∷ es) m

-- ---- 7 and 8 of a list: what the engine's rule answers for it, the used length forgotten

abbrev pub check_of : Result Used Refusal → Result ⊤ Refusal
check_of (Ok u) = (Ok tt)
check_of (Err r) = Err r

-- ---- entries tried on any table

-- 7 and 8 by the slots that the code counts
unfoldable pub judge_all : List ℕ → ℕ → List ℕ → ℕ → List Entry → Result ⊤ Refusal
judge_all log used t n es = judge (room_all (Some (length log - used)) es) (fresh_all log es (slots_of n t)) (length t / slot_words - n)

pub record Tries (log : List ℕ) (used : ℕ) (t : List ℕ) (n : ℕ) (es : List Entry) (r : Result Used Refusal) (log' t' : List ℕ) : Type 0 where
  pub answer : r ≡ or_else (judge_all log used t n es) (Ok (record { len = used + size_all es }))
  pub bytes : log' ≡ on_fine (judge_all log used t n es) (appended_all (state_of log used t n) es).log log
  pub words : t' ≡ on_fine (judge_all log used t n es) (appended_all (state_of log used t n) es).table t
