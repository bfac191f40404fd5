-- What the answers of a tape's scan and write show, by what each user key shows and what was asked. Document 01, 'Tape'. Assumes nothing.
use Rattle.std.specs.Prelude.{ℕ, ◌+◌, ◌≤◌, ◌<◌, ◌≡◌, Bool, true, ◌⊎◌, List, [], ◌++◌, eqb, length, Option, None, Some}
use Rattle.keycode.specs.Tests.{pick}
use Rattle.tape.specs.format.Layout.{value_room, laid, plainly}
use Rattle.tape.specs.Answers.{value_bytes}
use Rattle.isolation.specs.history.History.{Key, Bytes}
use Rattle.isolation.specs.records.Scans.{prefix_past, First}

-- f says what each key shows, n pairs were given, up to the key before, and there is room for so many records: a record for each key with
-- the prefix that shows a value, in their order, then the count; in the place of a pair that an answer or the buffer has no room for, 13
pub data Lists (f : Key → Option Bytes) (prefix : Key) (room : ℕ) : Bool → Key → ℕ → List ℕ → Type 0 where
  all : {given : Bool} {before : Key} {n : ℕ} {x : List ℕ} → First f (prefix_past prefix given before) None → x ≡ laid 0 7 n [] [] → Lists f prefix room given before n x
  more : {given : Bool} {before : Key} {n : ℕ} {x y : List ℕ} (k : Key) (v : Bytes) → First f (prefix_past prefix given before) (Some (k, v)) → length v ≤ value_room → n + 1 < room
      → Lists f prefix room true k (n + 1) y → x ≡ laid 0 7 0 k v ++ y → Lists f prefix room given before n x
  full : {given : Bool} {before : Key} {n : ℕ} {x : List ℕ} (k : Key) (v : Bytes) → First f (prefix_past prefix given before) (Some (k, v)) → (value_room < length v) ⊎ (room ≤ n + 1)
      → x ≡ plainly 13 7 → Lists f prefix room given before n x

-- what a write of a tape lays down: command 5 sets the value, 6 deletes
abbrev pub written_by : ℕ → Bytes → Option Bytes
written_by c v = pick (eqb c 5) (Some v) None

-- the answer of a tape's get: the value, 13 where an answer has no room for it, and 1 where there is none
abbrev pub value_shown : Option Bytes → List ℕ
value_shown None = plainly 1 4
value_shown (Some v) = value_bytes v
