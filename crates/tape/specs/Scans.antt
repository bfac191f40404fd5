-- What the parts of a scan do: one step shown in one record, and the scan from its first step to its end. Assumes nothing.
use Rattle.bitcask.specs.declared.answers.KeyValue.{KeyValue}
use Rattle.keycode.specs.declared.refusal.Refusal.{Refusal}
use Rattle.std.specs.Prelude.{ℕ, ◌+◌, ◌*◌, ◌/◌, ◌≤◌, ◌<◌, ◌≡◌, Bool, List, length, take, Result, Option, Some, None}
use Rattle.keycode.specs.Buffer.{put}
use Rattle.mvcc.specs.declared.handle.Handle.{Handle}
use Rattle.mvcc.specs.world.World.{World, scans_prefix}
use Rattle.mvcc.specs.world.Steps.{Step}
use Rattle.tape.specs.format.Layout.{record_len, key_room, laid}
use Rattle.tape.specs.Answers.{Shown, pair, last, shown}

-- the record after n pairs, and the last key kept in the first bytes of a lent buffer
pub record ShowsPair (what : Shown) (n : ℕ) (out : List ℕ) (k : ℕ) (kept' out' : List ℕ) : Type 0 where
  pub key : List ℕ
  pub value : List ℕ
  pub is : what ≡ pair key value
  pub lies : out' ≡ put out (record_len * n) (laid 0 7 0 key value)
  pub long : length (laid 0 7 0 key value) ≡ record_len
  pub keeps : take k kept' ≡ key
  pub short : k ≤ key_room
  pub more : n + 1 < length out / record_len

pub record ShowsLast (what : Shown) (n : ℕ) (out out' : List ℕ) : Type 0 where
  pub answer : List ℕ
  pub is : what ≡ last answer
  pub lies : out' ≡ put out (record_len * n) answer
  pub long : length answer ≡ record_len

abbrev pub ShowsBy : Shown → ℕ → List ℕ → Option ℕ → List ℕ → List ℕ → Type 0
ShowsBy what n out (Some k) kept' out' = ShowsPair what n out k kept' out'
ShowsBy what n out None kept' out' = ShowsLast what n out out'

-- one step behind the key that was kept, and what it shows
pub record Steps (w : World) (h : Handle) (prefix : List ℕ) (n : ℕ) (given : Bool) (before out : List ℕ) (p : Option ℕ) (kept' out' : List ℕ) : Type 0 where
  pub answer : Result KeyValue Refusal
  pub step : Step w (scans_prefix h prefix given before answer) w
  pub shows : ShowsBy (shown w.log (length out / record_len) n answer) n out p kept' out'
