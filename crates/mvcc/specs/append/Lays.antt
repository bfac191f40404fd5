-- What a transaction's write and the unversioned set share: the lengths that they may have, and what entries leave that are appended all
-- or none. Assumes nothing.
use Rattle.keycode.specs.declared.refusal.Refusal.{Refusal}
use Rattle.std.specs.Prelude.{ℕ, ◌+◌, ◌≤◌, ◌≡◌, Bool, List, length, Result, Ok, ⊤, Err}
use Rattle.keycode.specs.Tests.{pick, if_done}
use Rattle.keycode.specs.Buffer.{put}
use Rattle.keycode.specs.declared.refusal.Refusal.TheVariants.{KeyTooLong, ValueTooLong}
use Rattle.bitcask.specs.entry.Entry.{Entry}
use Rattle.bitcask.specs.declared.request.Used.{Used}
use Rattle.bitcask.specs.recovery.Agree.{Agrees}
use Rattle.bitcask.specs.recovery.Promises.{changed_number}
use Rattle.bitcask.specs.change.Append.{size_all, bytes_all}

-- 4, then 5
unfoldable pub sizes_by : Bool → Bool → Result ⊤ Refusal
sizes_by short small = pick short (pick small (Ok tt) (Err ValueTooLong)) (Err KeyTooLong)

-- what a call that appends entries, all or none, leaves
pub record Leaves (log : List ℕ) (used : ℕ) (t : List ℕ) (es : List Entry) (r : Result Used Refusal) (log' t' : List ℕ) : Type 0 where
  -- always
  pub bytes : log' ≡ if_done (changed_number r) (put log used (bytes_all es)) log
  pub words : t' ≡ if_done (changed_number r) t' t
  pub long : length t' ≡ length t
  pub ends : (u : Used) → r ≡ Ok u → (u.len ≡ used + size_all es) × (used + size_all es ≤ length log)
  -- agreed
  pub again : Agrees log used t → changed_number r ≡ 0 → Agrees log' (used + size_all es) t'
