-- What the proofs say of a history and of the store, and no theorem of it: which histories the store's answers let happen, the highest
-- stored version, and that the store says of the transactions what the history says. Assumes nothing.
use Prim.Native.Nat.{ℕ, suc, ◌<◌}
use mathlib.Core.Path.{◌≡◌}
use mathlib.Core.Bool.{Bool, true, false, ◌&&◌}
use mathlib.Core.Logic.{◌≢◌}
use Rattle.std.specs.Prelude.{Option, None, Some}
use mathlib.Core.List.{List, [], ◌∷◌}
use lib.Dec.{leb}
use Rattle.isolation.specs.history.History.{Key, Bytes, Sight, Event, began, wrote, committed, undone, noted, History, Status, unborn}
use Rattle.isolation.specs.history.History.{opened, done, rolled, status, last_write, past, Clash, is_in, is_open, Low, keep, up_to}
use Rattle.isolation.specs.history.Store.{Db, is_some}

-- how many read-write transactions began
unfoldable pub begins : History → ℕ
begins [] = 0
begins (began h ∷ H) = suc (begins H)
begins (wrote t k o ∷ H) = begins H
begins (committed t ∷ H) = begins H
begins (undone t ∷ H) = begins H
begins (noted ∷ H) = begins H

abbrev pub is_done : Status → Bool
is_done unborn = false
is_done opened = false
is_done done = true
is_done rolled = false

abbrev pub live : Status → Bool
live unborn = false
live opened = true
live done = true
live rolled = false

abbrev pub ended : Status → Bool
ended unborn = false
ended opened = false
ended done = true
ended rolled = true

-- what the store's answers let happen after the history H
pub data Guard (H : History) : Event → Type 0 where
  g_began : {h : Sight} → h.ver ≡ suc (begins H) → ((x : ℕ) → is_in x h.set ≡ is_open (status H x)) → Low h → Guard H (began h)
  g_wrote : {t : ℕ} {k : Key} {o : Option Bytes} → status H t ≡ opened → ¬ Clash H t k → Guard H (wrote t k o)
  g_committed : {t : ℕ} → status H t ≡ opened → Guard H (committed t)
  g_undone : {t : ℕ} → status H t ≡ opened → Guard H (undone t)
  g_noted : Guard H noted

pub data Good : History → Type 0 where
  good_nil : Good []
  good_cons : {H : History} {e : Event} → Good H → Guard H e → Good (e ∷ H)

-- r is the value at the highest number where f has one
pub data Top (f : ℕ → Option (Option Bytes)) (r : Option Bytes) : Type 0 where
  nowhere : ((x : ℕ) → f x ≡ None) → r ≡ None → Top f r
  top_at : (x : ℕ) → f x ≡ Some r → ((y : ℕ) → x < y → f y ≡ None) → Top f r

-- r is the highest number where f has a value
pub data Peak (f : ℕ → Option (Option Bytes)) (r : Option ℕ) : Type 0 where
  flat : ((x : ℕ) → f x ≡ None) → r ≡ None → Peak f r
  peak_at : (x : ℕ) → r ≡ Some x → f x ≢ None → ((y : ℕ) → x < y → f y ≡ None) → Peak f r

abbrev pub from : ℕ → (ℕ → Option (Option Bytes)) → ℕ → Option (Option Bytes)
from lo f x = keep (leb lo x) (f x)

-- what the search finds is not visible
abbrev pub Hidden : ℕ → List ℕ → Option ℕ → Type 0
Hidden t S None = ⊥
Hidden t S (Some w) = up_to t S w ≡ false

-- the Version record of key k at x, as the history has it
abbrev pub stored : History → Key → ℕ → Option (Option Bytes)
stored H k x = keep (live (status H x)) (last_write H x k)

-- the same of the committed transactions only
abbrev pub settled : History → Key → ℕ → Option (Option Bytes)
settled H k x = keep (is_done (status H x)) (last_write H x k)

-- the store says of the transactions what the history says
pub record Rep (d : Db) (H : History) : Type 0 where
  pub next : d.next ≡ suc (begins H)
  pub act : (x : ℕ) → d.act x ≡ is_open (status H x)
  pub txw : (x : ℕ) (k : Key) → d.txw x k ≡ is_open (status H x) && is_some (last_write H x k)
  pub vers : (k : Key) (x : ℕ) → d.vers k x ≡ stored H k x
  pub snap : (v : ℕ) → status H v ≢ unborn → (x : ℕ) → is_in x (d.snap v) ≡ is_open (status (past H v) x)
  pub snap-none : (v : ℕ) → status H v ≡ unborn → d.snap v ≡ []
