-- What the store keeps under its keys: versions, sets of versions, stored values. The first edition is fixed here;
-- another may read several payloads alike, so that nothing but 'read after write' may be used of an edition. Assumes nothing.
use Rattle.std.specs.Prelude.{ℕ, zero, suc, ◌/◌, ◌%◌, ◌^◌, ◌<◌, ◌≡◌, Bool, List, [], ◌∷◌, ◌++◌, length, take, drop, get_or, eqb, leb, Some, None, Option, Result, Ok, Err}
use Rattle.keycode.specs.Tests.{pick}
use Rattle.keycode.specs.Limits.{max_open}
use Rattle.keycode.specs.Number.{be, num}
use Rattle.keycode.specs.declared.refusal.Refusal.{Refusal}
use Rattle.keycode.specs.declared.refusal.Refusal.TheVariants.{TooManyOpen, BadStore}
use Rattle.mvcc.specs.declared.handle.Handle.{Handle}
use Rattle.mvcc.specs.declared.payload.Stored.{Stored}
use Rattle.mvcc.specs.declared.payload.Stored.TheVariants.{Value, Gone}
use Rattle.mvcc.specs.handle.Handles.{rising, handle_of}

-- ---- any edition

-- how versions, sets and optional values are written, and what is read; none where a payload holds no set
pub record Edition : Type 0 where
  pub write_version : ℕ → List ℕ
  pub read_version : List ℕ → Option ℕ
  pub write_set : List ℕ → List ℕ
  pub read_set : List ℕ → Option (List ℕ)
  pub write_value : Option (List ℕ) → List ℕ
  pub read_value : List ℕ → Option Stored

-- what a reader found in a payload: a value's bytes, or none for a tombstone; or that the payload is neither
abbrev pub value_at : List ℕ → Option Stored → Option (Option (List ℕ))
value_at b (Some (Value skip)) = Some (Some (drop skip b))
value_at b (Some Gone) = Some None
value_at b None = None

-- every element is a version, as a slice's rule gives it
abbrev pub Versions : List ℕ → Type 0
Versions vs = (i : ℕ) → get_or vs i 0 < 2 ^ 64

pub record ReadsBack (e : Edition) : Type 0 where
  pub version : (v : ℕ) → v < 2 ^ 64 → e.read_version (e.write_version v) ≡ Some v
  pub set : (vs : List ℕ) → Versions vs → e.read_set (e.write_set vs) ≡ Some vs
  pub value : (v : Option (List ℕ)) → value_at (e.write_value v) (e.read_value (e.write_value v)) ≡ Some v

-- ---- the first edition

abbrev pub version_bytes : ℕ → List ℕ
version_bytes v = be 8 v

unfoldable pub version_in : List ℕ → Option ℕ
version_in b = pick (eqb (length b) 8) (Some (num b)) None

unfoldable pub set_bytes : List ℕ → List ℕ
set_bytes [] = []
set_bytes (v ∷ vs) = be 8 v ++ set_bytes vs

-- the first n versions of a payload
unfoldable pub versions_of : ℕ → List ℕ → List ℕ
versions_of zero b = []
versions_of (suc n) b = num (take 8 b) ∷ versions_of n (drop 8 b)

-- whether a payload is versions, with no byte left over
abbrev pub whole_set : List ℕ → Bool
whole_set b = eqb (length b % 8) 0

unfoldable pub set_in : List ℕ → Option (List ℕ)
set_in b = pick (whole_set b) (Some (versions_of (length b / 8) b)) None

-- a value is 01 and then its bytes; a tombstone is 00
unfoldable pub value_bytes : Option (List ℕ) → List ℕ
value_bytes (Some v) = 1 ∷ v
value_bytes None = 0 ∷ []

unfoldable pub value_in : List ℕ → Option Stored
value_in [] = None
value_in (zero ∷ []) = Some Gone
value_in (zero ∷ y ∷ r) = None
value_in (suc zero ∷ r) = Some (Value 1)
value_in (suc (suc t) ∷ r) = None

abbrev pub first : Edition
first = record { write_version = version_bytes; read_version = version_in; write_set = set_bytes; read_set = set_in; write_value = value_bytes; read_value = value_in }

-- ---- a handle's set, read

-- whether as many versions may be open at once
abbrev pub few_enough : List ℕ → Bool
few_enough vs = leb (length vs) max_open

-- 12 for a payload that holds no set, 9 for a set over the limit, 12 for one that does not rise, in this order
unfoldable pub set_for : Handle → Option (List ℕ) → Result Handle Refusal
set_for h None = Err BadStore
set_for h (Some vs) =
    pick (few_enough vs)
    (pick (rising vs) (Ok (handle_of h.version h.read_only vs)) (Err BadStore))
    (Err TooManyOpen)
