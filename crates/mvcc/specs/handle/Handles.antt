-- A transaction's handle: its set, what it sees, where a write's search starts, and whether it is a handle at all: 13
-- where not. Every definition holds for any handle that a caller may make up. Assumes nothing.
use Rattle.std.specs.Prelude.{ℕ, ◌+◌, ◌-◌, ◌^◌, min, Bool, true, false, List, [], ◌∷◌, ◌++◌, length, take, set, replicate, eqb, leb, ltb}
use Rattle.keycode.specs.Tests.{pick}
use Rattle.keycode.specs.Limits.{max_open}
use Rattle.mvcc.specs.declared.handle.Handle.{Handle}

-- ---- sets of versions

-- whether a version is one of a set
unfoldable pub memb : ℕ → List ℕ → Bool
memb v [] = false
memb v (x ∷ xs) = pick (eqb x v) true (memb v xs)

-- whether each version is above the one before, x being before the first
unfoldable pub rising_from : ℕ → List ℕ → Bool
rising_from x [] = true
rising_from x (y ∷ ys) = pick (ltb x y) (rising_from y ys) false

unfoldable pub rising : List ℕ → Bool
unfolding rising_from
rising [] = true
rising (x ∷ xs) = rising_from x xs

-- ---- handles

-- the versions open at its begin; a count past the array counts all of it
unfoldable pub set_of : Handle → List ℕ
set_of h = take h.count h.set

-- the versions not in the set, and below its own (read-only) or up to its own (read-write)
unfoldable pub sees : Handle → ℕ → Bool
sees h v = pick (memb v (set_of h)) false (pick h.read_only (ltb v h.version) (leb v h.version))

-- the first of a set, or the version after v, as far as 64 bits go
unfoldable pub first_or : ℕ → List ℕ → ℕ
first_or v [] = min (v + 1) (2 ^ 64 - 1)
first_or v (x ∷ xs) = x

-- where a write's search for conflicts starts: a set rises, so that its first is its lowest
unfoldable pub lowest_of : Handle → ℕ
lowest_of h = first_or h.version (set_of h)

-- at most as many in the set as may be open, and rising: 13 where not
unfoldable pub sound_handle : Handle → Bool
sound_handle h = pick (leb h.count max_open) (rising (set_of h)) false

-- ---- handles that the store makes

-- the handle of a version, a mark and a set; past its set it holds zeros
unfoldable pub handle_of : ℕ → Bool → List ℕ → Handle
handle_of v ro vs = record { version = v; read_only = ro; count = length vs; set = vs ++ replicate {A = ℕ} (max_open - length vs) 0 }

-- what comes with a refusal
abbrev pub blank_handle : Handle
blank_handle = handle_of 0 true []

-- one version more in the set; as it was where there is no room
unfoldable pub with_version : Handle → ℕ → Handle
with_version h v =
    pick (ltb h.count max_open)
    (record { version = h.version; read_only = h.read_only; count = h.count + 1; set = set h.set h.count v }) h

-- versions one after the other, as long as there is room
unfoldable pub with_all : Handle → List ℕ → Handle
with_all h [] = h
with_all h (v ∷ vs) = with_all (with_version h v) vs
