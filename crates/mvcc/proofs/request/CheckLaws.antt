-- The checks that come first, and their numbers. Assumes nothing.
use Prim.Native.Nat.{ℕ, ◌-◌, ◌^◌}
use mathlib.Core.Path.{◌≡◌, refl}
use mathlib.Core.Bool.{Bool, true, false, not}
use native.Mathlib.Omega.{arith}
use lib.Dec.{eqb}
use borrow.Author.Tests.{eq-eqb, ne_eqb}
use Rattle.std.specs.Prelude.{Result, ⊤, Ok}
use Rattle.keycode.specs.Tests.{pick}
use Rattle.keycode.specs.Refusals.{number_of}
use Rattle.keycode.specs.declared.refusal.Refusal.{Refusal}
use Rattle.keycode.proofs.Basics.{nope}
use Rattle.keycode.proofs.BufferLaws.{refused_stays}
use Rattle.mvcc.specs.declared.handle.Handle.{Handle}
use Rattle.mvcc.specs.request.Checks.{own_version, open_by, admit_by, check_number, on_fine}

-- ---- open

module _ (h : Handle) (live : Bool) where
  pub open_read : h.read_only ≡ true → true ≡ open_by h live
  unfolding open_by
  open_read r = rw r

  module _ (r : h.read_only ≡ false) where
    pub open_zero : h.version ≡ 0 → false ≡ open_by h live
    unfolding open_by own_version
    open_zero e = rw (r, eq-eqb h.version 0 e)

    module _ (n : h.version ≡ 0 → ⊥) where
      pub open_last : h.version ≡ 2 ^ 64 - 1 → false ≡ open_by h live
      unfolding open_by own_version
      open_last e = rw (r, ne_eqb h.version 0 n, eq-eqb h.version (2 ^ 64 - 1) e)

      pub open_live : (h.version ≡ 2 ^ 64 - 1 → ⊥) → live ≡ open_by h live
      unfolding open_by own_version
      open_live m = rw (r, ne_eqb h.version 0 n, ne_eqb h.version (2 ^ 64 - 1) m)

-- ---- admit

-- no refusal has number 0
pub not_done : (r : Refusal) → number_of r ≡ 0 → ⊥
not_done r z = let w : ◌≡◌ {A = ℕ} 1 0 = rw z at (refused_stays {A = ℕ} r 0 1) in omega arith

-- its numbers, each in its own case
pub admit_bad : (fits sound active : Bool) → eqb (check_number (admit_by fits sound active)) 13 ≡ not (pick fits sound false)
unfolding admit_by
admit_bad true true true = refl
admit_bad true true false = refl
admit_bad true false active = refl
admit_bad false sound active = refl

pub admit_not_open : (fits sound active : Bool) → eqb (check_number (admit_by fits sound active)) 3 ≡ pick fits (pick sound (not active) false) false
unfolding admit_by
admit_not_open true true true = refl
admit_not_open true true false = refl
admit_not_open true false active = refl
admit_not_open false sound active = refl

-- what a check that passed says
pub record Admitted (fits sound active : Bool) : Type 0 where
  pub sizes : fits ≡ true
  pub handle : sound ≡ true
  pub opened : active ≡ true

pub admit_fine : (fits sound active : Bool) → (Ok tt) ≡ admit_by fits sound active → Admitted fits sound active
unfolding admit_by
admit_fine true true true e = record { sizes = refl; handle = refl; opened = refl }
admit_fine true true false e = nope (cc)
admit_fine true false active e = nope (cc)
admit_fine false sound active e = nope (cc)

-- ---- handles that every store has open, and handles that none has: what needs no table of number 3

open_by_lem : (a b live : Bool) → pick a true (pick b true false) ≡ false → pick a true (pick b live false) ≡ false
open_by_lem true b live e = nope (cc)
open_by_lem false true live e = nope (cc)
open_by_lem false false live e = refl

pub open_never : (h : Handle) (live : Bool) → open_by h true ≡ false → open_by h live ≡ false
unfolding open_by
open_never h live e = open_by_lem h.read_only (own_version h.version) live e

read_by : (a b live : Bool) → pick a true (pick b false false) ≡ true → pick a true (pick b live false) ≡ true
read_by true b live e = refl
read_by false true live e = nope (cc)
read_by false false live e = nope (cc)

pub open_ever : (h : Handle) (live : Bool) → open_by h false ≡ true → open_by h live ≡ true
unfolding open_by
open_ever h live e = read_by h.read_only (own_version h.version) live e

-- ---- the number of an answer that comes behind the checks, n being that of what follows them

abbrev pub behind : Result ⊤ Refusal → ℕ → ℕ
behind c n = on_fine c n (check_number c)

module _ (n : ℕ) where
  pub behind-bad : (fits sound active : Bool) → eqb n 13 ≡ false → eqb (behind (admit_by fits sound active) n) 13 ≡ not (pick fits sound false)
  unfolding admit_by
  behind-bad true true true e = e
  behind-bad true true false e = refl
  behind-bad true false active e = refl
  behind-bad false sound active e = refl

  pub behind-never : (fits sound : Bool) → eqb (behind (admit_by fits sound false) n) 3 ≡ pick fits sound false
  unfolding admit_by
  behind-never true true = refl
  behind-never true false = refl
  behind-never false sound = refl

  pub behind-ever : (fits sound : Bool) → eqb n 3 ≡ false → eqb (behind (admit_by fits sound true) n) 3 ≡ false
  unfolding admit_by
  behind-ever true true e = e
  behind-ever true false e = refl
  behind-ever false sound e = refl

  pub behind-long : (fits sound b : Bool) → eqb n 4 ≡ b → eqb (behind (admit_by fits sound true) n) 4 ≡ pick (pick fits sound false) b false
  unfolding admit_by
  behind-long true true b e = e
  behind-long true false b e = refl
  behind-long false sound b e = refl
