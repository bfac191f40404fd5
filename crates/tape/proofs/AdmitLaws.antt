-- What is known of a record that is not bad: its command, its slot, and how the slot stands. Assumes nothing.
use Prim.Native.Nat.{ℕ, ◌≤◌, ◌<◌}
use mathlib.Core.Path.{◌≡◌, refl, ap, ◌∙◌}
use mathlib.Core.Bool.{Bool, true, false, not}
use mathlib.Core.List.{List}
use native.Mathlib.Omega.{arith}
use lib.Dec.{leb}
use borrow.Author.Tests.{leb-true, le-leb, lt-leb}
use Rattle.keycode.specs.Tests.{pick}
use Rattle.tape.specs.declared.format.request.Request.{Request}
use Rattle.tape.specs.format.Requests.{fields_of, between, slot_most, modest, proper}
use Rattle.tape.specs.format.Slots.{filled, slot_fits}
use Rattle.mvcc.specs.world.World.{World}
use Rattle.tape.specs.Turns.{Held, looking, writing, scanning, ending, admitted}

-- both halves of a test
both : (a : Bool) {b : Bool} → pick a b false ≡ true → (a ≡ true) × (b ≡ true)
both true e = (refl, e)
both false e = let z : ◌≡◌ {A = ℕ} 0 1 = ap (λ (x : Bool). pick x 1 0) e in absurd (omega arith)

most_slot : (c : ℕ) → slot_most c ≤ 15
unfolding slot_most
most_slot c = go (leb c 9)
  where
    go : (b : Bool) → pick b 15 0 ≤ 15
    go true = omega arith
    go false = omega arith

-- ---- the tests

pub fits-empty : (c : ℕ) (full : Bool) → c ≤ 3 → not full ≡ slot_fits c full
unfolding slot_fits
fits-empty c full h = rw (le-leb c 3 h)

pub fits-filled : (c : ℕ) (full : Bool) → 3 < c → c ≤ 9 → full ≡ slot_fits c full
unfolding slot_fits
fits-filled c full h k = rw (lt-leb c 3 h, le-leb c 9 k)

pub fits_any : (c : ℕ) (full : Bool) → 9 < c → true ≡ slot_fits c full
unfolding slot_fits
fits_any c full h = rw (lt-leb c 3 (omega arith), lt-leb c 9 h)

module _ (r slots : List ℕ) {b : Bool} (eb : b ≡ proper r) where
  pub admit_not : b ≡ false → false ≡ admitted r slots
  unfolding admitted
  admit_not e = rw (← eb, e)

  pub admit_so : b ≡ true → {q : Request} {full d : Bool} → q ≡ fields_of r → full ≡ filled slots q.slot → d ≡ slot_fits q.command full → d ≡ admitted r slots
  unfolding admitted
  admit_so e {q} f g h = h ∙ rw (g, f, ← eb, e)

-- ---- what they tell

modest-told : (r : List ℕ) → proper r ≡ true → modest (fields_of r) ≡ true
unfolding proper
modest-told r e = (both (modest (fields_of r)) e).0

pub proper-slot : (r : List ℕ) → proper r ≡ true → (fields_of r).slot < 16
unfolding modest
proper-slot r e =
    let m = (both (between 1 11 (fields_of r).command) (modest-told r e)).1 in
    omega (arith, leb-true (fields_of r).slot (slot_most (fields_of r).command) (both (leb (fields_of r).slot (slot_most (fields_of r).command)) m).0, most_slot (fields_of r).command)

module _ (r slots : List ℕ) (e : admitted r slots ≡ true) where
  proper-told : proper r ≡ true
  unfolding admitted
  proper-told = (both (proper r) e).0

  known : between 1 11 (fields_of r).command ≡ true
  unfolding modest
  known = (both (between 1 11 (fields_of r).command) (modest-told r proper-told)).0

  pub command_least : 1 ≤ (fields_of r).command
  unfolding between
  command_least = leb-true 1 (fields_of r).command (both (leb 1 (fields_of r).command) known).0

  pub command_most : (fields_of r).command ≤ 11
  unfolding between
  command_most = leb-true (fields_of r).command 11 (both (leb 1 (fields_of r).command) known).1

  pub slot-below : (fields_of r).slot < 16
  slot-below = proper-slot r proper-told

  pub slot-filled : 4 ≤ (fields_of r).command → (fields_of r).command ≤ 9 → filled slots (fields_of r).slot ≡ true
  unfolding admitted slot_fits
  slot-filled a b = rw (lt-leb (fields_of r).command 3 (omega arith), le-leb (fields_of r).command 9 b) at (both (proper r) e).1

-- the commands that are made with the handle of a slot
pub held_commands : {w : World} {slots : List ℕ} {q : Request} {k v : List ℕ} {room : ℕ} {w' : World} {slots' x : List ℕ} → Held w slots q k v room w' slots' x → (4 ≤ q.command) × (q.command ≤ 9)
held_commands (looking c p) = (omega (arith, c), omega (arith, c))
held_commands (writing c d p) = (omega (arith, c), omega (arith, d))
held_commands (scanning c p) = (omega (arith, c), omega (arith, c))
held_commands (ending c d p) = (omega (arith, c), d)
