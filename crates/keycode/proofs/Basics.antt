-- Small facts that the laws of every layer use. Assumes nothing.
use Prim.Native.Nat.{ℕ, ◌<◌}
use mathlib.Core.Path.{◌≡◌}
use native.Mathlib.Decide.{dec_lt}
use native.Mathlib.Omega.{arith}

-- what cannot be: `nope (cc)` closes a case whose equation joins two constructors
pub nope : {C : Type 0} → ◌≡◌ {A = ℕ} 0 1 → C
nope e = absurd (omega arith)

-- which of the three two numbers are
pub data Ordered (x y : ℕ) : Type 0 where
  below : x < y → Ordered x y
  same : x ≡ y → Ordered x y
  above : y < x → Ordered x y

pub ordered : (x y : ℕ) → Ordered x y
ordered x y = go (dec_lt x y) (dec_lt y x)
  where
    go : Dec (x < y) → Dec (y < x) → Ordered x y
    go (yes h) d = below h
    go (no f) (yes h) = above h
    go (no f) (no g) = same (omega arith)
