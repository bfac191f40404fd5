-- An encoded Version key begins with the bytes that a user prefix is searched as just where its user key begins with the prefix.
-- Assumes nothing.
use Prim.Native.Nat.{ℕ}
use mathlib.Core.Path.{◌≡◌, ap}
use mathlib.Core.List.{List, ◌∷◌, ◌++◌}
use Rattle.keycode.specs.Number.{be}
use Rattle.keycode.specs.Strings.{escape}
use Rattle.keycode.specs.Prefix.{searched}
use Rattle.keycode.proofs.PrefixLaws.{prefix_escaped, prefix_unescaped}
use Rattle.keycode.specs.key.Keys.{encode, version}

pub searched-begins : (p w : List ℕ) (v : ℕ) → encode (version (p ++ w) v) ≡ searched p ++ (escape w ++ be 8 v)
searched-begins p w v = ap (λ (r : List ℕ). 4 ∷ r) (prefix_escaped p w (be 8 v))

pub searched_only : (p s u : List ℕ) (v : ℕ) → searched p ++ u ≡ encode (version s v) → (w : List ℕ) × (s ≡ p ++ w)
searched_only p s u v e = prefix_unescaped p s (be 8 v) u (cc)
