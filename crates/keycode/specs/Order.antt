-- The order of byte strings, which is the order of keys everywhere in the store. Assumes nothing.
use Rattle.std.specs.declared.cmp.Ordering.{Ordering}
use Rattle.std.specs.declared.cmp.Ordering.TheVariants.{Less, Equal, Greater}
use Rattle.std.specs.Prelude.{ℕ, List, [], ◌∷◌, ltb}
use Rattle.keycode.specs.Tests.{pick}

-- the first that is not Equal
abbrev pub and_then : Ordering → Ordering → Ordering
and_then Less o = Less
and_then Equal o = o
and_then Greater o = Greater

-- by an order: the first where it is Less, the second where Equal, the third where Greater
abbrev pub by_order : {A : Type 0} → Ordering → A → A → A → A
by_order Less a b c = a
by_order Equal a b c = b
by_order Greater a b c = c

-- the order of two numbers
unfoldable pub compare_nat : ℕ → ℕ → Ordering
compare_nat x y = pick (ltb x y) Less (pick (ltb y x) Greater Equal)

-- the order of two byte strings: that of the first bytes that differ; where one begins the other, the shorter is less
unfoldable pub compare_bytes : List ℕ → List ℕ → Ordering
compare_bytes [] [] = Equal
compare_bytes [] (y ∷ ys) = Less
compare_bytes (x ∷ xs) [] = Greater
compare_bytes (x ∷ xs) (y ∷ ys) = and_then (compare_nat x y) (compare_bytes xs ys)
