-- The rows whose keys begin with a prefix: from the prefix to its end. Assumes nothing.
use Rattle.std.specs.Prelude.{ℕ, ◌+◌, ◌*◌, Bool, true, false, List, [], ◌∷◌, ◌++◌, eqb, take, Option, Some, None}
use Rattle.keycode.specs.Tests.{pick}
use Rattle.keycode.specs.Limits.{max_key}
use Rattle.keycode.specs.Prefix.{prefix_end}
use Rattle.keycode.specs.declared.prefix.End.{End}
use Rattle.bitcask.specs.declared.answers.Bound.{Bound}
use Rattle.bitcask.specs.declared.answers.Bound.TheVariants.{Included, Excluded, Unbounded}
use Rattle.bitcask.specs.declared.engine.span.Span.{Span}
use Rattle.bitcask.specs.engine.Rows.{Row}
use Rattle.bitcask.specs.engine.Ranges.{Spans}

-- the longest prefix: as long as the longest key
abbrev pub prefix_most : ℕ
prefix_most = 1 + 8 + 2 * max_key + 2

-- a key that begins with p
unfoldable pub begins : List ℕ → List ℕ → Bool
begins [] key = true
begins (x ∷ p) [] = false
begins (x ∷ p) (y ∷ key) = pick (eqb y x) (begins p key) false

-- the upper bound of the keys that begin with a prefix, by the prefix's end
abbrev pub end_bound : Option End → Bound
end_bound (Some e) = Excluded
end_bound None = Unbounded

abbrev pub end_bytes : List ℕ → Option End → List ℕ
end_bytes p (Some e) = take e.keep p ++ (e.last ∷ [])
end_bytes p None = []

-- r is where the rows of a prefix start and end
abbrev pub Prefixes : List Row → List ℕ → Span → Type 0
Prefixes rs p r = Spans rs Included p (end_bound (prefix_end p)) (end_bytes p (prefix_end p)) r
