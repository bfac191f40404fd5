-- The range of the byte strings that begin with a prefix, and what a user prefix is searched as.
-- Assumes nothing.
use Rattle.std.specs.declared.cmp.Ordering.TheVariants.{Less}
use Rattle.std.specs.Prelude.{ℕ, suc, ◌≡◌, List, [], ◌∷◌, ◌++◌, take, ltb, Option, Some, None}
use Rattle.keycode.specs.Tests.{pick}
use Rattle.keycode.specs.Order.{compare_bytes}
use Rattle.keycode.specs.Strings.{escape_body}
use Rattle.keycode.specs.declared.prefix.End.{End}

-- the end with one byte more in front: where no byte behind it can be raised, it is raised itself unless it is ff
unfoldable pub in_front : ℕ → Option End → Option End
in_front x (Some e) = Some (record { keep = suc e.keep; last = e.last })
in_front x None = pick (ltb x 255) (Some (record { keep = 0; last = suc x })) None

-- the prefix cut after its last byte that is not ff, with that byte raised by one: how many bytes stand before it, and the raised byte
unfoldable pub prefix_end : List ℕ → Option End
prefix_end [] = None
prefix_end (x ∷ p) = in_front x (prefix_end p)

-- a string lies below the end of the prefix p
abbrev pub Under : List ℕ → List ℕ → Option End → Type 0
Under k p (Some e) = compare_bytes k (take e.keep p ++ (e.last ∷ [])) ≡ Less
Under k p None = Unit {0}

-- what the Version keys of the user keys that begin with p begin with: Version's encoding of p without its last 00 00 and without a version
abbrev pub searched : List ℕ → List ℕ
searched p = 4 ∷ escape_body p
