-- The lengths that a write may have. Assumes nothing.
use Prim.Native.Nat.{ℕ, ◌<◌, ◌≤◌}
use mathlib.Core.Path.{◌≡◌}
use lib.Dec.{leb}
use borrow.Author.Tests.{le-leb, lt-leb}
use Rattle.std.specs.Prelude.{Ok, Err}
use Rattle.keycode.specs.Limits.{max_key, max_value}
use Rattle.keycode.specs.declared.refusal.Refusal.TheVariants.{KeyTooLong, ValueTooLong}
use Rattle.mvcc.specs.append.Lays.{sizes_by}

module _ (k v : ℕ) where
  pub size_key : max_key < k → Err KeyTooLong ≡ sizes_by (leb k max_key) (leb v max_value)
  unfolding sizes_by
  size_key h = rw (lt-leb k max_key h)

  pub size_value : k ≤ max_key → max_value < v → Err ValueTooLong ≡ sizes_by (leb k max_key) (leb v max_value)
  unfolding sizes_by
  size_value h g = rw (le-leb k max_key h, lt-leb v max_value g)

  pub size_fine : k ≤ max_key → v ≤ max_value → (Ok tt) ≡ sizes_by (leb k max_key) (leb v max_value)
  unfolding sizes_by
  size_fine h g = rw (le-leb k max_key h, le-leb v max_value g)
