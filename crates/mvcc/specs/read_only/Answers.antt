-- What the read-only begin answers, over what it reads, in the order of refusals. Assumes nothing.
use Rattle.std.specs.Prelude.{ℕ, true, List, leb, length, Some, None, Option}
use Rattle.keycode.specs.Tests.{pick}
use Rattle.keycode.specs.Limits.{max_open}
use Rattle.keycode.specs.declared.refusal.Refusal.TheVariants.{TooManyOpen, BadStore}
use Rattle.mvcc.specs.handle.Handles.{handle_of}
use Rattle.mvcc.specs.declared.begun.Begun.{Begun}
use Rattle.mvcc.specs.request.Given.{refused_by, begun_with}

-- 12 for NextVersion or a key of the open versions, then 9 with over 16 open; nothing is appended

abbrev pub reading_with : ℕ → ℕ → Option (List ℕ) → Begun
reading_with used v None = refused_by BadStore
reading_with used v (Some vs) = pick (leb (length vs) max_open) (begun_with used (handle_of v true vs)) (refused_by TooManyOpen)

abbrev pub reading_by : ℕ → Option ℕ → Option (List ℕ) → Begun
reading_by used None o = refused_by BadStore
reading_by used (Some v) o = reading_with used v o
