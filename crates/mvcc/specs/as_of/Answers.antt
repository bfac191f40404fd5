-- What as-of answers, over what it reads, in the order of refusals. Assumes nothing.
use Rattle.std.specs.Prelude.{ℕ, true, List, [], leb, Some, None, Option, Result, Ok, Err}
use Rattle.keycode.specs.declared.refusal.Refusal.{Refusal}
use Rattle.keycode.specs.Tests.{pick}
use Rattle.keycode.specs.declared.refusal.Refusal.TheVariants.{NoSuchVersion, BadStore}
use Rattle.mvcc.specs.declared.handle.Handle.{Handle}
use Rattle.mvcc.specs.handle.Handles.{handle_of}
use Rattle.mvcc.specs.payload.Payloads.{set_in, set_for}
use Rattle.mvcc.specs.declared.begun.Begun.{Begun}
use Rattle.mvcc.specs.request.Given.{refused_by, begun_with}

-- 12 for NextVersion, 10 for a version not given yet, then the stored snapshot p; an empty set where there is none

unfoldable pub snapshot_read : ℕ → Option (List ℕ) → Result Handle Refusal
snapshot_read v None = Ok (handle_of v true [])
snapshot_read v (Some p) = set_for (handle_of v true []) (set_in p)

abbrev pub as_of_with : ℕ → Result Handle Refusal → Begun
as_of_with used (Ok h) = begun_with used h
as_of_with used (Err r) = refused_by r

abbrev pub as_of_by : ℕ → ℕ → Option ℕ → Option (List ℕ) → Begun
as_of_by used v None p = refused_by BadStore
as_of_by used v (Some n) p = pick (leb n v) (refused_by NoSuchVersion) (as_of_with used (snapshot_read v p))
