-- A scan's step over rows in the order of their keys. It reads to the last Version record of the key that it gives: a key before that
-- which does not decode is 12, one behind it is not read. Where it gives none it reads all. Assumes nothing.
use Rattle.bitcask.specs.declared.answers.KeyValue.{KeyValue}
use Rattle.keycode.specs.declared.refusal.Refusal.{Refusal}
use Rattle.std.specs.declared.cmp.Ordering.{Ordering}
use Rattle.std.specs.declared.cmp.Ordering.TheVariants.{Less, Equal, Greater}
use Rattle.std.specs.Prelude.{ℕ, Bool, true, false, List, [], ◌∷◌, take, drop, Result, Ok, Err, Option, None, Some}
use Rattle.keycode.specs.Tests.{pick}
use Rattle.keycode.specs.Order.{compare_bytes}
use Rattle.keycode.specs.declared.parts.Part.{Part}
use Rattle.keycode.specs.declared.refusal.Refusal.TheVariants.{Absent, BadStore}
use Rattle.bitcask.specs.declared.answers.Bound.{Bound}
use Rattle.bitcask.specs.read.Ranks.{admits_high}
use Rattle.bitcask.specs.engine.Rows.{Row}
use Rattle.mvcc.specs.declared.handle.Handle.{Handle}
use Rattle.mvcc.specs.declared.version.Seen.{Seen}
use Rattle.mvcc.specs.declared.version.Seen.TheVariants.{Hidden, Gone, Bad, Value}
use Rattle.mvcc.specs.declared.version.Record.{Record}
use Rattle.mvcc.specs.version.Seen.{record_row}
use Rattle.mvcc.specs.declared.walk.Walk.{Walk}
use Rattle.mvcc.specs.declared.walk.Walk.TheVariants.{Start, Within, Broken, Over}

-- ---- the rows that a walk up meets

-- from the first on, as far as an upper bound admits their keys
unfoldable pub up_to : Bound → List ℕ → List Row → List Row
up_to upper high [] = []
up_to upper high (r ∷ rs) = pick (admits_high upper (compare_bytes r.key high)) (r ∷ up_to upper high rs) []

-- from number n on
unfoldable pub up_from : Bound → List ℕ → List Row → ℕ → List Row
up_from upper high rs n = up_to upper high (drop n rs)

-- ---- the same user key

abbrev pub is_equal : Ordering → Bool
is_equal Less = false
is_equal Equal = true
is_equal Greater = false

abbrev pub part_of : List ℕ → Part → List ℕ
part_of log p = take p.len (drop p.at log)

unfoldable pub same_string : List ℕ → Part → Part → Bool
same_string log a b = is_equal (compare_bytes (part_of log a) (part_of log b))

-- ---- a group: the versions of one user key, of which the highest that the handle sees decides

-- what it says, and the place of the key that said it
abbrev pub in_group : Part → Seen → Walk
in_group key seen = Within (record { key = key; seen = seen })

-- the same with one version more
abbrev pub later_by : Part → Seen → Part → Seen → Walk
later_by key old k Hidden = in_group key old
later_by key old k Gone = in_group k Gone
later_by key old k Bad = in_group k Bad
later_by key old k (Value v) = in_group k (Value v)

-- the step's answer where it ends with the group
abbrev pub group_answer : Part → Seen → Result KeyValue Refusal
group_answer key Hidden = Err Absent
group_answer key Gone = Err Absent
group_answer key Bad = Err BadStore
group_answer key (Value v) = Ok (record { key = key; value = v })

-- ---- one record more

-- of another group: the step goes on only where the old group gives nothing
abbrev pub closed_by : Part → Part → Seen → Seen → Walk
closed_by key k new Hidden = in_group k new
closed_by key k new Gone = in_group k new
closed_by key k new Bad = Over (Err BadStore)
closed_by key k new (Value v) = Over (Ok (record { key = key; value = v }))

-- a key that does not decode, behind versions of a group
abbrev pub spoilt_by : Part → Seen → Walk
spoilt_by key Hidden = Over (Err BadStore)
spoilt_by key Gone = Over (Err BadStore)
spoilt_by key Bad = Over (Err BadStore)
spoilt_by key (Value v) = Broken (record { key = key; value = v })

abbrev pub opened_by : Option Record → Walk
opened_by None = Over (Err BadStore)
opened_by (Some x) = Within x

abbrev pub within_by : List ℕ → Part → Seen → Option Record → Walk
within_by log key seen None = spoilt_by key seen
within_by log key seen (Some x) = pick (same_string log key x.key) (later_by key seen x.key x.seen) (closed_by key x.key x.seen seen)

-- a version of the group behind a key that does not decode: the step had to read that key
abbrev pub broken_by : List ℕ → Part → Part → Option Record → Walk
broken_by log key value None = Broken (record { key = key; value = value })
broken_by log key value (Some x) = pick (same_string log key x.key) (Over (Err BadStore)) (Over (Ok (record { key = key; value = value })))

abbrev pub next_walk : List ℕ → Walk → Option Record → Walk
next_walk log Start x = opened_by x
next_walk log (Within g) x = within_by log g.key g.seen x
next_walk log (Broken p) x = broken_by log p.key p.value x
next_walk log (Over answer) x = Over answer

abbrev pub ended_by : Walk → Result KeyValue Refusal
ended_by Start = Err Absent
ended_by (Within g) = group_answer g.key g.seen
ended_by (Broken p) = Ok p
ended_by (Over answer) = answer

-- the answer is known, and no record behind changes it
abbrev pub is_over : Walk → Bool
is_over Start = false
is_over (Within g) = false
is_over (Broken p) = false
is_over (Over answer) = true

-- ---- the step

unfoldable pub walk_rows : Handle → List ℕ → Walk → List Row → Walk
walk_rows h log w [] = w
walk_rows h log w (r ∷ rs) = walk_rows h log (next_walk log w (record_row h r)) rs

unfoldable pub step_rows : Handle → List ℕ → List Row → Result KeyValue Refusal
step_rows h log rs = ended_by (walk_rows h log Start rs)
