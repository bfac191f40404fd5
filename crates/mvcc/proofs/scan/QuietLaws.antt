-- The walk answers a pair, 1 or 12, and nothing else. Assumes nothing.
use Prim.Native.Nat.{ℕ}
use mathlib.Core.Path.{◌≡◌}
use mathlib.Core.Bool.{Bool, true, false}
use mathlib.Core.List.{List, [], ◌∷◌}
use lib.Dec.{eqb}
use Rattle.std.specs.Prelude.{Result, Ok, Err, Option, None, Some}
use Rattle.bitcask.specs.declared.answers.KeyValue.{KeyValue}
use Rattle.keycode.specs.declared.refusal.Refusal.{Refusal}
use Rattle.keycode.specs.Tests.{pick}
use Rattle.keycode.specs.declared.parts.Part.{Part}
use Rattle.keycode.specs.declared.refusal.Refusal.TheVariants.{Absent, BadStore}
use Rattle.bitcask.specs.read.Promises.{stepped_number}
use Rattle.bitcask.specs.engine.Rows.{Row}
use Rattle.mvcc.specs.declared.handle.Handle.{Handle}
use Rattle.mvcc.specs.declared.version.Seen.{Seen}
use Rattle.mvcc.specs.declared.version.Seen.TheVariants.{Hidden, Gone, Bad, Value}
use Rattle.mvcc.specs.declared.version.Record.{Record}
use Rattle.mvcc.specs.version.Seen.{record_row}
use Rattle.mvcc.specs.declared.walk.Walk.{Walk}
use Rattle.mvcc.specs.declared.walk.Walk.TheVariants.{Start, Within, Broken, Over}
use Rattle.mvcc.specs.walk.Walks.{same_string, later_by, group_answer, closed_by, spoilt_by, next_walk, ended_by, walk_rows, step_rows}

pub data Answers : Result KeyValue Refusal → Type 0 where
  gives : (k v : Part) → Answers (Ok (record { key = k; value = v }))
  ends : Answers (Err Absent)
  breaks : Answers (Err BadStore)

abbrev Quiet : Walk → Type 0
Quiet w = Answers (ended_by w)

group_quiet : (k : Part) (x : Seen) → Answers (group_answer k x)
group_quiet k Hidden = ends
group_quiet k Gone = ends
group_quiet k Bad = breaks
group_quiet k (Value v) = gives k v

pick_quiet : (b : Bool) (w v : Walk) → Quiet w → Quiet v → Quiet (pick b w v)
pick_quiet true w v p q = p
pick_quiet false w v p q = q

later_quiet : (key : Part) (old : Seen) (k : Part) (new : Seen) → Quiet (later_by key old k new)
later_quiet key old k Hidden = group_quiet key old
later_quiet key old k Gone = ends
later_quiet key old k Bad = breaks
later_quiet key old k (Value v) = gives k v

closed_quiet : (key k : Part) (new old : Seen) → Quiet (closed_by key k new old)
closed_quiet key k new Hidden = group_quiet k new
closed_quiet key k new Gone = group_quiet k new
closed_quiet key k new Bad = breaks
closed_quiet key k new (Value v) = gives key v

spoilt_quiet : (k : Part) (x : Seen) → Quiet (spoilt_by k x)
spoilt_quiet k Hidden = breaks
spoilt_quiet k Gone = breaks
spoilt_quiet k Bad = breaks
spoilt_quiet k (Value v) = gives k v

next_quiet : (log : List ℕ) (w : Walk) (x : Option Record) → Quiet w → Quiet (next_walk log w x)
next_quiet log Start None q = breaks
next_quiet log Start (Some n) q = group_quiet n.key n.seen
next_quiet log (Within g) None q = spoilt_quiet g.key g.seen
next_quiet log (Within g) (Some n) q =
    pick_quiet (same_string log g.key n.key) (later_by g.key g.seen n.key n.seen) (closed_by g.key n.key n.seen g.seen) (later_quiet g.key g.seen n.key n.seen) (closed_quiet g.key n.key n.seen g.seen)
next_quiet log (Broken p) None q = gives p.key p.value
next_quiet log (Broken p) (Some n) q = pick_quiet (same_string log p.key n.key) (Over (Err BadStore)) (Over (Ok p)) breaks (gives p.key p.value)
next_quiet log (Over a) x q = q

module _ (h : Handle) (log : List ℕ) where
  walk_quiet : (w : Walk) (rs : List Row) → Quiet w → Quiet (walk_rows h log w rs)
  unfolding walk_rows
  walk_quiet w [] q = q
  walk_quiet w (r ∷ rs) q = walk_quiet (next_walk log w (record_row h r)) rs (next_quiet log w (record_row h r) q)

  pub step-answers : (rs : List Row) → Answers (step_rows h log rs)
  unfolding step_rows
  step-answers rs = walk_quiet Start rs ends

-- no number but 0, 1 and 12
pub answers_quiet : (n : ℕ) → eqb 0 n ≡ false → eqb 1 n ≡ false → eqb 12 n ≡ false → {x : Result KeyValue Refusal} → Answers x → eqb (stepped_number x) n ≡ false
answers_quiet n a b c (gives k v) = a
answers_quiet n a b c ends = b
answers_quiet n a b c breaks = c
