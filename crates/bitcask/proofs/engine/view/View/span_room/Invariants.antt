-- `span_room` counts row by row.
use Prim.Native.Nat.{◌-◌}
use Rattle.bitcask.specs.engine.Views.{shown}
use Rattle.bitcask.proofs.engine.SpanLaws.{Counting}
use Rattle.bitcask.proofs.engine.view.View.span_room.Given as goal

abbrev pub invariant-loop-i : goal.invariant-loop-i
invariant-loop-i l = Counting (shown l.self) l.i-end l.initial.left l.initial.i l.left l.i

abbrev pub decreases-loop-i : goal.decreases-loop-i
decreases-loop-i l = l.i-end - l.i
