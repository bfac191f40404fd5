-- `compare` passes over the eights that both have alike.
use Prim.Native.Nat.{◌*◌}
use mathlib.Core.Path.{◌≡◌}
use lib.ListN.{length, take, drop}
use Rattle.keycode.specs.Order.{compare_bytes}
use Rattle.keycode.proofs.order.compare.Given as goal

abbrev pub invariant-loop-p : goal.invariant-loop-p
invariant-loop-p l = compare_bytes (take l.n l.a) (take l.n l.b) ≡ compare_bytes (drop (length l.yielded * 8) (take l.n l.a)) (drop (length l.yielded * 8) (take l.n l.b))
