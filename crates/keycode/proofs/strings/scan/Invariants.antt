-- `scan` steps over a string to its end; what the whole scans to is what the rest does.
use Prim.Native.Nat.{◌-◌, ◌≤◌}
use mathlib.Core.Path.{◌≡◌}
use lib.ListN.{length, drop}
use Rattle.keycode.specs.Limits.{max_key}
use Rattle.keycode.specs.Strings.{scanned}
use Rattle.keycode.proofs.strings.scan.Given as goal

abbrev pub invariant-loop-j : goal.invariant-loop-j
invariant-loop-j l = (l.at ≤ l.i) × (l.i ≤ length l.s) × (scanned max_key l.at (drop l.at l.s) ≡ scanned l.left l.i (drop l.i l.s))

abbrev pub decreases-loop-j : goal.decreases-loop-j
decreases-loop-j l = length l.s - l.i
