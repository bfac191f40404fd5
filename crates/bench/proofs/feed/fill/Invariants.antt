-- `fill` is safe and ends. What it has filled is what it consumed of the tape; the measure is how many bytes are left.
use Rattle.std.proofs.Common.{◌≡◌, ◌≤◌, ◌-◌, length, take}
use Rattle.std.specs.Io.KnownBytes.{Consumes}
use Rattle.bench.proofs.feed.fill.Given as goal

abbrev pub invariant-loop-n : goal.invariant-loop-n
invariant-loop-n g l = record {
  keeps_length : length l.bytes ≡ length l.initial.bytes;
  within : l.n ≤ length l.bytes;
  consumed : Consumes (g.T.Read.remaining l.initial.tape) (g.T.Read.remaining l.tape) (take l.n l.bytes);
}

abbrev pub decreases-loop-n : goal.decreases-loop-n
decreases-loop-n g l = length l.initial.bytes - l.n
