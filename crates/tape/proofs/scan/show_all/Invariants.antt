-- `show_all` goes from step to step up to the record behind the last pair.
use Prim.Native.Nat.{◌-◌, ◌/◌}
use lib.ListN.{length}
use Rattle.tape.specs.format.Layout.{record_len}
use Rattle.tape.specs.Turns.{world_of}
use Rattle.tape.proofs.ScanLaws.{Scanning}
use Rattle.tape.proofs.scan.show_all.Given as goal

abbrev pub invariant-loop-k : goal.invariant-loop-k
invariant-loop-k l = Scanning (world_of l.log l.used.len l.table) l.handle l.prefix l.initial.out l.kept l.klen l.n l.out

abbrev pub decreases-loop-k : goal.decreases-loop-k
decreases-loop-k l = length l.initial.out / record_len - l.n
