-- `put_versions` lays version by version.
use lib.ListN.{drop}
use Rattle.keycode.proofs.BufferLaws.{Laying}
use Rattle.mvcc.specs.payload.Payloads.{set_bytes}
use Rattle.mvcc.proofs.payload.put_versions.Given as goal

abbrev pub invariant-loop-version : goal.invariant-loop-version
invariant-loop-version l = Laying l.initial.out 0 (set_bytes l.set) l.out l.o (set_bytes (drop l.version-index l.set))
