-- `gathered` adds version by version.
use Prim.Native.Nat.{◌/◌}
use mathlib.Core.Path.{◌≡◌}
use mathlib.Core.List.{[]}
use lib.ListN.{length}
use Rattle.std.specs.Slice.Iter.{chunks_exact_rest, chunks_exact_size}
use Rattle.mvcc.specs.handle.Handles.{handle_of, with_all}
use Rattle.mvcc.specs.payload.Payloads.{versions_of}
use Rattle.mvcc.proofs.payload.gathered.Given as goal

abbrev pub invariant-loop-version : goal.invariant-loop-version
invariant-loop-version l = record {
  size : chunks_exact_size l.version-iterator ≡ 8;
  same : with_all l.handle (versions_of (length (chunks_exact_rest l.version-iterator) / 8) (chunks_exact_rest l.version-iterator)) ≡ with_all (handle_of l.fn.version l.read_only []) (versions_of (length l.bytes / 8) l.bytes);
}
