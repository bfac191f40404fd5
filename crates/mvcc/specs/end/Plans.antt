-- What the end of a transaction appends, in the words of the map. Assumes nothing.
use Rattle.std.specs.Prelude.{ℕ, List, [], ◌∷◌, ◌++◌}
use Rattle.keycode.specs.Tests.{pick}
use Rattle.bitcask.specs.entry.Entry.{Entry, del}
use Rattle.bitcask.specs.recovery.Map.{Pair, pairs_of}
use Rattle.mvcc.specs.declared.handle.Handle.{Handle}
use Rattle.mvcc.specs.request.Ranges.{write_prefix}
use Rattle.bitcask.specs.engine.Prefixes.{begins}
use Rattle.mvcc.specs.request.Checks.{active_key}
use Rattle.mvcc.specs.delete_range.Plans.{cuts_of}
use Rattle.mvcc.specs.undo.Plans.{undos_of}

-- the records of a version's writes, decodable or not
unfoldable pub writes_of : ℕ → List Pair → List Pair
writes_of v m = pairs_of (begins (write_prefix v)) m

-- ---- commit: a tombstone for each of them and for the version's TxnActive, none for a read-only handle

unfoldable pub commit_plan : Handle → List Pair → List Entry
commit_plan h m = pick h.read_only [] (cuts_of (writes_of h.version m) ++ (del (active_key h) ∷ []))

-- ---- rollback: before each of them, a tombstone for the version that it names, there or not

unfoldable pub rollback_plan : Handle → List Pair → List Entry
rollback_plan h m = pick h.read_only [] (undos_of h.version (writes_of h.version m) ++ (del (active_key h) ∷ []))
