-- What a write that is done makes of the map. What stands above reads the store by it. Assumes nothing.
use Prim.Native.Nat.{ℕ}
use mathlib.Core.Path.{◌≡◌}
use mathlib.Core.List.{List}
use lib.Dec.{leb}
use lib.ListN.{length}
use Rattle.std.specs.Prelude.{Result}
use Rattle.bitcask.specs.declared.request.Used.{Used}
use Rattle.keycode.specs.declared.refusal.Refusal.{Refusal}
use Rattle.keycode.specs.Limits.{max_key, max_value}
use Rattle.bitcask.specs.recovery.Recover.{map_of}
use Rattle.bitcask.specs.recovery.Agree.{fit, Agrees}
use Rattle.bitcask.specs.recovery.Promises.{changed_number}
use Rattle.bitcask.specs.change.Append.{append_answer}
use Rattle.mvcc.specs.declared.handle.Handle.{Handle}
use Rattle.mvcc.specs.handle.Handles.{sound_handle}
use Rattle.bitcask.specs.recovery.Map.{pairs_of, live_in}
use Rattle.mvcc.specs.request.Checks.{active_key, open_by}
use Rattle.mvcc.proofs.append.GrowLaws.{Grows, grows, else_both}
use Rattle.mvcc.specs.write.Writes.{allow_by, plan}
use Rattle.mvcc.specs.conflict.Conflicts.{search_by, searched}
use Rattle.mvcc.specs.write.Promises.{Writes, write_answer}
use Rattle.mvcc.proofs.write.WriteLaws.{plan-sets}

pub writes_grow : {log : List ℕ} {used : ℕ} {t : List ℕ} {h : Handle} {key payload : List ℕ} {size : ℕ} {r : Result Used Refusal} {log' t' : List ℕ} → Agrees log used t
    → Writes log used t h key payload size r log' t' → changed_number r ≡ 0 → Grows log used (plan h.version key payload) r log'
unfolding write_answer
writes_grow {log} {used} {t} {h} {key} {payload} {size} {r} g w z =
    grows g (plan-sets h.version key payload) w.leaves z
    (else_both
    (allow_by (fit (length log) used (length t)) (sound_handle h) h.read_only (open_by h (live_in (active_key h) (map_of log used))) (leb (length key) max_key) (leb size max_value))
    (search_by h (pairs_of (searched h key) (map_of log used))) (append_answer log used (length t) (plan h.version key payload)) r (w.answer g) z)
