-- What an unversioned set that is done makes of the map. What stands above reads the store by it. Assumes nothing.
use Prim.Native.Nat.{ℕ}
use mathlib.Core.Path.{◌≡◌}
use mathlib.Core.List.{List}
use lib.Dec.{leb}
use lib.ListN.{length}
use Rattle.std.specs.Prelude.{Result}
use Rattle.bitcask.specs.declared.request.Used.{Used}
use Rattle.keycode.specs.declared.refusal.Refusal.{Refusal}
use Rattle.keycode.specs.Limits.{max_key, max_value}
use Rattle.bitcask.specs.recovery.Agree.{fit, Agrees}
use Rattle.bitcask.specs.recovery.Promises.{changed_number}
use Rattle.bitcask.specs.change.Append.{append_answer}
use Rattle.mvcc.specs.append.Lays.{sizes_by}
use Rattle.mvcc.proofs.append.GrowLaws.{Grows, grows, fit_both}
use Rattle.mvcc.specs.unversioned.Promises.{plain_plan, SetsPlain, plain_answer}
use Rattle.mvcc.proofs.unversioned.SetLaws.{plain_sets}

pub plain_grow : {log : List ℕ} {used : ℕ} {t key value : List ℕ} {r : Result Used Refusal} {log' t' : List ℕ} → Agrees log used t → SetsPlain log used t key value r log' t' → changed_number r ≡ 0
    → Grows log used (plain_plan key value) r log'
unfolding plain_answer
plain_grow {log} {used} {t} {key} {value} {r} g w z =
    grows g (plain_sets key value) w.leaves z
    (fit_both (fit (length log) used (length t)) (sizes_by (leb (length key) max_key) (leb (length value) max_value)) (append_answer log used (length t) (plain_plan key value)) r (w.answer g) z)
