-- What as-of promises, in three parts. Always: what a refusal leaves. Request: the number that needs no table, exactly in its case. Agreed:
-- where the table agrees with the log, the answer is the map's. Log and table are lent for reading alone. Assumes nothing.
use Rattle.std.specs.Prelude.{ℕ, ◌≡◌, not, List, eqb, length}
use Rattle.keycode.specs.Tests.{if_done}
use Rattle.keycode.specs.key.Keys.{encode, txn_active_snapshot}
use Rattle.bitcask.specs.recovery.Map.{look_in}
use Rattle.bitcask.specs.recovery.Recover.{map_of}
use Rattle.bitcask.specs.recovery.Agree.{fit, Agrees}
use Rattle.mvcc.specs.handle.Handles.{blank_handle}
use Rattle.mvcc.specs.declared.begun.Begun.{Begun}
use Rattle.mvcc.specs.request.Given.{begun_number}
use Rattle.mvcc.specs.snapshot.Active.{next_at}
use Rattle.mvcc.specs.as_of.Answers.{as_of_by}

pub record BeginsAsOf (log : List ℕ) (used : ℕ) (t : List ℕ) (v : ℕ) (r : Begun) : Type 0 where
  pub blank : r.handle ≡ if_done (begun_number r) r.handle blank_handle
  pub bad : eqb (begun_number r) 13 ≡ not (fit (length log) used (length t))
  pub answer : Agrees log used t → r ≡ as_of_by used v (next_at (map_of log used)) (look_in (encode (txn_active_snapshot v)) (map_of log used))
