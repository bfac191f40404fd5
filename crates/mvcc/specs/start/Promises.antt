-- What begin promises, in three parts. Always: what a refusal leaves. Request: the number that needs no table, exactly in its case.
-- Agreed: where the table agrees with the log, the answer and every byte are the map's. Assumes nothing.
use Rattle.std.specs.Prelude.{ℕ, ◌+◌, ◌≤◌, ◌≡◌, not, List, eqb, length, Ok}
use Rattle.keycode.specs.Tests.{if_done}
use Rattle.keycode.specs.Buffer.{put}
use Rattle.bitcask.specs.declared.request.Used.{Used}
use Rattle.bitcask.specs.recovery.Recover.{map_of}
use Rattle.bitcask.specs.recovery.Agree.{fit, Agrees}
use Rattle.bitcask.specs.change.Append.{size_all, bytes_all, after_all}
use Rattle.mvcc.specs.handle.Handles.{blank_handle}
use Rattle.mvcc.specs.declared.begun.Begun.{Begun}
use Rattle.mvcc.specs.request.Given.{begun_number}
use Rattle.mvcc.specs.snapshot.Active.{next_at, active_at}
use Rattle.mvcc.specs.start.Plan.{plan_of}
use Rattle.mvcc.specs.start.Begins.{begin_by}

pub record Begins (log : List ℕ) (used : ℕ) (t : List ℕ) (r : Begun) (log' t' : List ℕ) : Type 0 where
  -- always
  pub bytes : log' ≡ if_done (begun_number r) (put log used (bytes_all (plan_of r.handle))) log
  pub words : t' ≡ if_done (begun_number r) t' t
  pub long : length t' ≡ length t
  pub ends : (u : Used) → r.answer ≡ Ok u → (u.len ≡ used + size_all (plan_of r.handle)) × (used + size_all (plan_of r.handle) ≤ length log)
  pub blank : r.handle ≡ if_done (begun_number r) r.handle blank_handle
  -- request
  pub bad : eqb (begun_number r) 13 ≡ not (fit (length log) used (length t))
  -- agreed
  pub answer : Agrees log used t → r ≡ begin_by log used (length t) (next_at (map_of log used)) (active_at (map_of log used))
  pub again : Agrees log used t → begun_number r ≡ 0 → Agrees log' (used + size_all (plan_of r.handle)) t'
  pub map : Agrees log used t → begun_number r ≡ 0 → map_of log' (used + size_all (plan_of r.handle)) ≡ after_all (plan_of r.handle) (map_of log used)
