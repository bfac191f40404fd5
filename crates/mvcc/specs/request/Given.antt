-- What the calls that give a handle answer: a refusal comes with the blank one. Assumes nothing.
use Rattle.bitcask.specs.declared.request.Used.{Used}
use Rattle.std.specs.Prelude.{ℕ, Result, Ok, Err}
use Rattle.keycode.specs.declared.refusal.Refusal.{Refusal}
use Rattle.bitcask.specs.recovery.Promises.{changed_number}
use Rattle.mvcc.specs.declared.handle.Handle.{Handle}
use Rattle.mvcc.specs.handle.Handles.{blank_handle}
use Rattle.mvcc.specs.declared.begun.Begun.{Begun}

abbrev pub refused_by : Refusal → Begun
refused_by r = record { answer = Err r; handle = blank_handle }

abbrev pub begun_with : ℕ → Handle → Begun
begun_with used h = record { answer = Ok (record { len = used }); handle = h }

-- of a used length and a handle, or a refusal
abbrev pub begun_of : Result (Used × Handle) Refusal → Begun
begun_of (Ok p) = record { answer = Ok p.0; handle = p.1 }
begun_of (Err r) = refused_by r

abbrev pub begun_number : Begun → ℕ
begun_number r = changed_number r.answer
