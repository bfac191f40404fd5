-- A world is log, used length and table. A public call is what it was lent beside the store and what it answered, of the log layer as of
-- the transactions; what happened is the list of the calls, the latest first. Assumes nothing.
use Rattle.bitcask.specs.declared.request.Used.{Used}
use Rattle.keycode.specs.declared.refusal.Refusal.{Refusal}
use Rattle.keycode.specs.declared.parts.Part.{Part}
use Rattle.bitcask.specs.declared.answers.KeyValue.{KeyValue}
use Rattle.bitcask.specs.declared.report.Counts.{Counts}
use Rattle.mvcc.specs.declared.report.Versions.{Versions}
use Rattle.std.specs.Prelude.{ℕ, Bool, List, Result}
use Rattle.bitcask.specs.declared.answers.Bound.{Bound}
use Rattle.mvcc.specs.declared.handle.Handle.{Handle}
use Rattle.mvcc.specs.declared.begun.Begun.{Begun}

pub record World : Type 0 where
  pub log : List ℕ
  pub used : ℕ
  pub table : List ℕ

-- ---- calls

-- a public call: what it was lent beside the store, and what it answered
pub data Call : Type 0 where
  opens : Result Used Refusal → Call
  compacts : Result Used Refusal → Call
  begins : Begun → Call
  begins_reading : Begun → Call
  begins_as_of : ℕ → Begun → Call
  resumes : Handle → Begun → Call
  gets : Handle → List ℕ → Result Part Refusal → Call
  sets : Handle → List ℕ → List ℕ → Result Used Refusal → Call
  deletes : Handle → List ℕ → Result Used Refusal → Call
  scans : Handle → Bound → List ℕ → Bound → List ℕ → Bool → List ℕ → Result KeyValue Refusal → Call
  scans_prefix : Handle → List ℕ → Bool → List ℕ → Result KeyValue Refusal → Call
  commits : Handle → Result Used Refusal → Call
  rolls_back : Handle → Result Used Refusal → Call
  gets_plain : List ℕ → Result Part Refusal → Call
  sets_plain : List ℕ → List ℕ → Result Used Refusal → Call
  states : Result Versions Refusal → Call
  counts : Result Counts Refusal → Call
  looks : List ℕ → Result Part Refusal → Call
  steps : Bound → List ℕ → Bound → List ℕ → Bool → List ℕ → Result KeyValue Refusal → Call
  checks : Bool → Call

abbrev pub Calls : Type 0
Calls = List Call
