-- What get and scan step promise, in two parts. Request: 13, which needs no table, exactly in its case. Agreed: where the table agrees
-- with the log, the answer is the map's. docs/TABLES.md says why the last part has that condition. Assumes nothing.
use Rattle.keycode.specs.declared.refusal.Refusal.{Refusal}
use Rattle.bitcask.specs.declared.answers.KeyValue.{KeyValue}
use Rattle.std.specs.Prelude.{ℕ, ◌+◌, ◌≡◌, Bool, not, List, eqb, length, get_or, Result, Ok, Err, Option, None, Some}
use Rattle.keycode.specs.Refusals.{number_of}
use Rattle.keycode.specs.declared.refusal.Refusal.TheVariants.{Absent}
use Rattle.keycode.specs.declared.parts.Part.{Part}
use Rattle.bitcask.specs.declared.keydir.slots.Slot.{Slot}
use Rattle.bitcask.specs.keydir.Slots.{free_slot}
use Rattle.bitcask.specs.keydir.Place.{place_in}
use Rattle.bitcask.specs.recovery.Recover.{recovered, map_of}
use Rattle.bitcask.specs.recovery.Agree.{fit, Agrees}
use Rattle.bitcask.specs.declared.answers.Bound.{Bound}
use Rattle.bitcask.specs.read.Ranks.{admitted, first_of}

-- ---- get

-- the number of an answer that is a place
abbrev pub located_number : Result Part Refusal → ℕ
located_number (Ok p) = 0
located_number (Err r) = number_of r

-- the places of a slot's key and value in the log
abbrev pub key_part : Slot → Part
key_part s = record { at = s.place + 7; len = s.klen }

abbrev pub value_part : Slot → Part
value_part s = record { at = s.place + 7 + s.klen; len = s.vlen }

abbrev pub located_by : Result ℕ ℕ → List Slot → Result Part Refusal
located_by (Ok i) ss = Ok (value_part (get_or ss i free_slot))
located_by (Err i) ss = Err Absent

pub record Gets (log : List ℕ) (used : ℕ) (t key : List ℕ) (r : Result Part Refusal) : Type 0 where
  pub bad : eqb (located_number r) 13 ≡ not (fit (length log) used (length t))
  pub answer : Agrees log used t → r ≡ located_by (place_in log key (recovered log used)) (recovered log used)

-- ---- scan step

abbrev pub stepped_number : Result KeyValue Refusal → ℕ
stepped_number (Ok p) = 0
stepped_number (Err r) = number_of r

abbrev pub stepped_by : Option ℕ → List Slot → Result KeyValue Refusal
stepped_by None ss = Err Absent
stepped_by (Some i) ss = Ok (record { key = (key_part (get_or ss i free_slot)); value = (value_part (get_or ss i free_slot)) })

pub record Steps (log : List ℕ) (used : ℕ) (t : List ℕ) (lower : Bound) (low : List ℕ) (upper : Bound) (high : List ℕ) (given : Bool) (last : List ℕ) (r : Result KeyValue Refusal) : Type 0 where
  pub bad : eqb (stepped_number r) 13 ≡ not (fit (length log) used (length t))
  pub answer : Agrees log used t → r ≡ stepped_by (first_of (admitted lower low upper high given last) 0 (map_of log used)) (recovered log used)
