-- A step of the world, read back: what a call that a tape makes was promised, and the world after it. Assumes nothing.
use Prim.Native.Nat.{ℕ}
use mathlib.Core.Path.{◌≡◌, refl}
use Rattle.std.specs.Prelude.{None, Some}
use mathlib.Core.List.{List}
use lib.ListN.{length}
use Rattle.mvcc.specs.payload.Payloads.{value_bytes}
use Rattle.bitcask.specs.compaction.Promises.{Counting}
use Rattle.mvcc.specs.start.Promises.{Begins}
use Rattle.mvcc.specs.read_only.Promises.{BeginsReading}
use Rattle.mvcc.specs.as_of.Promises.{BeginsAsOf}
use Rattle.mvcc.specs.read.Promises.{Gets}
use Rattle.mvcc.specs.write.Promises.{Writes}
use Rattle.mvcc.specs.scan.Promises.{ScansPrefix}
use Rattle.mvcc.specs.end.Promises.{Commits, RollsBack}
use Rattle.mvcc.specs.world.World.{World, Call, opens, compacts, begins, begins_reading, begins_as_of, resumes, gets, sets, deletes, scans, scans_prefix, commits, rolls_back, gets_plain, sets_plain, states, counts, looks, steps, checks}
use Rattle.mvcc.specs.world.Steps.{changed_to, Step, compacting, beginning, beginning_reading, beginning_as_of, resuming, getting, setting, deleting, scanning, scanning_prefix, committing, rolling_back, getting_plain, setting_plain, stating, counting, looking, stepping, checking}

-- the log and the table after a call that changes them
pub record Left (P : List ℕ → List ℕ → Type 0) (W : List ℕ → List ℕ → World) (w' : World) : Type 0 where
  pub log : List ℕ
  pub table : List ℕ
  pub so : P log table
  pub world : w' ≡ W log table

-- a call that changes nothing
abbrev pub Still : Type 0 → World → World → Type 0
Still P w w' = P × (w' ≡ w)

abbrev pub Means : World → Call → World → Type 0
Means w (begins r) w' = Left (Begins w.log w.used w.table r) (changed_to w r.answer) w'
Means w (begins_reading r) w' = Still (BeginsReading w.log w.used w.table r) w w'
Means w (begins_as_of v r) w' = Still (BeginsAsOf w.log w.used w.table v r) w w'
Means w (gets h k r) w' = Still (Gets w.log w.used w.table h k r) w w'
Means w (sets h k v r) w' = Left (Writes w.log w.used w.table h k (value_bytes (Some v)) (length v) r) (changed_to w r) w'
Means w (deletes h k r) w' = Left (Writes w.log w.used w.table h k (value_bytes None) 0 r) (changed_to w r) w'
Means w (scans_prefix h p given last r) w' = Still (ScansPrefix w.log w.used w.table h p given last r) w w'
Means w (commits h r) w' = Left (Commits w.log w.used w.table h r) (changed_to w r) w'
Means w (rolls_back h r) w' = Left (RollsBack w.log w.used w.table h r) (changed_to w r) w'
Means w (counts r) w' = Still (Counting w.log w.used w.table r) w w'
Means w (opens r) w' = Unit {0}
Means w (compacts r) w' = Unit {0}
Means w (resumes h r) w' = Unit {0}
Means w (scans h lower low upper high given last r) w' = Unit {0}
Means w (gets_plain k r) w' = Unit {0}
Means w (sets_plain k v r) w' = Unit {0}
Means w (states r) w' = Unit {0}
Means w (looks k r) w' = Unit {0}
Means w (steps lower low upper high given last r) w' = Unit {0}
Means w (checks r) w' = Unit {0}

pub means : {w w' : World} {c : Call} → Step w c w' → Means w c w'
means (compacting g b) = tt
means (beginning {log = l} {t = t} b) = record { log = l; table = t; so = b; world = refl }
means (beginning_reading b) = (b, refl)
means (beginning_as_of b) = (b, refl)
means (resuming b) = tt
means (getting b) = (b, refl)
means (setting {log = l} {t = t} b) = record { log = l; table = t; so = b; world = refl }
means (deleting {log = l} {t = t} b) = record { log = l; table = t; so = b; world = refl }
means (scanning b) = tt
means (scanning_prefix b) = (b, refl)
means (committing {log = l} {t = t} b) = record { log = l; table = t; so = b; world = refl }
means (rolling_back {log = l} {t = t} b) = record { log = l; table = t; so = b; world = refl }
means (getting_plain b) = tt
means (setting_plain b) = tt
means (stating b) = tt
means (counting b) = (b, refl)
means (looking b) = tt
means (stepping b) = tt
means (checking b) = tt
