-- Every run of the store, however transactions, compactions and openings mix, keeps the store's records: there are some that the map is
-- of, and where the last opening was done the table agrees with the log. Assumes nothing.
use Prim.Native.Nat.{ℕ}
use mathlib.Core.Path.{◌≡◌, refl}
use mathlib.Core.Bool.{Bool, true}
use mathlib.Core.List.{List, [], ◌∷◌}
use Rattle.std.specs.Prelude.{Result, None, Some}
use Rattle.bitcask.specs.declared.request.Used.{Used}
use Rattle.keycode.specs.declared.refusal.Refusal.{Refusal}
use Rattle.keycode.proofs.Basics.{nope}
use Rattle.bitcask.specs.keydir.Place.{all_none}
use Rattle.bitcask.specs.recovery.Recover.{items, items_of, fold, recovered, view, map_of}
use Rattle.mvcc.specs.declared.handle.Handle.{Handle}
use Rattle.isolation.specs.history.Records.{Map}
use Rattle.isolation.specs.history.Run.{run-empty, other_e}
use Rattle.isolation.specs.records.Stored.{pairs_in}
use Rattle.mvcc.specs.world.World.{World, Call, opens, Calls}
use Rattle.mvcc.specs.world.Steps.{Step, compacting, beginning, beginning_reading, beginning_as_of, resuming, getting, setting, deleting, scanning, scanning_prefix, committing, rolling_back, getting_plain, setting_plain, stating, counting, looking, stepping, checking}
use Rattle.mvcc.specs.world.Runs.{After, now, later, Given, by_begin, by_reading, by_as_of, Fair, Run, first, opened, called}
use Rattle.isolation.specs.Meaning.{entry_of, trace_of}
use Rattle.isolation.proofs.KeptLaws.{Kept, Ready, given_cases, kept-other, kept_compacted, kept-opened}
use Rattle.isolation.proofs.BeganLaws.{begun, made_reading, made_as_of}
use Rattle.isolation.proofs.WroteLaws.{made_write}
use Rattle.isolation.proofs.PlainLaws.{made_plain, made_commit, made_rollback}

pub record Holds (b : Bool) (w : World) (T : Calls) : Type 0 where
  pub records : Map
  pub kept : Kept w T records
  pub ready : b ≡ true → Ready w

holds : {w : World} {T : Calls} → (m : Map) × (Kept w T m × Ready w) → Holds true w T
holds (m, (k, a)) = record { records = m; kept = k; ready = λ e. a }

-- ---- the first opening

after_none : {A : Type 0} {e : A} {T₁ T : List A} → After (e ∷ T₁) T → T ≡ [] → ⊥
after_none now q = nope (cc)
after_none (later a) q = nope (cc)

none-given : {h : Handle} {C : Type 0} → Given h [] → C
none-given (by_begin f g) = absurd (after_none f refl)
none-given (by_reading f g) = absurd (after_none f refl)
none-given (by_as_of f g) = absurd (after_none f refl)

pub empty-map : (log : List ℕ) → map_of log 0 ≡ pairs_in []
unfolding map_of view recovered fold items items_of pairs_in
empty-map log = refl

kept-empty : (log t : List ℕ) → Kept (record { log = log; used = 0; table = t }) [] []
unfolding trace_of
kept-empty log t = record { map = empty-map log; fine = all_none; run = run-empty; handles = λ h g. none-given g }

-- ---- reads

kept_read : {w : World} {T : Calls} {c : Call} (H : Holds true w T) → entry_of c ≡ other_e → ((h : Handle) → Given h (c ∷ T) → Given h T) → Holds true w (c ∷ T)
kept_read H e past = record { records = H.records; kept = kept-other H.kept e past; ready = H.ready }

-- ---- one call

step_holds : {w w' : World} {T : Calls} {c : Call} → Holds true w T → Fair c T → Step w c w' → Holds true w' (c ∷ T)
step_holds {w} H f (compacting g {r = r} b) =
    let k = kept_compacted r H.kept (H.ready refl) b in
    holds (H.records, (kept-other k.0 refl (λ h. given_cases (λ x i g. nope (cc)) (λ x i g. nope (cc)) (λ v x i g. nope (cc)) (λ g. g)), k.1))
step_holds {w} H f (beginning {r = r} {log = log} {t = t} b) = holds (begun H.kept (H.ready refl) r b)
step_holds H f (beginning_reading {r = r} b) = holds (H.records, (made_reading H.kept (H.ready refl) r b, H.ready refl))
step_holds H f (beginning_as_of {v = v} {r = r} b) = holds (H.records, (made_as_of H.kept (H.ready refl) v r b, H.ready refl))
step_holds H f (resuming b) = kept_read H refl (λ h. given_cases (λ x i g. nope (cc)) (λ x i g. nope (cc)) (λ v x i g. nope (cc)) (λ g. g))
step_holds H f (getting b) = kept_read H refl (λ h. given_cases (λ x i g. nope (cc)) (λ x i g. nope (cc)) (λ v x i g. nope (cc)) (λ g. g))
step_holds H f (setting {h = h} {k = k} {v = v} b) =
    let g = f h refl in
    holds (made_write H.kept (H.ready refl) (H.kept.handles h g) (Some v) b refl (λ h. given_cases (λ x i g. nope (cc)) (λ x i g. nope (cc)) (λ v x i g. nope (cc)) (λ g. g)) g)
step_holds H f (deleting {h = h} b) =
    let g = f h refl in
    holds (made_write H.kept (H.ready refl) (H.kept.handles h g) None b refl (λ h. given_cases (λ x i g. nope (cc)) (λ x i g. nope (cc)) (λ v x i g. nope (cc)) (λ g. g)) g)
step_holds H f (scanning b) = kept_read H refl (λ h. given_cases (λ x i g. nope (cc)) (λ x i g. nope (cc)) (λ v x i g. nope (cc)) (λ g. g))
step_holds H f (scanning_prefix b) = kept_read H refl (λ h. given_cases (λ x i g. nope (cc)) (λ x i g. nope (cc)) (λ v x i g. nope (cc)) (λ g. g))
step_holds H f (committing {h = h} {r = r} b) = let g = f h refl in holds (made_commit H.kept (H.ready refl) r (H.kept.handles h g) g b)
step_holds H f (rolling_back {h = h} {r = r} b) = let g = f h refl in holds (made_rollback H.kept (H.ready refl) r (H.kept.handles h g) g b)
step_holds H f (getting_plain b) = kept_read H refl (λ h. given_cases (λ x i g. nope (cc)) (λ x i g. nope (cc)) (λ v x i g. nope (cc)) (λ g. g))
step_holds H f (setting_plain {r = r} b) = holds (made_plain H.kept (H.ready refl) r b)
step_holds H f (stating b) = kept_read H refl (λ h. given_cases (λ x i g. nope (cc)) (λ x i g. nope (cc)) (λ v x i g. nope (cc)) (λ g. g))
step_holds H f (counting b) = kept_read H refl (λ h. given_cases (λ x i g. nope (cc)) (λ x i g. nope (cc)) (λ v x i g. nope (cc)) (λ g. g))
step_holds H f (looking b) = kept_read H refl (λ h. given_cases (λ x i g. nope (cc)) (λ x i g. nope (cc)) (λ v x i g. nope (cc)) (λ g. g))
step_holds H f (stepping b) = kept_read H refl (λ h. given_cases (λ x i g. nope (cc)) (λ x i g. nope (cc)) (λ v x i g. nope (cc)) (λ g. g))
step_holds H f (checking b) = kept_read H refl (λ h. given_cases (λ x i g. nope (cc)) (λ x i g. nope (cc)) (λ v x i g. nope (cc)) (λ g. g))

-- ---- every run

opened-past : {r : Result Used Refusal} {T : Calls} (h : Handle) → Given h (opens r ∷ T) → Given h T
opened-past h = given_cases (λ x i g. nope (cc)) (λ x i g. nope (cc)) (λ v x i g. nope (cc)) (λ g. g)

pub run_holds : {b : Bool} {w : World} {T : Calls} → Run b w T → Holds b w T
run_holds (first log t {t' = t'} o) =
    let k = kept-opened (kept-empty log t') o in
    record { records = []; kept = kept-other k.0 refl opened-past; ready = k.1 }
run_holds (opened r t o) =
    let H = run_holds r in
    let k = kept-opened H.kept o in
    record { records = H.records; kept = kept-other k.0 refl opened-past; ready = k.1 }
run_holds (called r f s) = step_holds (run_holds r) f s
