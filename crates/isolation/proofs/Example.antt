-- A worked run over the bytes of proofs/ExampleSteps: a store is opened, versions 1 and 2 overlap and both set a key, 1 commits, the log is
-- compacted and opened again, version 3 begins, and two looks go back. The run is one that the theorems of proofs/Isolation are about, and
-- what they say of it is what a reader expects. Assumes nothing.
use Prim.Native.Nat.{ℕ}
use mathlib.Core.Path.{◌≡◌, refl, subst, ◌∙◌}
use mathlib.Core.Bool.{true}
use mathlib.Core.Logic.{inl, inr}
use mathlib.Core.List.{List, [], ◌∷◌}
use native.Mathlib.Decide.{ℕ_discrete}
use native.Mathlib.Omega.{arith}
use lib.ListN.{length}
use Rattle.std.specs.Prelude.{Result, Err, None, Some}
use Rattle.bitcask.specs.declared.request.Used.{Used}
use Rattle.keycode.specs.declared.refusal.Refusal.{Refusal}
use Rattle.keycode.specs.declared.parts.Part.{Part}
use Rattle.keycode.specs.declared.refusal.Refusal.TheVariants.{Absent, NotOpen, Conflict}
use Rattle.keycode.proofs.Basics.{nope}
use Rattle.bitcask.specs.change.Append.{append_answer}
use Rattle.mvcc.specs.declared.handle.Handle.{Handle}
use Rattle.mvcc.specs.handle.Handles.{handle_of}
use Rattle.mvcc.specs.payload.Payloads.{value_bytes}
use Rattle.mvcc.specs.request.Given.{begun_with}
use Rattle.mvcc.specs.read.Promises.{Gets}
use Rattle.mvcc.specs.write.Writes.{plan}
use Rattle.mvcc.specs.write.Promises.{Writes}
use Rattle.isolation.specs.history.History.{key≟, Clash, status, last_write, laid, past}
use Rattle.isolation.specs.history.Run.{events}
use Rattle.mvcc.specs.world.World.{World, Call, opens, compacts, begins, begins_as_of, gets, sets, commits, Calls}
use Rattle.mvcc.specs.world.Steps.{Step, compacting, beginning, beginning_as_of, getting, setting, committing}
use Rattle.mvcc.specs.world.Runs.{now, later, Given, by_begin, by_as_of, handle_in, Fair, Run, first, opened, called}
use Rattle.isolation.specs.Meaning.{trace_of, meaning}
use Rattle.isolation.specs.Views.{writer, as_of, Shows, Meets, clashes, free}
use Rattle.isolation.proofs.ExampleSteps.{done, a, x, y, h₁, h₂, h₃, back₂, back₃, found, blank, vacant, log₁, log₃, log₅, log₆, table₁, table₃, table₅, table₆, contracts}
use Rattle.isolation.proofs.Isolation.{get_shows, write_conflicts, over-gets}

-- ---- the calls, the latest first

abbrev pub T₁ : Calls
T₁ = begins (begun_with 34 h₁) ∷ opens (done 0) ∷ []

abbrev pub T₃ : Calls
T₃ = begins (begun_with 135 h₂) ∷ sets h₁ a x (done 76) ∷ T₁

abbrev pub T₅ : Calls
T₅ = opens (done 81) ∷ compacts (done 81) ∷ commits h₁ (done 172) ∷ sets h₂ a y (Err Conflict) ∷ T₃

abbrev pub T₆ : Calls
T₆ = begins_as_of 3 (begun_with 140 back₃) ∷ begins_as_of 2 (begun_with 140 back₂) ∷ begins (begun_with 140 h₃) ∷ T₅

abbrev pub T₇ : Calls
T₇ = gets back₃ a found ∷ gets back₂ a (Err Absent) ∷ gets h₂ a (Err Absent) ∷ gets h₃ a found ∷ T₆

-- ---- the run

module _ {w w' : World} {T : Calls} (R : Run true w T) (c : Call) where
  -- a call with no handle
  pub calls : handle_in c ≡ None → Step w c w' → Run true w' (c ∷ T)
  calls e s = let f : Fair c T = λ h q. nope (cc) in called R f s

  -- a call with a handle that was given
  pub calls_by : {h : Handle} → handle_in c ≡ Some h → Given h T → Step w c w' → Run true w' (c ∷ T)
  calls_by {h} e g s = let f : Fair c T = λ j q. let z : h ≡ j = cc in subst (λ (i : Handle). Given i T) z g in called R f s

-- opened; 1 begins
pub run₁ : Run true (record { log = log₁; used = 34; table = table₁ }) T₁
run₁ =
    let r₀ = first blank vacant contracts.opens₁ in
    calls r₀ (begins (begun_with 34 h₁)) refl (beginning contracts.begins₁)

-- 1 sets the key to x; 2 begins
pub run₃ : Run true (record { log = log₃; used = 135; table = table₃ }) T₃
run₃ =
    let r₂ = calls_by run₁ (sets h₁ a x (done 76)) refl (by_begin now (refl, refl)) (setting contracts.sets₁) in
    calls r₂ (begins (begun_with 135 h₂)) refl (beginning contracts.begins₂)

-- 2's set of the key is refused; 1 commits; the log is compacted, and opened again
pub run₅ : Run true (record { log = log₅; used = 81; table = table₅ }) T₅
run₅ =
    let r₃ = calls_by run₃ (sets h₂ a y (Err Conflict)) refl (by_begin now (refl, refl)) (setting contracts.sets₂) in
    let r₄ = calls_by r₃ (commits h₁ (done 172)) refl (by_begin (later (later (later now))) (refl, refl)) (committing contracts.commits₁) in
    let r₅ = calls r₄ (compacts (done 81)) refl (compacting blank contracts.compacts₁) in
    opened r₅ vacant contracts.opens₂

-- 3 begins; two look back, to 2 and to 3
pub run₆ : Run true (record { log = log₆; used = 140; table = table₆ }) T₆
run₆ =
    let r₆ = calls run₅ (begins (begun_with 140 h₃)) refl (beginning contracts.begins₃) in
    let r₇ = calls r₆ (begins_as_of 2 (begun_with 140 back₂)) refl (beginning_as_of contracts.as_of₂) in
    calls r₇ (begins_as_of 3 (begun_with 140 back₃)) refl (beginning_as_of contracts.as_of₃)

-- each gets the key
pub run₇ : Run true (record { log = log₆; used = 140; table = table₆ }) T₇
run₇ =
    let r₆ = calls_by run₆ (gets h₃ a found) refl (by_begin (later (later now)) (refl, refl)) (getting contracts.gets₃) in
    let r₇ = calls_by r₆ (gets h₂ a (Err Absent)) refl (by_begin (later (later (later (later (later (later (later (later now)))))))) (refl, refl)) (getting contracts.gets₂) in
    let r₈ = calls_by r₇ (gets back₂ a (Err Absent)) refl (by_as_of (later (later (later now))) (refl, refl)) (getting contracts.gets_back₂) in
    calls_by r₈ (gets back₃ a found) refl (by_as_of (later (later (later now))) (refl, refl)) (getting contracts.gets_back₃)

-- ---- what the theorems say of it: whatever answer a contract admits there

-- 1's set of the key: no other transaction wrote it, and there is room
pub first-sets : {r : Result Used Refusal} {log t : List ℕ} → Writes log₁ 34 table₁ h₁ a (value_bytes (Some x)) 1 r log t → r ≡ done 76
unfolding trace_of events status last_write ℕ_discrete handle_of
first-sets b = met (write_conflicts run₁ now (refl, refl) refl (omega arith) (Some x) (omega arith) b)
  where
    met : {r : Result Used Refusal} → Meets T₁ h₁ a (append_answer log₁ 34 (length table₁) (plan 1 a (value_bytes (Some x)))) r → r ≡ done 76
    met (clashes c e) = absurd (c.writes refl)
    met (free n e) = e ∙ contracts.room₁

-- 1 wrote the key and is open
clash : Clash (meaning T₃) 2 a
unfolding trace_of events status last_write key≟ handle_of
clash = record { other = 1; differs = λ e. absurd (omega arith); writes = λ e. nope (cc); late = inl refl }

-- 2's set of the key: Conflict
pub second_conflicts : {r : Result Used Refusal} {log t : List ℕ} → Writes log₃ 135 table₃ h₂ a (value_bytes (Some y)) 1 r log t → r ≡ Err Conflict
unfolding trace_of events status ℕ_discrete handle_of
second_conflicts b = met (write_conflicts run₃ now (refl, refl) refl (omega arith) (Some y) (omega arith) b)
  where
    met : {room r : Result Used Refusal} → Meets T₃ h₂ a room r → r ≡ Err Conflict
    met (clashes c e) = e
    met (free n e) = absurd (n clash)

-- 3's get: 1 had committed before 3 began
pub third_gets : {r : Result Part Refusal} → Gets log₆ 140 table₆ h₃ a r → Shows log₆ r (Some x)
unfolding trace_of events status last_write laid key≟ handle_of
third_gets b = get_shows run₆ (writer (later (later now)) (refl, refl) (λ k. refl)) (inr refl) (omega arith) b

-- 2's get: 1 was open when 2 began, whatever came after
pub second-gets : {r : Result Part Refusal} → Gets log₆ 140 table₆ h₂ a r → Shows log₆ r None
unfolding trace_of events status last_write laid ℕ_discrete handle_of
second-gets b = get_shows run₆ (writer (later (later (later (later (later (later (later now))))))) (refl, refl) (λ k. refl)) (inr refl) (omega arith) b

-- the look back to 2 shows what 2 saw as it began, that to 3 what 3 saw
pub back_second_gets : {r : Result Part Refusal} → Gets log₆ 140 table₆ back₂ a r → Shows log₆ r None
unfolding trace_of events laid past ℕ_discrete handle_of
back_second_gets b = get_shows run₆ (as_of (later now) (refl, refl) (λ e. absurd (omega arith)) (λ k. refl)) (inl refl) (omega arith) b

pub back_third_gets : {r : Result Part Refusal} → Gets log₆ 140 table₆ back₃ a r → Shows log₆ r (Some x)
unfolding trace_of events last_write laid past key≟ handle_of
back_third_gets b = get_shows run₆ (as_of now (refl, refl) (λ e. absurd (omega arith)) (λ k. refl)) (inl refl) (omega arith) b

-- 1's handle, since its commit
pub first-over : {r : Result Part Refusal} → Gets log₆ 140 table₆ h₁ a r → r ≡ Err NotOpen
unfolding trace_of events status ℕ_discrete handle_of
first-over b = over-gets run₆ (later (later (later (later (later (later (later (later (later now))))))))) (refl, refl) (λ e. nope (cc)) b
