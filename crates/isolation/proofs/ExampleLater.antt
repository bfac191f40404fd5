-- The worked run of proofs/Example goes on, over the bytes of proofs/ExampleLaterSteps: a read-only transaction begins, 3 scans, its delete
-- finds the log full, the log is compacted into a larger buffer and 3 deletes, a set of 2's finds the table full, 3 rolls back, an opening
-- with too small a table is refused and another done, and as-of 0 and the reader look. What the theorems say of it is what a reader
-- expects. Assumes nothing.
use Prim.Native.Nat.{ℕ}
use mathlib.Core.Path.{◌≡◌, refl, sym, ◌∙◌, subst}
use mathlib.Core.Bool.{Bool, true, false}
use mathlib.Core.Logic.{◌≢◌, inl, inr, ite, if_neg}
use mathlib.Core.List.{List, [], ◌∷◌}
use native.Mathlib.Decide.{ℕ_discrete}
use native.Mathlib.Omega.{arith}
use lib.ListN.{length}
use Rattle.std.specs.Prelude.{Result, Err, Option, None, Some}
use Rattle.bitcask.specs.declared.request.Used.{Used}
use Rattle.keycode.specs.declared.refusal.Refusal.{Refusal}
use Rattle.keycode.specs.declared.parts.Part.{Part}
use Rattle.bitcask.specs.declared.answers.KeyValue.{KeyValue}
use Rattle.keycode.specs.declared.refusal.Refusal.TheVariants.{Absent, NotOpen, LogFull, TableFull}
use Rattle.keycode.proofs.Basics.{nope}
use Rattle.bitcask.specs.recovery.Promises.{Opens}
use Rattle.bitcask.specs.declared.answers.Bound.TheVariants.{Unbounded}
use Rattle.bitcask.specs.read.Ranks.{admitted}
use Rattle.bitcask.specs.change.Append.{append_answer}
use Rattle.bitcask.specs.check.Promises.{Tells}
use Rattle.mvcc.specs.handle.Handles.{handle_of}
use Rattle.mvcc.specs.payload.Payloads.{value_bytes}
use Rattle.mvcc.specs.request.Given.{begun_with}
use Rattle.mvcc.specs.read.Promises.{Gets}
use Rattle.mvcc.specs.write.Writes.{plan}
use Rattle.mvcc.specs.write.Promises.{Writes}
use Rattle.mvcc.specs.scan.Promises.{Scans}
use Rattle.mvcc.specs.world.World.{opens, compacts, begins, begins_reading, begins_as_of, sets, deletes, scans, rolls_back, checks, Calls}
use Rattle.mvcc.specs.world.Steps.{compacting, beginning_reading, beginning_as_of, setting, deleting, scanning, rolling_back, checking}
use Rattle.mvcc.specs.world.Runs.{After, now, later, by_begin, Run, opened}
use Rattle.isolation.specs.history.History.{Key, Bytes, key≟, Late, Clash, status, last_write, over, laid, past}
use Rattle.isolation.specs.history.Run.{events}
use Rattle.isolation.specs.Meaning.{trace_of, meaning}
use Rattle.isolation.specs.Views.{writer, reader, as_of_none, Shows, Meets, clashes, free}
use Rattle.isolation.specs.Shown.{ShowsFirst}
use Rattle.isolation.proofs.ExampleSteps.{done, a, x, y, h₁, h₂, h₃, vacant, log₆, table₆}
use Rattle.isolation.proofs.Example.{T₁, T₅, T₇, run₇, calls, calls_by}
use Rattle.isolation.proofs.ExampleLaterSteps.{b, r₄, back₀, pair_a, wide, narrow, log₈, log₉, table₈, table₉, laters}
use Rattle.isolation.proofs.Isolation.{open_answers, get_shows, scan_shows, write_conflicts, check-answers, over-gets}

-- ---- the calls, the latest first

abbrev pub T₈ : Calls
T₈ = scans h₃ Unbounded [] Unbounded [] true a (Err Absent) ∷ scans h₃ Unbounded [] Unbounded [] false [] pair_a ∷ begins_reading (begun_with 140 r₄) ∷ T₇

abbrev pub T₉ : Calls
T₉ = deletes h₃ a (done 164) ∷ compacts (done 123) ∷ deletes h₃ a (Err LogFull) ∷ T₈

abbrev pub T₁₀ : Calls
T₁₀ = opens (done 221) ∷ opens (Err TableFull) ∷ rolls_back h₃ (done 221) ∷ sets h₂ b y (Err TableFull) ∷ T₉

abbrev pub T₁₁ : Calls
T₁₁ = checks true ∷ begins_as_of 0 (begun_with 221 back₀) ∷ T₁₀

-- ---- the run

-- where 2 and 3 began
second₇ : After (begins (begun_with 135 h₂) ∷ sets h₁ a x (done 76) ∷ T₁) T₇
second₇ = later (later (later (later (later (later (later (later (later (later (later now))))))))))

third₇ : After (begins (begun_with 140 h₃) ∷ T₅) T₇
third₇ = later (later (later (later (later (later now)))))

-- a read-only transaction begins; 3 scans from the start, and on behind the key
pub run₈ : Run true (record { log = log₆; used = 140; table = table₆ }) T₈
run₈ =
    let r₁ = calls run₇ (begins_reading (begun_with 140 r₄)) refl (beginning_reading laters.reads₄) in
    let r₂ = calls_by r₁ (scans h₃ Unbounded [] Unbounded [] false [] pair_a) refl (by_begin (later third₇) (refl, refl)) (scanning laters.scans₃) in
    calls_by r₂ (scans h₃ Unbounded [] Unbounded [] true a (Err Absent)) refl (by_begin (later (later third₇)) (refl, refl)) (scanning laters.scans_on₃)

third₈ : After (begins (begun_with 140 h₃) ∷ T₅) T₈
third₈ = later (later (later third₇))

-- 3's delete finds no room in the log; compacted into a larger buffer, it is done
pub run₉ : Run true (record { log = log₈; used = 164; table = table₈ }) T₉
run₉ =
    let r₁ = calls_by run₈ (deletes h₃ a (Err LogFull)) refl (by_begin third₈ (refl, refl)) (deleting laters.deletes_full) in
    let r₂ = calls r₁ (compacts (done 123)) refl (compacting wide laters.compacts₂) in
    calls_by r₂ (deletes h₃ a (done 164)) refl (by_begin (later (later third₈)) (refl, refl)) (deleting laters.deletes₃)

second₉ : After (begins (begun_with 135 h₂) ∷ sets h₁ a x (done 76) ∷ T₁) T₉
second₉ = later (later (later (later (later (later second₇)))))

third₉ : After (begins (begun_with 140 h₃) ∷ T₅) T₉
third₉ = later (later (later third₈))

-- 2's set of another key finds no free slot; 3 rolls back; an opening with one slot is refused, and one with eight done
pub run₁₀ : Run true (record { log = log₉; used = 221; table = table₉ }) T₁₀
run₁₀ =
    let r₁ = calls_by run₉ (sets h₂ b y (Err TableFull)) refl (by_begin second₉ (refl, refl)) (setting laters.sets_full) in
    let r₂ = calls_by r₁ (rolls_back h₃ (done 221)) refl (by_begin (later third₉) (refl, refl)) (rolling_back laters.rolls_back₃) in
    opened (opened r₂ narrow laters.opens_narrow) vacant laters.opens₃

-- as-of 0 looks, and the table is asked for
pub run₁₁ : Run true (record { log = log₉; used = 221; table = table₉ }) T₁₁
run₁₁ =
    let r₁ = calls run₁₀ (begins_as_of 0 (begun_with 221 back₀)) refl (beginning_as_of laters.as_of₀) in
    calls r₁ (checks true) refl (checking laters.checks₃)

-- ---- what the theorems say of it: whatever answer a contract admits there

-- what 3 sees: the key that 1 wrote and committed
abbrev pub third : Key → Option Bytes
third k = over (last_write (meaning T₇) 3 k) (laid (meaning T₅) k)

pub third_sees : third a ≡ Some x
unfolding trace_of events last_write laid key≟ ℕ_discrete handle_of
third_sees = refl

-- its scan shows the first of those keys
pub third_scans : {r : Result KeyValue Refusal} → Scans log₆ 140 table₆ h₃ Unbounded [] Unbounded [] false [] r → ShowsFirst third (admitted Unbounded [] Unbounded [] false []) log₆ r
unfolding trace_of events status ℕ_discrete handle_of
third_scans b = scan_shows run₇ (writer third₇ (refl, refl) (λ k. refl)) (inr refl) Unbounded [] Unbounded [] false [] refl b

-- 1 alone had written the key, and had committed before 3 began
third_free : Clash (meaning T₈) 3 a → ⊥
unfolding trace_of events status last_write past key≟ ℕ_discrete handle_of
third_free c = go c.other c.writes c.late (ℕ_discrete 1 c.other)
  where
    late : Late (meaning T₈) 3 1 → ⊥
    late (inl e) = nope (cc)
    late (inr (e, n)) = n refl

    go : (o : ℕ) → last_write (meaning T₈) o a ≢ None → Late (meaning T₈) 3 o → Dec (1 ≡ o) → ⊥
    go o w l (yes e) = late (subst (λ (i : ℕ). Late (meaning T₈) 3 i) (sym e) l)
    go o w l (no n) = w (if_neg (ℕ_discrete 1 o) n (Some (Some x)) None)

-- so that its delete meets 7, for want of room in the log
pub third_full : {r : Result Used Refusal} {log t : List ℕ} → Writes log₆ 140 table₆ h₃ a (value_bytes None) 0 r log t → r ≡ Err LogFull
unfolding trace_of events status ℕ_discrete handle_of
third_full b = met (write_conflicts run₈ third₈ (refl, refl) refl (omega arith) None (omega arith) b)
  where
    met : {r : Result Used Refusal} → Meets T₈ h₃ a (append_answer log₆ 140 (length table₆) (plan 3 a (value_bytes None))) r → r ≡ Err LogFull
    met (clashes c e) = absurd (third_free c)
    met (free n e) = e ∙ laters.room_full

ite_same : {A B : Type 0} (d : Dec A) (z : B) → ite d z z ≡ z
ite_same (yes e) z = refl
ite_same (no n) z = refl

-- nobody had written the other key: 2's set of it meets 8, for want of slots in the table
pub second-full : {r : Result Used Refusal} {log t : List ℕ} → Writes log₈ 164 table₈ h₂ b (value_bytes (Some y)) 1 r log t → r ≡ Err TableFull
unfolding trace_of events status last_write key≟ ℕ_discrete handle_of
second-full w = met (write_conflicts run₉ second₉ (refl, refl) refl (omega arith) (Some y) (omega arith) w)
  where
    met : {r : Result Used Refusal} → Meets T₉ h₂ b (append_answer log₈ 164 (length table₈) (plan 2 b (value_bytes (Some y)))) r → r ≡ Err TableFull
    met (clashes c e) = absurd (c.writes (ite_same (ℕ_discrete 3 c.other) _ ∙ ite_same (ℕ_discrete 1 c.other) None))
    met (free n e) = e ∙ laters.slots_full

-- the reader sees what 1 left, whatever 3 did; as-of 0 sees nothing
pub reader-gets : {r : Result Part Refusal} → Gets log₉ 221 table₉ r₄ a r → Shows log₉ r (Some x)
unfolding trace_of events last_write laid key≟ ℕ_discrete handle_of
reader-gets g = get_shows run₁₁ (reader (later (later (later (later (later (later (later (later (later (later (later now))))))))))) (refl, refl) (λ k. refl)) (inl refl) (omega arith) g

pub zero-gets : {r : Result Part Refusal} → Gets log₉ 221 table₉ back₀ a r → Shows log₉ r None
unfolding handle_of
zero-gets g = get_shows run₁₁ (as_of_none (later now) (refl, refl) (λ k. refl)) (inl refl) (omega arith) g

-- 3's handle, since its rollback
pub third_over : {r : Result Part Refusal} → Gets log₉ 221 table₉ h₃ a r → r ≡ Err NotOpen
unfolding trace_of events status ℕ_discrete handle_of
third_over g = over-gets run₁₁ (later (later (later (later (later (later third₉)))))) (refl, refl) (λ e. nope (cc)) g

-- an opening with one slot: 8
pub narrow_opens : {r : Result Used Refusal} {t : List ℕ} → Opens log₉ 221 narrow r t → r ≡ Err TableFull
narrow_opens o = open_answers run₁₁ narrow o ∙ sym (open_answers run₁₁ narrow laters.opens_narrow)

-- the yes/no
pub later_agrees : {r : Bool} → Tells log₉ 221 table₉ r → r ≡ true
later_agrees t = check-answers run₁₁ t
