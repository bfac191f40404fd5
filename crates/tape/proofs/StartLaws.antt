-- A whole tape: it starts as a run does, with the opening of an empty log and sixteen slots of zeros, none of which is filled; and whatever
-- records follow, each on what the last one left, there is a run that comes to the same world. Assumes nothing.
use Prim.Native.Nat.{ℕ, ◌*◌, ◌%◌, ◌≤◌, ◌<◌}
use mathlib.Core.Path.{◌≡◌, sym, ap, ◌∙◌, subst}
use mathlib.Core.Bool.{Bool, true, false, not}
use mathlib.Core.List.{List, [], ◌∷◌}
use native.Mathlib.Omega.{arith}
use native.Mathlib.Decide.{dec_lt}
use lib.Dec.{eqb}
use lib.ListN.{length, get_or, length-replicate, get_or-replicate, get_or-eq_default}
use Rattle.std.specs.Prelude.{Result, Ok}
use Rattle.bitcask.specs.declared.request.Used.{Used}
use Rattle.keycode.specs.declared.refusal.Refusal.{Refusal}
use Rattle.keycode.specs.Tests.{pick}
use Rattle.keycode.specs.Limits.{max_log}
use Rattle.bitcask.specs.keydir.Slots.{slot_words as table_words}
use Rattle.bitcask.specs.recovery.Promises.{Opens}
use Rattle.bitcask.proofs.recovery.OpenLaws.{open_empty}
use Rattle.mvcc.specs.world.World.{World, Calls, opens}
use Rattle.mvcc.specs.world.Runs.{now, Run, first}
use Rattle.tape.specs.format.Layout.{zeros}
use Rattle.tape.specs.format.Slots.{all_words, slot_words, filled}
use Rattle.tape.specs.Turns.{Bench, world_of, Taped, over, turned}
use Rattle.tape.proofs.RunLaws.{Slotted, Goes, after_both, turn_runs}

-- ---- the start

zero-at : (n i : ℕ) → get_or (zeros n) i 0 ≡ 0
zero-at n i = go (dec_lt i n)
  where
    go : Dec (i < n) → get_or (zeros n) i 0 ≡ 0
    go (yes h) = get_or-replicate n i 0 0 h
    go (no h) = get_or-eq_default (zeros n) 0 (omega (arith, length-replicate {A = ℕ} n 0))

empty_slotted : (T : Calls) → Slotted T (zeros all_words)
unfolding filled
empty_slotted T = record { long = length-replicate {A = ℕ} all_words 0; given = λ i f. absurd (none i f) }
  where
    none : (i : ℕ) → filled (zeros all_words) i ≡ true → ⊥
    none i f =
        let z : ◌≡◌ {A = Bool} true false = sym f ∙ ap (λ (n : ℕ). not (eqb n 0)) (zero-at all_words (slot_words * i)) in
        let y : ◌≡◌ {A = ℕ} 0 1 = ap (λ (b : Bool). pick b 0 1) z in omega arith

started : {log t t' : List ℕ} → Opens log 0 t (Ok (record { len = 0 })) t' → Run true (world_of log 0 t') (opens (Ok (record { len = 0 })) ∷ [])
started {log} {t} o = first log t o

pub tape_starts : {log t t' : List ℕ} {r : Result Used Refusal} → Opens log 0 t r t' → length log ≤ max_log → length t % table_words ≡ 0
    → Run true (world_of log 0 t') (opens (Ok (record { len = 0 })) ∷ []) × Slotted (opens (Ok (record { len = 0 })) ∷ []) (zeros all_words)
tape_starts {log} {t} {t'} o h k = (started (subst (λ (x : Result Used Refusal). Opens log 0 t x t') (open_empty o h k).0 o), empty_slotted _)

-- ---- the records

goes_on : {T : Calls} {w : World} {s : List ℕ} (g : Goes T w s) {w' : World} {s' : List ℕ} → Goes g.calls w' s' → Goes T w' s'
goes_on g h = record { calls = h.calls; after = after_both g.after h.after; run = h.run; slotted = h.slotted }

pub tape_runs : {room : ℕ} {T : Calls} (b : Bench) {rs : List (List ℕ)} {b' : Bench} → Run true b.world T → Slotted T b.slots → Taped room b rs b' → Goes T b'.world b'.slots
tape_runs {T = T} b run s over = record { calls = T; after = now; run = run; slotted = s }
tape_runs {T = T} b run s (turned {b₁ = c} t ts) = let g = turn_runs b run s t in goes_on g (tape_runs {T = (turn_runs b run s t).calls} c g.run g.slotted ts)

-- from the program's own start
pub tape_from_start : {room : ℕ} {log spare t t' : List ℕ} {r : Result Used Refusal} {rs : List (List ℕ)} {b' : Bench} → Opens log 0 t r t' → length log ≤ max_log → length t % table_words ≡ 0
    → Taped room (record { world = world_of log 0 t'; spare = spare; slots = zeros all_words; other = false }) rs b' → Goes (opens (Ok (record { len = 0 })) ∷ []) b'.world b'.slots
tape_from_start {log = log} {spare = spare} {t' = t'} o h k ts =
    let p = tape_starts o h k in
    tape_runs (record { world = world_of log 0 t'; spare = spare; slots = zeros all_words; other = false }) p.0 p.1 ts
