-- What a tape does is a run of the store: the calls that its records make are those of a run, each with a handle that the store gave. So
-- the theorems of snapshot isolation hold of it. Assumes nothing.
use Prim.Native.Nat.{ℕ, ◌<◌}
use mathlib.Core.Path.{◌≡◌, refl, sym, ap, ◌∙◌, subst}
use mathlib.Core.Bool.{Bool, true, false}
use mathlib.Core.List.{List, ◌∷◌}
use native.Mathlib.Omega.{arith}
use native.Mathlib.Decide.{ℕ_discrete}
use lib.Dec.{eqb}
use lib.ListN.{length}
use Rattle.std.specs.Prelude.{Result, Ok, Err, Option, None, Some}
use Rattle.bitcask.specs.declared.request.Used.{Used}
use Rattle.keycode.specs.declared.refusal.Refusal.{Refusal}
use Rattle.keycode.specs.Tests.{pick}
use Rattle.keycode.specs.Limits.{max_open}
use Rattle.bitcask.specs.recovery.Promises.{changed_number}
use Rattle.mvcc.specs.declared.handle.Handle.{Handle}
use Rattle.mvcc.specs.declared.begun.Begun.{Begun}
use Rattle.mvcc.specs.world.World.{World, Call, Calls, begins, begins_reading, begins_as_of, gets, sets, deletes, scans_prefix, commits, rolls_back, compacts, counts}
use Rattle.mvcc.specs.world.Steps.{Step, compacting}
use Rattle.mvcc.specs.world.Runs.{After, now, later, Given, by_begin, by_reading, by_as_of, handle_in, Fair, Run, called}
use Rattle.tape.specs.declared.format.request.Request.{Request}
use Rattle.tape.specs.format.Requests.{fields_of}
use Rattle.tape.specs.format.Slots.{all_words, filled, handle_at, fill, empty}
use Rattle.tape.proofs.format.SlotLaws.{slot-back, length-fill, length-empty, handle_fill_other, filled_fill_other, handle_empty_other, filled_empty_other, filled-empty}
use Rattle.tape.specs.Answers.{filled_with, emptied_by}
use Rattle.tape.specs.Turns.{start_call, write_call, end_call, Started, started, Looked, looked, Written, written, Scanned, ends, goes, Ended, ended, Tidied, tidied, Told, told, Held, looking, writing, scanning, ending, Bench, swapped, starting, holding, tidying, telling, Turned, short, bad, good}
use Rattle.tape.proofs.AdmitLaws.{slot-below, slot-filled, held_commands}

-- sixteen slots, and each filled one has a handle that one of the calls gave
pub record Slotted (T : Calls) (slots : List ℕ) : Type 0 where
  pub long : length slots ≡ all_words
  pub given : (i : ℕ) → filled slots i ≡ true → Given (handle_at slots i) T

-- calls that go on from those of a run, to a world and slots
pub record Goes (T : Calls) (w : World) (slots : List ℕ) : Type 0 where
  pub calls : Calls
  pub after : After T calls
  pub run : Run true w calls
  pub slotted : Slotted calls slots

-- ---- handles

given-more : {h : Handle} {T : Calls} {c : Call} → Given h T → Given h (c ∷ T)
given-more (by_begin a g) = by_begin (later a) g
given-more (by_reading a g) = by_reading (later a) g
given-more (by_as_of a g) = by_as_of (later a) g

slotted_more : {T : Calls} {c : Call} {slots : List ℕ} → Slotted T slots → Slotted (c ∷ T) slots
slotted_more s = record { long = s.long; given = λ i f. given-more (s.given i f) }

pub after_both : {A : Type 0} {a b c : List A} → After a b → After b c → After a c
after_both p now = p
after_both p (later q) = later (after_both p q)

fair_free : (c : Call) {T : Calls} → handle_in c ≡ None → Fair c T
fair_free c e h f = let z : ◌≡◌ {A = Option Handle} None (Some h) = sym e ∙ f in let y : ◌≡◌ {A = ℕ} 0 1 = cc in absurd (omega arith)

fair_with : (c : Call) {T : Calls} (h : Handle) → handle_in c ≡ Some h → Given h T → Fair c T
fair_with c {T = T} h e g i f = let z : ◌≡◌ {A = Option Handle} (Some h) (Some i) = sym e ∙ f in let y : h ≡ i = cc in subst (λ (x : Handle). Given x T) y g

-- ---- the calls of a tape

start_free : (c v : ℕ) (a : Begun) → handle_in (start_call c v a) ≡ None
unfolding start_call
start_free c v a = go (eqb c 1) (eqb c 2)
  where
    go : (x y : Bool) → handle_in (pick x (begins a) (pick y (begins_reading a) (begins_as_of v a))) ≡ None
    go true y = refl
    go false true = refl
    go false false = refl

start_gives : (c v : ℕ) (a : Begun) {T : Calls} → changed_number a.answer ≡ 0 → Given a.handle (start_call c v a ∷ T)
unfolding start_call
start_gives c v a {T} e = go (eqb c 1) (eqb c 2)
  where
    go : (x y : Bool) → Given a.handle (pick x (begins a) (pick y (begins_reading a) (begins_as_of v a)) ∷ T)
    go true y = by_begin now (e, refl)
    go false true = by_reading now (e, refl)
    go false false = by_as_of now (e, refl)

write_with : (c : ℕ) (h : Handle) (k v : List ℕ) (a : Result Used Refusal) → handle_in (write_call c h k v a) ≡ Some h
unfolding write_call
write_with c h k v a = go (eqb c 5)
  where
    go : (x : Bool) → handle_in (pick x (sets h k v a) (deletes h k a)) ≡ Some h
    go true = refl
    go false = refl

end_with : (c : ℕ) (h : Handle) (a : Result Used Refusal) → handle_in (end_call c h a) ≡ Some h
unfolding end_call
end_with c h a = go (eqb c 8)
  where
    go : (x : Bool) → handle_in (pick x (commits h a) (rolls_back h a)) ≡ Some h
    go true = refl
    go false = refl

-- ---- the slots after them

module _ {T : Calls} {slots : List ℕ} (s : Slotted T slots) (i : ℕ) (below : i < 16) where
  filled_slotted : (h : Handle) → length h.set ≡ max_open → Given h T → Slotted T (fill slots i h)
  filled_slotted h whole g = record { long = length-fill slots i s.long below h whole; given = λ j f. go j (ℕ_discrete j i) f }
    where
      go : (j : ℕ) → Dec (j ≡ i) → filled (fill slots i h) j ≡ true → Given (handle_at (fill slots i h) j) T
      go j (yes e) f = subst (λ (x : Handle). Given x T) (sym (ap (handle_at (fill slots i h)) e ∙ slot-back slots i s.long below h whole)) g
      go j (no n) f =
          subst (λ (x : Handle). Given x T) (sym (handle_fill_other slots i s.long below h whole j n))
          (s.given j (sym (filled_fill_other slots i s.long below h whole j n) ∙ f))

  emptied_slotted : Slotted T (empty slots i)
  emptied_slotted = record { long = length-empty slots i s.long below; given = λ j f. go j (ℕ_discrete j i) f }
    where
      go : (j : ℕ) → Dec (j ≡ i) → filled (empty slots i) j ≡ true → Given (handle_at (empty slots i) j) T
      go j (yes e) f =
          let z : ◌≡◌ {A = Bool} true false = sym f ∙ ap (filled (empty slots i)) e ∙ filled-empty slots i s.long below in
          let y : ◌≡◌ {A = ℕ} 0 1 = ap (λ (b : Bool). pick b 0 1) z in absurd (omega arith)
      go j (no n) f =
          subst (λ (x : Handle). Given x T) (sym (handle_empty_other slots i s.long below j n)) (s.given j (sym (filled_empty_other slots i s.long below j n) ∙ f))

module _ {T : Calls} {w : World} {slots : List ℕ} (run : Run true w T) (s : Slotted T slots) where
  stays : Goes T w slots
  stays = record { calls = T; after = now; run = run; slotted = s }

  calls_once : {c : Call} {w' : World} {slots' : List ℕ} → Fair c T → Step w c w' → Slotted (c ∷ T) slots' → Goes T w' slots'
  calls_once {c} f p s' = record { calls = c ∷ T; after = later now; run = called run f p; slotted = s' }

  started-goes : {q : Request} {w' : World} {slots' x : List ℕ} → q.slot < 16 → Started w slots q w' slots' x → Goes T w' slots'
  started-goes {q} b (started a whole p) = calls_once (fair_free (start_call q.command q.version a) (start_free q.command q.version a)) p (go a.answer refl)
    where
      go : (r : Result Used Refusal) → a.answer ≡ r → Slotted (start_call q.command q.version a ∷ T) (filled_with slots q.slot r a.handle)
      go (Ok u) e = filled_slotted (slotted_more s) q.slot b a.handle whole (start_gives q.command q.version a (ap changed_number e))
      go (Err r) e = slotted_more s

  module _ {h : Handle} (g : Given h T) where
    looked-goes : {k x : List ℕ} → Looked w h k x → Goes T w slots
    looked-goes {k} (looked a p) = calls_once (fair_with (gets h k a) h refl g) p (slotted_more s)

    written-goes : {c : ℕ} {k v : List ℕ} {w' : World} {x : List ℕ} → Written w h c k v w' x → Goes T w' slots
    written-goes {c} {k} {v} (written a p) = calls_once (fair_with (write_call c h k v a) h (write_with c h k v a) g) p (slotted_more s)

    ended-goes : {q : Request} {w' : World} {slots' x : List ℕ} → q.slot < 16 → Ended w h slots q w' slots' x → Goes T w' slots'
    ended-goes {q} b (ended a p) = calls_once (fair_with (end_call q.command h a) h (end_with q.command h a) g) p (go a)
      where
        go : {c : Call} (r : Result Used Refusal) → Slotted (c ∷ T) (emptied_by slots q.slot r)
        go (Ok u) = emptied_slotted (slotted_more s) q.slot b
        go (Err r) = slotted_more s

  told-goes : {x : List ℕ} → Told w x → Goes T w slots
  told-goes (told a p) = calls_once (fair_free (counts a) refl) p (slotted_more s)

scanned-goes : {w : World} {slots : List ℕ} {h : Handle} {p : List ℕ} {room : ℕ} {T : Calls} {given : Bool} {before : List ℕ} {n : ℕ} {x : List ℕ}
    → Run true w T → Slotted T slots → Given h T → Scanned w h p room given before n x → Goes T w slots
scanned-goes {h = h} {p = k} {given = b} {before = l} run s g (ends a p e) = calls_once run s (fair_with (scans_prefix h k b l a) h refl g) p (slotted_more s)
scanned-goes {h = h} {p = k} {T = T} {given = b} {before = l} run s g (goes a p e r) =
    let more = scanned-goes {T = scans_prefix h k b l a ∷ T} (called run (fair_with (scans_prefix h k b l a) h refl g) p) (slotted_more s) (given-more g) r in
    record { calls = more.calls; after = after_both (later now) more.after; run = more.run; slotted = more.slotted }

tidied-goes : {T : Calls} (b : Bench) {used : ℕ} {done : Bool} {t g x : List ℕ} → Run true b.world T → Slotted T b.slots
    → Tidied b.world.log b.world.used b.world.table b.spare used done t g x → Goes T (swapped b done g used t).world (swapped b done g used t).slots
tidied-goes b run s (tidied (Ok u) p) = calls_once run s (fair_free (compacts (Ok u)) refl) (compacting b.spare p) (slotted_more s)
tidied-goes b run s (tidied (Err r) p) = calls_once run s (fair_free (compacts (Err r)) refl) (compacting b.spare p) (slotted_more s)

held_goes : {T : Calls} {w : World} {slots : List ℕ} {q : Request} {k v : List ℕ} {room : ℕ} {w' : World} {slots' x : List ℕ} → Run true w T → Slotted T slots → q.slot < 16
    → Given (handle_at slots q.slot) T → Held w slots q k v room w' slots' x → Goes T w' slots'
held_goes run s b g (looking c p) = looked-goes run s g p
held_goes run s b g (writing c d p) = written-goes run s g p
held_goes run s b g (scanning c p) = scanned-goes run s g p
held_goes run s b g (ending c d p) = ended-goes run s g b p

-- a record of a tape goes on with a run
pub turn_runs : {T : Calls} (b : Bench) {r : List ℕ} {room : ℕ} {b' : Bench} {x : List ℕ} → Run true b.world T → Slotted T b.slots → Turned b r room b' x → Goes T b'.world b'.slots
turn_runs b run s (short e) = stays run s
turn_runs b run s (bad e f) = stays run s
turn_runs b {r} run s (good e f (starting c p)) = started-goes run s (slot-below r b.slots f) p
turn_runs b {r} run s (good e f (holding p)) =
    let c = held_commands p in
    held_goes run s (slot-below r b.slots f) (s.given (fields_of r).slot (slot-filled r b.slots f c.0 c.1)) p
turn_runs b run s (good e f (tidying c p)) = tidied-goes b run s p
turn_runs b run s (good e f (telling c p)) = told-goes run s p
