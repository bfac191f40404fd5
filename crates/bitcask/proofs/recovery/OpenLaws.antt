-- Laws of opening: a run with room is recovery, a table that was opened agrees with its log, an empty log opens, and a log that grew
-- within a number of slots opens again within it. Assumes nothing.
use Prim.Native.Nat.{ℕ, ◌/◌, ◌%◌, ◌≤◌}
use mathlib.Core.Path.{◌≡◌, refl, sym, ap, ◌∙◌, subst}
use mathlib.Core.Bool.{Bool, true, false}
use mathlib.Core.List.{List, [], ◌∷◌}
use native.Mathlib.Omega.{arith}
use lib.ListN.{length, replicate}
use Rattle.std.specs.Prelude.{Result, Ok, Err, Option, None, Some}
use Rattle.keycode.specs.declared.refusal.Refusal.{Refusal}
use Rattle.keycode.specs.Tests.{pick}
use Rattle.keycode.specs.Limits.{max_log}
use Rattle.keycode.specs.declared.refusal.Refusal.TheVariants.{BadRequest}
use Rattle.keycode.proofs.Basics.{nope}
use Rattle.bitcask.specs.declared.keydir.slots.Slot.{Slot}
use Rattle.bitcask.specs.keydir.Slots.{slot_words, table_of, key_of}
use Rattle.bitcask.specs.keydir.Place.{place_in}
use Rattle.bitcask.proofs.keydir.PlaceLaws.{place_in_among}
use Rattle.bitcask.proofs.keydir.TableLaws.{table_empty, table-length}
use Rattle.bitcask.specs.declared.request.Used.{Used}
use Rattle.bitcask.specs.recovery.Recover.{Item, items_of, items, ends, step, fold, recovered, view, map_of, step_in, then_run, run}
use Rattle.bitcask.specs.recovery.Agree.{fit, Agrees}
use Rattle.bitcask.specs.recovery.Promises.{opened_by, open_answer, open_table, Opens}
use Rattle.bitcask.proofs.recovery.CutLaws.{end_within, end_items, end_recovered}
use Rattle.bitcask.proofs.recovery.AgreeLaws.{Sound, fit-sound, sound-fit}
use Rattle.bitcask.proofs.recovery.WalkLaws.{step_some, step_room}

-- ---- a run with room

pub then_some : (o : Option (List Slot)) (f : List Slot → Option (List Slot)) {r : List Slot} → then_run o f ≡ Some r → (q : List Slot) × (o ≡ Some q) × (f q ≡ Some r)
then_some None f e = nope (cc)
then_some (Some q) f e = (q, refl, e)

-- a run that does not fail is the fold
pub run-fold : (log : List ℕ) (cap : ℕ) (is : List Item) (ss : List Slot) {r : List Slot} → run log cap is ss ≡ Some r → r ≡ fold log is ss
unfolding run fold step
run-fold log cap [] ss e = cc
run-fold log cap (i ∷ is) ss e =
    let f = place_in log (key_of log i.slot) ss in
    let g = then_some (step_in cap i f ss) (λ x. run log cap is x) e in
    run-fold log cap is g.0 g.2 ∙ ap (fold log is) (step_some cap i f ss g.1).1

run_room : (log : List ℕ) (cap : ℕ) (is : List Item) (ss : List Slot) {r : List Slot} → length ss ≤ cap → run log cap is ss ≡ Some r → length r ≤ cap
unfolding run
run_room log cap [] ss {r = r} h e = let q : ss ≡ r = cc in subst (λ (x : List Slot). length x ≤ cap) q h
run_room log cap (i ∷ is) ss h e =
    let k = key_of log i.slot in
    let g = then_some (step_in cap i (place_in log k ss) ss) (λ x. run log cap is x) e in
    run_room log cap is g.0 (step_room cap i (place_in log k ss) ss g.1 (place_in_among log k ss) h) g.2

pub run-within : (log : List ℕ) (used cap : ℕ) → run log cap (items log used 0) [] ≡ Some (recovered log used) → length (recovered log used) ≤ cap
run-within log used cap e = run_room log cap (items log used 0) [] (omega arith) e

-- ---- an opening that was done

-- what its answer says
pub record Opened (log : List ℕ) (used n : ℕ) (u : Used) : Type 0 where
  pub sound : Sound (length log) used n
  pub end : u.len ≡ ends 0 (items log used 0)
  pub runs : run log (n / slot_words) (items log used 0) [] ≡ Some (recovered log used)

module _ (log : List ℕ) (used n : ℕ) (u : Used) where
  by_run : (o : Option (List Slot)) → run log (n / slot_words) (items log used 0) [] ≡ o → Sound (length log) used n → opened_by o (ends 0 (items log used 0)) ≡ Ok u → Opened log used n u
  unfolding recovered
  by_run None e f q = nope (cc)
  by_run (Some ss) e f q =
      let z : record { len = ends 0 (items log used 0) } ≡ u = cc in
      record { sound = f; end = sym (ap (λ (v : Used). v.len) z); runs = e ∙ ap Some (run-fold log (n / slot_words) (items log used 0) [] e) }

  by_fit : (b : Bool) → fit (length log) used n ≡ b → pick b (opened_by (run log (n / slot_words) (items log used 0) []) (ends 0 (items log used 0))) (Err BadRequest) ≡ Ok u → Opened log used n u
  by_fit true f q = by_run (run log (n / slot_words) (items log used 0) []) refl (fit-sound (length log) used n f) q
  by_fit false f q = nope (cc)

  pub opened-says : open_answer log used n ≡ Ok u → Opened log used n u
  unfolding open_answer
  opened-says e = by_fit (fit (length log) used n) refl e

module _ {log : List ℕ} {used : ℕ} {t t' : List ℕ} {r : Result Used Refusal} {u : Used} (o : Opens log used t r t') (e : r ≡ Ok u) where
  said : Opened log used (length t) u
  said = opened-says log used (length t) u (sym o.answer ∙ e)

  pub open_words : t' ≡ table_of (length t) (recovered log used)
  unfolding open_table
  open_words = o.table ∙ rw (sound-fit said.sound, said.runs)

  pub open_long : length t' ≡ length t
  open_long =
      let h = run-within log used (length t / slot_words) said.runs in
      ap length open_words ∙ table-length (length t) (recovered log used) (omega arith)

  pub open_recovered : recovered log u.len ≡ recovered log used
  open_recovered = rw said.end (end_recovered log used)

  -- the table agrees with the log that was cut
  pub open_agrees : Agrees log u.len t'
  open_agrees =
      let q = end_within log used in
      let n : u.len ≤ length log = omega (arith, said.end, said.sound.within) in
      record {
        sound = rw open_long (sound-fit (record { small = said.sound.small; within = n; whole = said.sound.whole }));
        clean = rw said.end (ap (ends 0) (end_items log used));
        words = rw (open_long, open_recovered) open_words;
      }

  pub open_map : map_of log u.len ≡ map_of log used
  unfolding map_of
  open_map = ap (view log) open_recovered

-- ---- an empty log

pub open_empty : {log t t' : List ℕ} {r : Result Used Refusal} → Opens log 0 t r t' → length log ≤ max_log → length t % slot_words ≡ 0
    → (r ≡ Ok (record { len = 0 })) × (t' ≡ replicate (length t) 0)
unfolding open_answer open_table items items_of run ends
open_empty {log} {t} o h k =
    let f : fit (length log) 0 (length t) ≡ true = sound-fit (record { small = h; within = omega arith; whole = k }) in
    (o.answer ∙ rw f, o.table ∙ rw f (sym (table_empty (length t))))
