-- Laws of a log that grew entry by entry and never had more keys than a number of slots: it opens again within as many. Assumes nothing.
use Prim.Native.Nat.{ℕ, ◌+◌, ◌/◌, ◌≤◌}
use mathlib.Core.Path.{◌≡◌, refl, sym, ap, ◌∙◌}
use mathlib.Core.Bool.{Bool, true, false}
use mathlib.Core.List.{List, [], ◌∷◌, ◌++◌}
use native.Mathlib.Omega.{arith}
use lib.ListN.{length, take}
use borrow.Author.Tests.{lt-ltb, ltb-true}
use Rattle.std.specs.Prelude.{Result, ℕ, Ok, Err, Option, None, Some}
use Rattle.keycode.specs.declared.refusal.Refusal.{Refusal}
use Rattle.keycode.specs.Limits.{max_log}
use Rattle.keycode.specs.Buffer.{put}
use Rattle.bitcask.specs.entry.Entry.{Entry, bytes_of, size_of}
use Rattle.bitcask.specs.declared.keydir.slots.Slot.{Slot}
use Rattle.bitcask.specs.keydir.Slots.{slot_words, key_of}
use Rattle.bitcask.specs.keydir.Place.{place_in, Among, All, all_none}
use Rattle.bitcask.proofs.keydir.SlotLaws.{insert_length}
use Rattle.bitcask.proofs.keydir.PlaceLaws.{place_in_among}
use Rattle.bitcask.specs.declared.request.Used.{Used}
use Rattle.bitcask.specs.recovery.Map.{after}
use Rattle.bitcask.specs.recovery.Recover.{Item, item_for, items_of, items, ends, step_at, step, fold, recovered, map_of, room_for, step_in, then_run, run}
use Rattle.bitcask.specs.recovery.Agree.{fit}
use Rattle.bitcask.specs.recovery.Promises.{open_answer, Opens}
use Rattle.bitcask.proofs.recovery.ItemLaws.{Chain, chain_none, chain_more, items_chain}
use Rattle.bitcask.proofs.recovery.CutLaws.{end_items, end_recovered}
use Rattle.bitcask.proofs.recovery.FoldLaws.{Inside, all-step, key-same, place_same}
use Rattle.bitcask.proofs.recovery.AgreeLaws.{map-length, append-before, append-clean, append-items, append-step, append-map}
use Rattle.bitcask.proofs.recovery.WalkLaws.{step_some}
use Rattle.bitcask.proofs.recovery.OpenLaws.{then_some, Opened}

-- ---- a run with room

then_same : (o : Option (List Slot)) (f g : List Slot → Option (List Slot)) → ((r : List Slot) → o ≡ Some r → f r ≡ g r) → then_run o f ≡ then_run o g
then_same None f g h = refl
then_same (Some r) f g h = h r refl

then_both : (o : Option (List Slot)) (f g h : List Slot → Option (List Slot)) → ((r : List Slot) → f r ≡ then_run (g r) h) → then_run o f ≡ then_run (then_run o g) h
then_both None f g h e = refl
then_both (Some r) f g h e = e r

run-append : (log : List ℕ) (cap : ℕ) (is js : List Item) (ss : List Slot) → run log cap (is ++ js) ss ≡ then_run (run log cap is ss) (λ r. run log cap js r)
unfolding run
run-append log cap [] js ss = refl
run-append log cap (i ∷ is) js ss =
    then_both (step_in cap i (place_in log (key_of log i.slot) ss) ss) (λ r. run log cap (is ++ js) r) (λ r. run log cap is r) (λ r. run log cap js r) (λ r. run-append log cap is js r)

-- logs that agree in the first `used` bytes run alike
module _ (log log' : List ℕ) (used : ℕ) (agree : take used log ≡ take used log') (cap : ℕ) where
  run-same : {at : ℕ} {is : List Item} {ss : List Slot} → Chain used at is → All (Inside used) ss → run log cap is ss ≡ run log' cap is ss
  unfolding run
  run-same chain_none a = refl
  run-same {ss = ss} (chain_more {i = i} {is = is} q c) a =
      let h : Inside used i.slot = record { taken = omega (arith, q.here); within = q.near } in
      let f = place_in log (key_of log i.slot) ss in
      let g : f ≡ place_in log' (key_of log' i.slot) ss = rw (key-same log log' used agree h, place_same log log' used agree (key_of log' i.slot) a) in
      then_same (step_in cap i f ss) (λ r. run log cap is r) (λ r. run log' cap is r)
      (λ r e. run-same c (rw (step_some cap i f ss e).1 (all-step i.gone i.slot f ss h a)))
      ∙ ap (λ (x : Result ℕ ℕ). then_run (step_in cap i x ss) (λ r. run log' cap is r)) g

-- a step whose slots find room is made
room_for_lem : (cap : ℕ) (g : Bool) (s : Slot) (f : Result ℕ ℕ) (ss : List Slot) → Among (length ss) f → length (step_at g s f ss) ≤ cap → room_for cap g f (length ss) ≡ true
room_for_lem cap true s f ss a h = refl
room_for_lem cap false s (Ok i) ss a h = refl
room_for_lem cap false s (Err i) ss a h = lt-ltb (length ss) cap (omega (arith, insert_length i s ss a))

run_one : (log : List ℕ) (cap : ℕ) (i : Item) (ss : List Slot) → length (step log i ss) ≤ cap → run log cap (i ∷ []) ss ≡ Some (step log i ss)
unfolding run step step_in
run_one log cap i ss h =
    let k = key_of log i.slot in
    rw (room_for_lem cap i.gone i.slot (place_in log k ss) ss (place_in_among log k ss) h)

-- ---- a log that grew

pub record Grown (cap : ℕ) (log : List ℕ) (used : ℕ) : Type 0 where
  pub clean : ends 0 (items log used 0) ≡ used
  pub runs : run log cap (items log used 0) [] ≡ Some (recovered log used)

pub grown_start : (cap : ℕ) (log : List ℕ) → Grown cap log 0
unfolding items items_of ends run recovered fold
grown_start cap log = record { clean = refl; runs = refl }

-- what was opened in a table of n words
pub grown_opened : {log : List ℕ} {used n : ℕ} {u : Used} → Opened log used n u → Grown (n / slot_words) log u.len
grown_opened {log} {used} o = record {
  clean = rw o.end (ap (ends 0) (end_items log used));
  runs = rw (o.end, end_items log used, end_recovered log used) o.runs;
}

-- one entry more, whose map has no more keys than there are slots
module _ (log : List ℕ) (used : ℕ) (e : Entry) (small : length log ≤ max_log) (room : used + size_of e ≤ length log) where
  pub grown_append : (cap : ℕ) → Grown cap log used → length (after e (map_of log used)) ≤ cap → Grown cap (put log used (bytes_of e)) (used + size_of e)
  grown_append cap g h =
      let log' : List ℕ = put log used (bytes_of e) in
      let i : Item = item_for used e in
      let ss : List Slot = recovered log used in
      let agree : take used log ≡ take used log' = append-before log used e small room in
      let s : recovered log' (used + size_of e) ≡ step log' i ss = append-step log used e small room g.clean in
      let n : length (step log' i ss) ≡ length (after e (map_of log used)) = ap length (sym s) ∙ sym (map-length log' (used + size_of e)) ∙ ap length (append-map log used e small room g.clean) in
      record {
        clean = append-clean log used e small room g.clean;
        runs =
            ap (λ (is : List Item). run log' cap is []) (append-items log used e small room g.clean)
            ∙ run-append log' cap (items log used 0) (i ∷ []) []
            ∙ ap (λ (x : Option (List Slot)). then_run x (λ r. run log' cap (i ∷ []) r)) (sym (run-same log log' used agree cap (items_chain log used 0) all_none) ∙ g.runs)
            ∙ run_one log' cap i ss (omega arith) ∙ ap Some (sym s);
      }

-- ---- with more room

module _ (cap cap' : ℕ) (more : cap ≤ cap') where
  room-more : (g : Bool) (f : Result ℕ ℕ) (n : ℕ) → room_for cap g f n ≡ true → room_for cap' g f n ≡ true
  room-more true f n e = refl
  room-more false (Ok i) n e = refl
  room-more false (Err i) n e = lt-ltb n cap' (omega (arith, ltb-true n cap e))

  step-more : (i : Item) (f : Result ℕ ℕ) (ss : List Slot) {r : List Slot} → step_in cap i f ss ≡ Some r → step_in cap' i f ss ≡ Some r
  unfolding step_in
  step-more i f ss e =
      let p = step_some cap i f ss e in
      rw (room-more i.gone f (length ss) p.0) (ap Some (sym p.1))

  run_more : (log : List ℕ) (is : List Item) (ss : List Slot) {r : List Slot} → run log cap is ss ≡ Some r → run log cap' is ss ≡ Some r
  unfolding run
  run_more log [] ss e = e
  run_more log (i ∷ is) ss e =
      let f = place_in log (key_of log i.slot) ss in
      let g = then_some (step_in cap i f ss) (λ x. run log cap is x) e in
      rw (step-more i f ss g.1) (run_more log is g.0 g.2)

  pub grown_more : {log : List ℕ} {used : ℕ} → Grown cap log used → Grown cap' log used
  grown_more {log} {used} g = record { clean = g.clean; runs = run_more log (items log used 0) [] g.runs }

-- as many slots are enough to open it, and nothing is cut
pub grown_opens : {cap : ℕ} {log : List ℕ} {used : ℕ} {t t' : List ℕ} {r : Result Used Refusal} → Grown cap log used → fit (length log) used (length t) ≡ true → cap ≤ length t / slot_words
    → Opens log used t r t' → r ≡ Ok (record { len = used })
unfolding open_answer
grown_opens {cap} {t = t} g f h o = o.answer ∙ rw (f, (grown_more cap (length t / slot_words) h g).runs, g.clean)
