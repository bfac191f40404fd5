-- Laws of an entry taken into a table beside which changes wait: one for each way that the code goes. Assumes nothing.
use Prim.Native.Nat.{ℕ, ◌+◌, ◌-◌, ◌*◌, ◌/◌, ◌≤◌, ◌<◌}
use mathlib.Core.Path.{◌≡◌, refl, sym, ap, ◌∙◌, subst}
use mathlib.Core.Bool.{Bool, true, false}
use mathlib.Core.List.{List}
use native.Mathlib.Omega.{arith}
use lib.Dec.{ltb}
use lib.ListN.{length, get_or}
use borrow.Author.Tests.{lt-ltb}
use Rattle.std.specs.Prelude.{Result, ℕ, Ok, Err, Option, None, Some}
use Rattle.keycode.specs.Tests.{pick}
use Rattle.keycode.proofs.Basics.{nope}
use Rattle.bitcask.specs.declared.keydir.slots.Slot.{Slot}
use Rattle.bitcask.specs.keydir.Slots.{slot_words, free_slot, slots_of, table_of, key_of}
use Rattle.bitcask.specs.keydir.Place.{place_of, place_in, put_at, cut_at, room_at, entered, Among, laid, Becomes}
use Rattle.bitcask.proofs.keydir.SlotLaws.{slots_length, insert_length, replace_length, remove_length}
use Rattle.bitcask.proofs.keydir.HalveLaws.{among-at}
use Rattle.bitcask.proofs.keydir.PlaceLaws.{place-among}
use Rattle.bitcask.proofs.keydir.TableLaws.{entered-room, entered-within, laid-slots, laid-length, table-laid}
use Rattle.bitcask.specs.merging.Merge.{look, is_gone, Merges}
use Rattle.bitcask.specs.declared.recovery.waiting.Held.{Held}
use Rattle.bitcask.specs.declared.recovery.waiting.Next.{Next}
use Rattle.keycode.specs.declared.refusal.Refusal.{Refusal}
use Rattle.keycode.specs.declared.refusal.Refusal.TheVariants.{TableFull}
use Rattle.bitcask.specs.recovery.Recover.{Item, step_in}
use Rattle.bitcask.specs.recovery.Waiting.{waits_gone, Holds, Answers, answers-full, answers_next, Enters, Leaves}
use Rattle.bitcask.proofs.recovery.HoldLaws.{put_waits, gone_waits, waits_not, put-table, key-looks, found_in, at-look, before-look, put-live, put_fresh, cut_live, cut_fresh, step-live, step_new, step-full}

-- ---- slots that a table or the changes have become

pub becomes_slots : {t : List ℕ} {n : ℕ} {ss : List Slot} {t' : List ℕ} {m : ℕ} → Becomes t n ss t' m → slots_of m t' ≡ ss
becomes_slots {t} {n} {ss} {m = m} b = ap (slots_of m) b.words ∙ ap (λ (i : ℕ). slots_of i (laid n ss t)) b.count ∙ laid-slots n ss t

-- an answer that goes on stays within the sizes
pub on_within : (end : ℕ) (h : Held) (l w : ℕ) → slot_words * h.count ≤ l → h.waiting ≤ w + 1
    → (x : Next) → ◌≡◌ {A = Result Next Refusal} (Ok (record { at = end; held = h })) (Ok x) → (slot_words * x.held.count ≤ l) × (x.held.waiting ≤ w + 1) × (x.at ≡ end)
on_within end h l w p q x e =
    let f : ◌≡◌ {A = Next} (record { at = end; held = h }) x = cc in
    subst (λ (y : Next). (slot_words * y.held.count ≤ l) × (y.held.waiting ≤ w + 1) × (y.at ≡ end)) f (p, q, refl)

full-within : (l w end : ℕ) (x : Next) → ◌≡◌ {A = Result Next Refusal} (Err TableFull) (Ok x) → (slot_words * x.held.count ≤ l) × (x.held.waiting ≤ w + 1) × (x.at ≡ end)
full-within l w end x e = nope (cc)

module _ (log t pd : List ℕ) (h : Held) (s : Slot) (tr : slot_words * h.count ≤ length t) (pr : slot_words * h.waiting + slot_words ≤ length pd) where
  abbrev ps : List Slot
  ps = slots_of h.waiting pd

  abbrev ss : List Slot
  ss = slots_of h.count t

  pub pend_among : (key : List ℕ) {f : Result ℕ ℕ} → f ≡ place_of log key (slots_of h.waiting pd) → Among h.waiting f
  pend_among key e = rw e (rw (slots_length h.waiting pd) at (place-among log key ps))

  pub table-among : (key : List ℕ) {f : Result ℕ ℕ} → f ≡ place_of log key (slots_of h.count t) → Among h.count f
  table-among key e = rw e (rw (slots_length h.count t) at (place-among log key ss))

  pend_room : (f : Result ℕ ℕ) → room_at pd f ps ≡ true
  pend_room (Ok i) = refl
  pend_room (Err i) = rw (slots_length h.waiting pd) (lt-ltb h.waiting (length pd / slot_words) (omega arith))

  put_most : (f : Result ℕ ℕ) → Among h.waiting f → length (put_at s f ps) ≤ h.waiting + 1
  put_most (Ok i) a = let l = slots_length h.waiting pd in omega (arith, replace_length i s ps (omega arith))
  put_most (Err i) a = let l = slots_length h.waiting pd in omega (arith, insert_length i s ps (omega arith))

  cut_most : (f : Result ℕ ℕ) → Among h.waiting f → length (cut_at f ps) ≤ h.waiting + 1
  cut_most (Ok i) a = let l = slots_length h.waiting pd in omega (arith, remove_length i ps (omega arith))
  cut_most (Err i) a = let l = slots_length h.waiting pd in omega arith

  -- the changes with the slot
  module _ (f : Result ℕ ℕ) {pd' : List ℕ} {n : ℕ} (b : Becomes pd h.waiting (entered pd s f (slots_of h.waiting pd)) pd' n) where
    pend_slots : slots_of n pd' ≡ put_at s f ps
    pend_slots = becomes_slots b ∙ entered-room pd s f ps (pend_room f)

    pend_most : Among h.waiting f → n ≤ h.waiting + 1
    pend_most a = omega (arith, b.count, ap length (entered-room pd s f ps (pend_room f)), put_most f a)

  -- what is held after the changes were changed
  hold_pend : {r r' : List Slot} (n live : ℕ) (pd' : List ℕ) (qs : List Slot) → Holds log t pd h r → slots_of n pd' ≡ qs → Merges log qs ss r' → live ≡ length r' → length r' ≤ length t / slot_words
      → Holds log t pd' (record { count = h.count; waiting = n; live = live }) r'
  hold_pend n live pd' qs w e m l c = record { words = w.words; merges = rw e m; counted = l; fits = c }

  -- and after the table was
  hold_table : {r r' : List Slot} (n live : ℕ) (t' : List ℕ) (qs : List Slot) → Holds log t pd h r → Becomes t h.count qs t' n
      → slot_words * length qs ≤ length t → Merges log ps qs r' → live ≡ length r' → length r' ≤ length t / slot_words
      → Holds log t' pd (record { count = n; waiting = h.waiting; live = live }) r'
  hold_table {r' = r'} n live t' qs w b k m l c =
      let lt : length t' ≡ length t = ap length b.words ∙ laid-length h.count qs t tr k in
      let sl : slots_of n t' ≡ qs = becomes_slots b in
      let z : length ss ≡ h.count = slots_length h.count t in
      let x : t' ≡ table_of (length t) qs = b.words ∙ ap (λ (i : ℕ). laid i qs t) (sym z) ∙ ap (laid (length ss) qs) w.words ∙ table-laid (length t) ss qs (omega arith) k in
      record {
        words = x ∙ ap (λ (i : ℕ). table_of i qs) (sym lt) ∙ ap (table_of (length t')) (sym sl);
        merges = rw sl m;
        counted = l;
        fits = rw lt c;
      }

  abbrev item : Item
  item = record { slot = s; gone = false }

  abbrev step : List Slot → Option (List Slot)
  step r = step_in (length t / slot_words) item (place_in log (key_of log s) r) r

  answer-next : {t' pd' : List ℕ} {h' : Held} (end : ℕ) (r : List Slot) (r' : List Slot) → Some r' ≡ step r → Holds log t' pd' h' r' → Answers log t' pd' end (Ok (record { at = end; held = h' })) (step r)
  answer-next {t'} {pd'} {h'} end r r' e w = subst (λ (o : Option (List Slot)). Answers log t' pd' end (Ok (record { at = end; held = h' })) o) e (answers_next w)

  answer-full : {t' pd' : List ℕ} (end : ℕ) (r : List Slot) → None ≡ step r → Answers log t' pd' end (Err TableFull) (step r)
  answer-full {t'} {pd'} end r e = subst (λ (o : Option (List Slot)). Answers log t' pd' end (Err TableFull) o) e answers-full

  -- ---- an entry with a value whose key does not wait

  module _ (g : is_gone s ≡ false) (i : ℕ) (eb : Err i ≡ place_of log (key_of log s) (slots_of h.waiting pd)) {key : List ℕ} {f : Result ℕ ℕ} (ek : key ≡ key_of log s)
      (ef : f ≡ place_of log key (slots_of h.count t)) (end : ℕ) where
    ef' : f ≡ place_of log (key_of log s) ss
    ef' = ef ∙ ap (λ (x : List ℕ). place_of log x ss) ek

    no_wait : {r : List Slot} → Holds log t pd h r → look log (key_of log s) ps ≡ None
    no_wait w = before-look log (key_of log s) ps w.merges.waiting eb i refl

    entered-fits : slot_words * length (entered t s f ss) ≤ length t
    entered-fits = entered-within t f ss (rw (slots_length h.count t) tr) (rw (slots_length h.count t) (table-among key ef)) s

    pub new_at : (j : ℕ) {n : ℕ} {t' : List ℕ} → f ≡ Ok j → Becomes t h.count (entered t s f (slots_of h.count t)) t' n
        → Enters log t pd h (record { slot = s; gone = false }) end (Ok (record { at = end; held = record { count = n; waiting = h.waiting; live = h.live } })) t' pd
    new_at j {n} {t'} e b = record {
      within = on_within end (record { count = n; waiting = h.waiting; live = h.live }) (length t) h.waiting (omega (arith, b.count, entered-fits)) (omega arith);
      exact = exactly;
    }
      where
        exactly : (r : List Slot) → Holds log t pd h r → Answers log t' pd end (Ok (record { at = end; held = record { count = n; waiting = h.waiting; live = h.live } })) (step r)
        exactly r w =
            let u : look log (key_of log s) r ≡ Some (get_or ss j free_slot) = key-looks log s w.merges (no_wait w) (at-look log (key_of log s) ss w.merges.table ef' j e) in
            let x : entered t s f ss ≡ put_at s (place_in log (key_of log s) ss) ss = entered-room t s f ss (rw e)
            ∙ ap (λ (y : Result ℕ ℕ). put_at s y ss) (found_in log (key_of log s) ss w.merges.table ef') in
            let l : length (put_at s (place_in log (key_of log s) r) r) ≡ length r = put-live log (key_of log s) r s (get_or ss j free_slot) (place_in log (key_of log s) r) refl u in
            answer-next end r (put_at s (place_in log (key_of log s) r) r) (step-live log (key_of log s) r (length t / slot_words) s (get_or ss j free_slot) u)
            (hold_table n h.live t' (put_at s (place_in log (key_of log s) ss) ss) w (rw x at b) (omega (arith, entered-fits, ap length x)) (put-table log s w.merges
            (no_wait w)) (w.counted ∙ sym l) (omega (arith, w.fits)))

    module _ (j : ℕ) (e : f ≡ Err j) where
      fresh : {r : List Slot} → Holds log t pd h r → look log (key_of log s) r ≡ None
      fresh w = key-looks log s w.merges (no_wait w) (before-look log (key_of log s) ss w.merges.table ef' j e)

      pub new_full : length t / slot_words ≤ h.live → Enters log t pd h (record { slot = s; gone = false }) end (Err TableFull) t pd
      new_full q = record {
        within = full-within (length t) h.waiting end;
        exact = λ r w. answer-full end r (step-full log (key_of log s) r (length t / slot_words) s (fresh w) (omega (arith, w.counted)));
      }

      module _ (q : h.live < length t / slot_words) where
        pub new_last : {c : Bool} {n : ℕ} {t' : List ℕ} → c ≡ pick (ltb j h.count) false (ltb h.count (length t / slot_words)) → c ≡ true
            → Becomes t h.count (entered t s f (slots_of h.count t)) t' n
            → Enters log t pd h (record { slot = s; gone = false }) end (Ok (record { at = end; held = record { count = n; waiting = h.waiting; live = h.live + 1 } })) t' pd
        new_last {c} {n} {t'} ec tc b = record {
          within = on_within end (record { count = n; waiting = h.waiting; live = h.live + 1 }) (length t) h.waiting (omega (arith, b.count, entered-fits)) (omega arith);
          exact = exactly;
        }
          where
            room : (x : Bool) → pick x false (ltb h.count (length t / slot_words)) ≡ true → ltb h.count (length t / slot_words) ≡ true
            room true z = nope (cc)
            room false z = z

            roomy : room_at t f ss ≡ true
            roomy = rw (e, slots_length h.count t) (room (ltb j h.count) (sym ec ∙ tc))

            exactly : (r : List Slot) → Holds log t pd h r → Answers log t' pd end (Ok (record { at = end; held = record { count = n; waiting = h.waiting; live = h.live + 1 } })) (step r)
            exactly r w =
                let u : look log (key_of log s) r ≡ None = fresh w in
                let x : entered t s f ss ≡ put_at s (place_in log (key_of log s) ss) ss = entered-room t s f ss roomy
                ∙ ap (λ (y : Result ℕ ℕ). put_at s y ss) (found_in log (key_of log s) ss w.merges.table ef') in
                let l : length (put_at s (place_in log (key_of log s) r) r) ≡ length r + 1 = put_fresh log (key_of log s) r s (place_in log (key_of log s) r) refl u in
                answer-next end r (put_at s (place_in log (key_of log s) r) r) (step_new log (key_of log s) r (length t / slot_words) s u (omega (arith, w.counted)))
                (hold_table n (h.live + 1) t' (put_at s (place_in log (key_of log s) ss) ss) w (rw x at b) (omega (arith, entered-fits, ap length x)) (put-table log s
                w.merges (no_wait w)) (omega (arith, w.counted)) (omega (arith, w.counted)))

        pub new_waits : {n : ℕ} {pd' : List ℕ} → Becomes pd h.waiting (entered pd s (Err i) (slots_of h.waiting pd)) pd' n
            → Enters log t pd h (record { slot = s; gone = false }) end (Ok (record { at = end; held = record { count = h.count; waiting = n; live = h.live + 1 } })) t pd'
        new_waits {n} {pd'} b = record {
          within = on_within end (record { count = h.count; waiting = n; live = h.live + 1 }) (length t) h.waiting tr (pend_most (Err i) b (pend_among (key_of log s) eb));
          exact = exactly;
        }
          where
            exactly : (r : List Slot) → Holds log t pd h r → Answers log t pd' end (Ok (record { at = end; held = record { count = h.count; waiting = n; live = h.live + 1 } })) (step r)
            exactly r w =
                let u : look log (key_of log s) r ≡ None = fresh w in
                let l : length (put_at s (place_in log (key_of log s) r) r) ≡ length r + 1 = put_fresh log (key_of log s) r s (place_in log (key_of log s) r) refl u in
                let x : slots_of n pd' ≡ put_at s (place_in log (key_of log s) ps) ps = pend_slots (Err i) b
                ∙ ap (λ (y : Result ℕ ℕ). put_at s y ps) (found_in log (key_of log s) ps w.merges.waiting eb) in
                answer-next end r (put_at s (place_in log (key_of log s) r) r) (step_new log (key_of log s) r (length t / slot_words) s u (omega (arith, w.counted)))
                (hold_pend n (h.live + 1) pd' (put_at s (place_in log (key_of log s) ps) ps) w x (put_waits log s w.merges g) (omega (arith, w.counted)) (omega (arith, w.counted)))

  -- ---- an entry whose key waits, or that takes its key out

  module _ {key : List ℕ} {f : Result ℕ ℕ} (ek : key ≡ key_of log s) (ef : f ≡ place_of log key (slots_of h.waiting pd)) where
    ep : f ≡ place_of log (key_of log s) ps
    ep = ef ∙ ap (λ (x : List ℕ). place_of log x ps) ek

    among : Among h.waiting f
    among = pend_among key ef

    put_pend : {r : List Slot} {n : ℕ} {pd' : List ℕ} → Holds log t pd h r → Becomes pd h.waiting (entered pd s f (slots_of h.waiting pd)) pd' n
        → slots_of n pd' ≡ put_at s (place_in log (key_of log s) ps) ps
    put_pend w b = pend_slots f b ∙ ap (λ (y : Result ℕ ℕ). put_at s y ps) (found_in log (key_of log s) ps w.merges.waiting ep)

    -- a key that waits to go is not there
    gone-look : {b : Bool} → b ≡ waits_gone (slots_of h.waiting pd) f → b ≡ true → {r : List Slot} → Holds log t pd h r → look log (key_of log s) r ≡ None
    gone-look eb tb {r} w = go f refl
      where
        go : (x : Result ℕ ℕ) → f ≡ x → look log (key_of log s) r ≡ None
        go (Ok i) q =
            let gs : is_gone (get_or ps i free_slot) ≡ true = sym (ap (waits_gone ps) q) ∙ sym eb ∙ tb in
            key-looks log s w.merges (at-look log (key_of log s) ps w.merges.waiting ep i q) refl ∙ rw gs
        go (Err i) q = nope (cc (ap (waits_gone ps) q))

    -- one that waits to be set is
    live-look : {b : Bool} (i : ℕ) → f ≡ Ok i → b ≡ waits_gone (slots_of h.waiting pd) f → b ≡ false → {r : List Slot} → Holds log t pd h r
        → look log (key_of log s) r ≡ Some (get_or (slots_of h.waiting pd) i free_slot)
    live-look i q eb tb {r} w =
        let gs : is_gone (get_or ps i free_slot) ≡ false = sym (ap (waits_gone ps) q) ∙ sym eb ∙ tb in
        key-looks log s w.merges (at-look log (key_of log s) ps w.merges.waiting ep i q) refl ∙ rw gs

    module _ {c : Bool} (ec : c ≡ waits_gone (slots_of h.waiting pd) f) where
      module _ (g : is_gone s ≡ false) (end : ℕ) where
        pub set_full : c ≡ true → length t / slot_words ≤ h.live → Enters log t pd h (record { slot = s; gone = false }) end (Err TableFull) t pd
        set_full tc q = record {
          within = full-within (length t) h.waiting end;
          exact = λ r w. answer-full end r (step-full log (key_of log s) r (length t / slot_words) s (gone-look ec tc w) (omega (arith, w.counted)));
        }

        pub set-again : {n : ℕ} {pd' : List ℕ} → c ≡ true → h.live < length t / slot_words → Becomes pd h.waiting (entered pd s f (slots_of h.waiting pd)) pd' n
            → Enters log t pd h (record { slot = s; gone = false }) end (Ok (record { at = end; held = record { count = h.count; waiting = n; live = h.live + 1 } })) t pd'
        set-again {n} {pd'} tc q b = record {
          within = on_within end (record { count = h.count; waiting = n; live = h.live + 1 }) (length t) h.waiting tr (pend_most f b among);
          exact = exactly;
        }
          where
            exactly : (r : List Slot) → Holds log t pd h r → Answers log t pd' end (Ok (record { at = end; held = record { count = h.count; waiting = n; live = h.live + 1 } })) (step r)
            exactly r w =
                let u : look log (key_of log s) r ≡ None = gone-look ec tc w in
                let l : length (put_at s (place_in log (key_of log s) r) r) ≡ length r + 1 = put_fresh log (key_of log s) r s (place_in log (key_of log s) r) refl u in
                answer-next end r (put_at s (place_in log (key_of log s) r) r) (step_new log (key_of log s) r (length t / slot_words) s u (omega (arith, w.counted)))
                (hold_pend n (h.live + 1) pd' (put_at s (place_in log (key_of log s) ps) ps) w (put_pend w b) (put_waits log s w.merges g) (omega (arith, w.counted))
                (omega (arith, w.counted)))

        pub set-over : (i : ℕ) {n : ℕ} {pd' : List ℕ} → f ≡ Ok i → c ≡ false → Becomes pd h.waiting (entered pd s f (slots_of h.waiting pd)) pd' n
            → Enters log t pd h (record { slot = s; gone = false }) end (Ok (record { at = end; held = record { count = h.count; waiting = n; live = h.live } })) t pd'
        set-over i {n} {pd'} q tc b = record {
          within = on_within end (record { count = h.count; waiting = n; live = h.live }) (length t) h.waiting tr (pend_most f b among);
          exact = exactly;
        }
          where
            exactly : (r : List Slot) → Holds log t pd h r → Answers log t pd' end (Ok (record { at = end; held = record { count = h.count; waiting = n; live = h.live } })) (step r)
            exactly r w =
                let x : Slot = get_or ps i free_slot in
                let u : look log (key_of log s) r ≡ Some x = live-look i q ec tc w in
                let l : length (put_at s (place_in log (key_of log s) r) r) ≡ length r = put-live log (key_of log s) r s x (place_in log (key_of log s) r) refl u in
                answer-next end r (put_at s (place_in log (key_of log s) r) r) (step-live log (key_of log s) r (length t / slot_words) s x u)
                (hold_pend n h.live pd' (put_at s (place_in log (key_of log s) ps) ps) w (put_pend w b) (put_waits log s w.merges g) (omega (arith, w.counted)) (omega (arith, w.fits)))

      -- ---- a tombstone

      pub del-gone : c ≡ true → Leaves log t pd h s h pd
      del-gone tc = record {
        count = refl;
        within = omega arith;
        exact = λ r w. subst (λ (x : List Slot). Holds log t pd h x) (sym (cut_fresh log (key_of log s) r (place_in log (key_of log s) r) refl (gone-look ec tc w))) w;
      }

      module _ (g : is_gone s ≡ true) (tc : c ≡ false) {key₂ : List ℕ} {f₂ : Result ℕ ℕ} (ek₂ : key₂ ≡ key_of log s) (ef₂ : f₂ ≡ place_of log key₂ (slots_of h.count t)) (j : ℕ) where
        et : f₂ ≡ place_of log (key_of log s) ss
        et = ef₂ ∙ ap (λ (x : List ℕ). place_of log x ss) ek₂

        pub del_waits : {n l : ℕ} {pd' : List ℕ} → f₂ ≡ Ok j → Becomes pd h.waiting (entered pd s f (slots_of h.waiting pd)) pd' n → l ≡ h.live - 1
            → Leaves log t pd h s (record { count = h.count; waiting = n; live = l }) pd'
        del_waits {n} {l} {pd'} q b el = record { count = refl; within = pend_most f b among; exact = exactly }
          where
            there : {r : List Slot} → Holds log t pd h r → (x : Result ℕ ℕ) → f ≡ x → (y : Slot) × (look log (key_of log s) r ≡ Some y)
            there w (Ok i) p = (get_or ps i free_slot, live-look i p ec tc w)
            there w (Err i) p = (
              get_or ss j free_slot,
              key-looks log s w.merges (before-look log (key_of log s) ps w.merges.waiting ep i p) (at-look log
                  (key_of log s) ss w.merges.table et j q),
            )

            exactly : (r : List Slot) → Holds log t pd h r → Holds log t pd' (record { count = h.count; waiting = n; live = l }) (cut_at (place_in log (key_of log s) r) r)
            exactly r w =
                let y = there w f refl in
                let m : length (cut_at (place_in log (key_of log s) r) r) ≡ length r - 1 = cut_live log (key_of log s) r y.0 (place_in log (key_of log s) r) refl y.1 in
                hold_pend n l pd' (put_at s (place_in log (key_of log s) ps) ps) w (put_pend w b) (gone_waits log s w.merges g) (omega (arith, w.counted)) (omega (arith, w.fits))

        pub del_not : {n d l : ℕ} {pd' : List ℕ} → f₂ ≡ Err j → Becomes pd h.waiting (cut_at f (slots_of h.waiting pd)) pd' n → d ≡ h.waiting - n → l ≡ h.live - d
            → Leaves log t pd h s (record { count = h.count; waiting = n; live = l }) pd'
        del_not {n} {d} {l} {pd'} q b ed el = record { count = refl; within = omega (arith, b.count, cut_most f among); exact = exactly }
          where
            absent : {r : List Slot} → Holds log t pd h r → look log (key_of log s) ss ≡ None
            absent w = before-look log (key_of log s) ss w.merges.table et j q

            fewer : (r : List Slot) → Holds log t pd h r → (x : Result ℕ ℕ) → f ≡ x → length (cut_at (place_in log (key_of log s) r) r) ≡ length r - (h.waiting - length (cut_at x ps))
            fewer r w (Ok i) p =
                let a : i < h.waiting = among-at h.waiting f i among p in
                let z = slots_length h.waiting pd in
                cut_live log (key_of log s) r (get_or ps i free_slot) (place_in log (key_of log s) r) refl (live-look i p ec tc w) ∙ omega (arith, remove_length i ps (omega arith))
            fewer r w (Err i) p =
                let z = slots_length h.waiting pd in
                let u : look log (key_of log s) r ≡ None = key-looks log s w.merges (before-look log (key_of log s) ps w.merges.waiting ep i p) (absent w) in
                ap length (cut_fresh log (key_of log s) r (place_in log (key_of log s) r) refl u) ∙ omega arith

            exactly : (r : List Slot) → Holds log t pd h r → Holds log t pd' (record { count = h.count; waiting = n; live = l }) (cut_at (place_in log (key_of log s) r) r)
            exactly r w =
                let m = fewer r w f refl in
                let x : slots_of n pd' ≡ cut_at (place_in log (key_of log s) ps) ps = becomes_slots b ∙ ap (λ (y : Result ℕ ℕ). cut_at y ps) (found_in log (key_of log s) ps w.merges.waiting ep) in
                hold_pend n l pd' (cut_at (place_in log (key_of log s) ps) ps) w x (waits_not log s w.merges (absent w)) (omega (arith, w.counted, b.count)) (omega (arith, w.fits))
