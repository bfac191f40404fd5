-- Laws of entries passed: what holds before each, and what they come to. Assumes nothing.
use Prim.Native.Nat.{ℕ, zero, suc, ◌-◌, ◌*◌, ◌/◌, ◌≤◌, ◌<◌}
use mathlib.Core.Path.{◌≡◌, refl, sym, ap, ◌∙◌, subst}
use Rattle.std.specs.Prelude.{Result, Ok, Err, Option, None, Some}
use mathlib.Core.List.{List, [], ◌∷◌}
use native.Mathlib.Omega.{arith}
use lib.ListN.{length, replicate}
use Rattle.keycode.proofs.Basics.{nope}
use Rattle.bitcask.specs.entry.Reading.{entry_at}
use Rattle.bitcask.specs.declared.keydir.slots.Slot.{Slot}
use Rattle.bitcask.specs.keydir.Slots.{slot_words, slots_of, table_of, key_of}
use Rattle.bitcask.specs.keydir.Place.{place_in}
use Rattle.bitcask.proofs.keydir.TableLaws.{table-slots}
use Rattle.bitcask.specs.merging.Merge.{Merges}
use Rattle.bitcask.proofs.merging.MergeLaws.{merges_unique}
use Rattle.bitcask.proofs.keydir.SlotLaws.{slots_length}
use Rattle.bitcask.specs.declared.recovery.waiting.Held.{Held}
use Rattle.bitcask.specs.declared.recovery.waiting.Next.{Next}
use Rattle.bitcask.specs.declared.recovery.passing.Passed.{Passed}
use Rattle.keycode.specs.declared.refusal.Refusal.{Refusal}
use Rattle.keycode.specs.declared.refusal.Refusal.TheVariants.{TableFull}
use Rattle.bitcask.specs.recovery.Recover.{Item, item_of, next, items_of, ends, step_in, then_run, run}
use Rattle.bitcask.specs.recovery.Waiting.{max_waiting, Holds, Enters, Settles}
use Rattle.bitcask.specs.recovery.Passing.{standing, TakesEntry, Tidy, passed_by, GoesOver, Passes}
use Rattle.bitcask.proofs.recovery.ItemLaws.{item_stands}
use Rattle.bitcask.proofs.recovery.SettleLaws.{merges_alone}
use Rattle.bitcask.proofs.recovery.TakeLaws.{full-says, next-says}

-- ---- the entries left

module _ (log : List ℕ) (used : ℕ) where
  pub items-none : (n at : ℕ) → item_of (entry_at log used at) at ≡ None → items_of n log used at ≡ []
  unfolding items_of
  items-none zero at e = refl
  items-none (suc n) at e = rw e

  pub items_one : (n at : ℕ) (i : Item) → 0 < n → item_of (entry_at log used at) at ≡ Some i → items_of n log used at ≡ i ∷ items_of (n - 1) log used (next i)
  unfolding items_of
  items_one zero at i h e = absurd (omega arith)
  items_one (suc n) at i h e = (let m : n ≡ suc n - 1 = omega arith in rw e (ap (λ (k : ℕ). i ∷ items_of k log used (next i)) m))
  -- some entries and then others are all

run-over : (log : List ℕ) (cap : ℕ) (r : List Slot) {is : List Item} → is ≡ [] → run log cap is r ≡ Some r
unfolding run
run-over log cap r e = rw e

ends-over : (at : ℕ) {is : List Item} → is ≡ [] → ends at is ≡ at
unfolding ends
ends-over at e = rw e

ends_one : (at : ℕ) (i : Item) (is : List Item) → ends at (i ∷ is) ≡ ends (next i) is
unfolding ends
ends_one at i is = refl

spare-over : (left : ℕ) {is : List Item} → is ≡ [] → left - length is ≡ left
spare-over left e = let p = ap length e in omega arith

-- where nothing waits the table's slots are all
settled_slots : (log x pd : List ℕ) (h : Held) (r : List Slot) → Holds log x pd h r → h.waiting ≡ 0 → slots_of h.count x ≡ r
settled_slots log x pd h r w e =
    let m : Merges log (slots_of 0 pd) (slots_of h.count x) r = rw e at w.merges in
    merges_unique log (merges_alone log (slots_of h.count x) pd w.merges.table) m

-- ---- what holds before each entry

-- table and changes stand for slots from which the entries left lead to what all of them do
pub record Onward (log : List ℕ) (used cap start most : ℕ) (ss : List Slot) (x pd : List ℕ) (at : ℕ) (h : Held) (left : ℕ) : Type 0 where
  pub slots : List Slot
  pub holds : Holds log x pd h slots
  pub runs : run log cap (items_of left log used at) slots ≡ run log cap (items_of most log used start) ss
  pub ended : ends at (items_of left log used at) ≡ ends start (items_of most log used start)
  pub spare : left - length (items_of left log used at) ≡ most - length (items_of most log used start)

pub record Passing (log : List ℕ) (used : ℕ) (t : List ℕ) (n start most : ℕ) (x pd : List ℕ) (at : ℕ) (h : Held) (left : ℕ) : Type 0 where
  pub long : length x ≡ length t
  pub inside : slot_words * h.count ≤ length t
  pub few : h.waiting ≤ max_waiting
  pub within : at ≤ used
  pub pending : slot_words * max_waiting ≤ length pd
  pub exact : (ss : List Slot) → Tidy log t n ss → Onward log used (length t / slot_words) start most ss x pd at h left

pub passing_start : (log : List ℕ) (used : ℕ) (t pd : List ℕ) (n start most : ℕ) → start ≤ used → slot_words * n ≤ length t → slot_words * max_waiting ≤ length pd
    → Passing log used t n start most t pd start (record { count = n; waiting = 0; live = n }) most
passing_start log used t pd n start most a b c = record {
  long = refl;
  inside = b;
  few = omega arith;
  within = a;
  pending = c;
  exact = λ ss y.
      let e : slots_of n t ≡ ss = ap (slots_of n) y.words ∙ ap (λ (k : ℕ). slots_of k (table_of (length t) ss)) y.count ∙ table-slots (length t) ss in
      record {
        slots = ss;
        holds = record { words = rw e y.words; merges = rw e (merges_alone log ss pd y.sorted); counted = y.count; fits = y.room };
        runs = refl;
        ended = refl;
        spare = refl;
      };
}

module _ {log : List ℕ} {used : ℕ} {t : List ℕ} {n start most : ℕ} {x pd : List ℕ} {at : ℕ} {h : Held} {left : ℕ} (w : Passing log used t n start most x pd at h left) where
  -- changes brought into the table change nothing
  pub passing_settled : {h' : Held} {x' : List ℕ} → length x' ≡ length x → h'.waiting ≤ max_waiting → Settles log x pd h h' x' → Passing log used t n start most x' pd at h' left
  passing_settled l f v = record {
    long = l ∙ w.long;
    inside = omega (arith, v.within, w.long);
    few = f;
    within = w.within;
    pending = w.pending;
    exact = λ ss y. (let o = w.exact ss y in record { slots = o.slots; holds = v.exact o.slots o.holds; runs = o.runs; ended = o.ended; spare = o.spare });
  }

  cap_same : length x / slot_words ≡ length t / slot_words
  cap_same = ap (λ (k : ℕ). k / slot_words) w.long

  -- the run of the entries left, where one stands
  one_run : (i : Item) → 0 < left → item_of (entry_at log used at) at ≡ Some i → (r : List Slot) (q : Option (List Slot))
      → step_in (length x / slot_words) i (place_in log (key_of log i.slot) r) r ≡ q
      → run log (length t / slot_words) (items_of left log used at) r ≡ then_run q (λ z. run log (length t / slot_words) (items_of (left - 1) log used (next i)) z)
  unfolding run
  one_run i pos e r q f =
      ap (λ (is : List Item). run log (length t / slot_words) is r) (items_one log used left at i pos e)
      ∙ ap (λ (k : ℕ). then_run (step_in k i (place_in log (key_of log i.slot) r) r) (λ z. run log (length t / slot_words) (items_of (left - 1) log used (next i)) z)) (sym cap_same)
      ∙ ap (λ (z : Option (List Slot)). then_run z (λ y. run log (length t / slot_words) (items_of (left - 1) log used (next i)) y)) f

  module _ (pos : 0 < left) {o : Result (Option Next) Refusal} {x' pd' : List ℕ} (v : TakesEntry log used x pd h at o x' pd') where
    stands : (a : Option Item) → item_of (entry_at log used at) at ≡ a → (o ≡ Ok None → ⊥) → (i : Item) × (item_of (entry_at log used at) at ≡ Some i)
    stands None e f = absurd (f (v.stop e).0)
    stands (Some i) e f = (i, e)

    -- what stands there has been taken
    taken : (x : Next) (a : Result Next Refusal) → standing a ≡ Ok (Some x) → a ≡ Ok x
    taken x (Ok y) e = cc
    taken x (Err r) e = nope (cc)

    refused : (f : Refusal) (a : Result Next Refusal) → standing a ≡ Err f → a ≡ Err f
    refused f (Ok y) e = nope (cc)
    refused f (Err r) e = cc

    pub passing_next : (s : Next) → h.waiting < max_waiting → length x' ≡ length x → length pd' ≡ length pd → o ≡ Ok (Some s) → Passing log used t n start most x' pd' s.at s.held (left - 1)
    passing_next s few lx lp e = go (stands (item_of (entry_at log used at) at) refl (λ q. nope (cc)))
      where
        onward : (i : Item) → item_of (entry_at log used at) at ≡ Some i → s.at ≡ next i → Enters log x pd h i (next i) (Ok s) x' pd' → (ss : List Slot)
            → Onward log used (length t / slot_words) start most ss x pd at h left → Onward log used (length t / slot_words) start most ss x' pd' s.at s.held (left - 1)
        onward i q ea en ss y =
            let z = next-says (en.exact y.slots y.holds) s refl in
            let it = items_one log used left at i pos q in
            record {
              slots = z.0;
              holds = z.2;
              runs = ap (λ (k : ℕ). run log (length t / slot_words) (items_of (left - 1) log used k) z.0) ea ∙ sym (one_run i pos q y.slots (Some z.0) z.1) ∙ y.runs;
              ended = ended_one i ea it ∙ y.ended;
              spare = spare_one i ea it ∙ y.spare;
            }
          where
            ended_one : (i : Item) → s.at ≡ next i → items_of left log used at ≡ i ∷ items_of (left - 1) log used (next i)
                → ends s.at (items_of (left - 1) log used s.at) ≡ ends at (items_of left log used at)
            ended_one i ea it = ap (λ (k : ℕ). ends k (items_of (left - 1) log used k)) ea ∙ sym (ap (ends at) it ∙ ends_one at i (items_of (left - 1) log used (next i)))

            spare_one : (i : Item) → s.at ≡ next i → items_of left log used at ≡ i ∷ items_of (left - 1) log used (next i)
                → left - 1 - length (items_of (left - 1) log used s.at) ≡ left - length (items_of left log used at)
            spare_one i ea it =
                let p = ap length it in
                let q = ap (λ (k : ℕ). length (items_of (left - 1) log used k)) ea in omega arith

        go : (i : Item) × (item_of (entry_at log used at) at ≡ Some i) → Passing log used t n start most x' pd' s.at s.held (left - 1)
        go p =
            let i : Item = p.0 in
            let k = v.entry i p.1 in
            let en : Enters log x pd h i (next i) (Ok s) x' pd' = subst (λ (a : Result Next Refusal). Enters log x pd h i (next i) a x' pd') (taken s k.0 (sym k.1 ∙ e)) k.2 in
            let b = en.within s refl in
            record {
              long = lx ∙ w.long;
              inside = omega (arith, b.0, w.long);
              few = omega (arith, b.1);
              within = omega (arith, b.2, (item_stands log used at i p.1).near);
              pending = omega (arith, w.pending);
              exact = λ ss y. onward i p.1 b.2 en ss (w.exact ss y);
            }

    -- an entry that is refused: the run of the entries comes to nothing, and 8 is why
    full_run : (f : Refusal) → o ≡ Err f → (i : Item) → item_of (entry_at log used at) at ≡ Some i → (ss : List Slot) → Tidy log t n ss
        → (run log (length t / slot_words) (items_of most log used start) ss ≡ None) × (f ≡ TableFull)
    full_run f e i q ss y =
        let u = w.exact ss y in
        let k = v.entry i q in
        let d = full-says (k.2.exact u.slots u.holds) (refused f k.0 (sym k.1 ∙ e)) in
        (sym u.runs ∙ one_run i pos q u.slots None d.0, d.1)

    -- the table is left as it stands then
    pub passing_refused : (f : Refusal) → o ≡ Err f → GoesOver log used t n start most (Err f) x'
    passing_refused f e = go (stands (item_of (entry_at log used at) at) refl (λ q. nope (cc)))
      where
        go : (i : Item) × (item_of (entry_at log used at) at ≡ Some i) → GoesOver log used t n start most (Err f) x'
        go p = record {
          within = λ a q. nope (cc);
          answer = λ ss y. (let d = full_run f e p.0 p.1 ss y in rw d.0 (ap (λ (r : Refusal). Err r) d.1));
          table = λ ss y rs q. nope (cc ((full_run f e p.0 p.1 ss y).0));
        }

    -- and where it is cleared the words are those of an opening that is refused
    pub passing_full : (f : Refusal) {z : List ℕ} → z ≡ replicate (length x') 0 → length x' ≡ length x → o ≡ Err f → Passes log used t n start most (Err f) z
    passing_full f {z} ez lx e = go (stands (item_of (entry_at log used at) at) refl (λ q. nope (cc)))
      where
        go : (i : Item) × (item_of (entry_at log used at) at ≡ Some i) → Passes log used t n start most (Err f) z
        go p = record {
          within = λ a q. nope (cc);
          answer = (passing_refused f e).answer;
          table = λ ss y. rw (full_run f e p.0 p.1 ss y).0 (ez ∙ ap (λ (k : ℕ). replicate k 0) (lx ∙ w.long));
        }

    none_there : o ≡ Ok None → (a : Option Item) → item_of (entry_at log used at) at ≡ a → a ≡ None
    none_there e None q = refl
    none_there e (Some i) q = (let k = v.entry i q in absurd (some_there k.0 (sym k.1 ∙ e)))
      where
        some_there : (a : Result Next Refusal) → standing a ≡ Ok None → ⊥
        some_there (Ok y) e = nope (cc)
        some_there (Err r) e = nope (cc)

    pub passing_over : o ≡ Ok None → (item_of (entry_at log used at) at ≡ None) × (x' ≡ x) × (pd' ≡ pd)
    passing_over e = let q = none_there e (item_of (entry_at log used at) at) refl in (q, (v.stop q).1, (v.stop q).2)

  -- the end: nothing waits, and no entry is left, or none may be passed
  pub passing_end : items_of left log used at ≡ [] → {h' : Held} {x' : List ℕ} → length x' ≡ length x → h'.waiting ≡ 0 → Settles log x pd h h' x'
      → GoesOver log used t n start most (Ok (record { at = at; count = h'.count; left = left })) x'
  passing_end z {h'} {x'} l e v = record {
    within = λ p q. (let f : ◌≡◌ {A = Passed} (record { at = at; count = h'.count; left = left }) p = cc in
        subst (λ (y : Passed). (y.at ≤ used) × (slot_words * y.count ≤ length t)) f (w.within, omega (arith, v.within, w.long)));
    answer = λ ss y. (ended ss (w.exact ss y)).0;
    table = λ ss y rs q. (let d = ended ss (w.exact ss y) in let f : d.1 ≡ rs = cc (d.2, q) in d.3 ∙ ap (table_of (length t)) f);
  }
    where
      ended : (ss : List Slot) → Onward log used (length t / slot_words) start most ss x pd at h left
          → (Ok (record { at = at; count = h'.count; left = left })
          ≡ passed_by (run log (length t / slot_words) (items_of most log used start) ss) (ends start (items_of most log used start)) (most - length (items_of most log used start)))
          × (r : List Slot) × (run log (length t / slot_words) (items_of most log used start) ss ≡ Some r) × (x' ≡ table_of (length t) r)
      ended ss u =
          let r : List Slot = u.slots in
          let hr : Holds log x' pd h' r = v.exact r u.holds in
          let p : run log (length t / slot_words) (items_of most log used start) ss ≡ Some r = sym u.runs ∙ run-over log (length t / slot_words) r z in
          let q : ends start (items_of most log used start) ≡ at = sym u.ended ∙ ends-over at z in
          let d : most - length (items_of most log used start) ≡ left = sym u.spare ∙ spare-over left z in
          let s : slots_of h'.count x' ≡ r = settled_slots log x' pd h' r hr e in
          let c : h'.count ≡ length r = sym (slots_length h'.count x') ∙ ap length s in
          (rw (p, q, d) (ap (λ (k : ℕ). Ok (record { at = at; count = k; left = left })) c), r, p, hr.words ∙ rw (s, l ∙ w.long) refl)

  -- the end at an offset where no entry stands
  pub passing_stop : (pos : 0 < left) {o : Result (Option Next) Refusal} {x₁ pd₁ : List ℕ} → TakesEntry log used x pd h at o x₁ pd₁ → o ≡ Ok None → {h' : Held} {x' : List ℕ}
      → length x' ≡ length x₁ → h'.waiting ≡ 0 → Settles log x₁ pd₁ h h' x'
      → GoesOver log used t n start most (Ok (record { at = at; count = h'.count; left = left })) x'
  passing_stop pos {o} {x₁} {pd₁} v e {h'} {x'} l q z =
      let p = passing_over pos v e in
      passing_end (items-none log used left at p.0) (l ∙ ap length p.1) q
      (subst (λ (y : List ℕ). Settles log y pd h h' x') p.1 (subst (λ (y : List ℕ). Settles log x₁ y h h' x') p.2 z))

  -- or where no more may be passed
  pub passing_spent : left ≤ 0 → {h' : Held} {x' : List ℕ} → length x' ≡ length x → h'.waiting ≡ 0 → Settles log x pd h h' x'
      → GoesOver log used t n start most (Ok (record { at = at; count = h'.count; left = left })) x'
  unfolding items_of
  passing_spent z l q v = let e : left ≡ 0 = omega arith in passing_end (ap (λ (k : ℕ). items_of k log used at) e) l q v
