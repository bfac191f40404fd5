-- Laws of the loops that tell agreement: a turn and an end of each, for any words. Assumes nothing.
use Prim.Native.Nat.{ℕ, zero, suc, ◌+◌, ◌-◌, ◌≤◌, ◌<◌}
use mathlib.Core.Path.{◌≡◌, refl, sym, ap, ◌∙◌}
use mathlib.Core.Bool.{Bool, true, false}
use mathlib.Core.List.{List, [], ◌∷◌}
use native.Mathlib.Numerals.{add-one}
use native.Mathlib.Omega.{arith}
use lib.ListN.{length, drop, get_or, drop_of_length-le}
use lib.Seq.{drop-cons}
use borrow.Author.Tests.{eq-eqb, eqb-true, ne_eqb, ltb-true, ltb-false}
use lib.Dec.{eqb, ltb}
use Rattle.std.specs.List.{All}
use Rattle.bitcask.proofs.recovery.AgreeLaws.{both}
use Rattle.std.specs.Prelude.{Result, ℕ, Ok, Err, Option, Some, None}
use Rattle.std.specs.declared.cmp.Ordering.{Ordering}
use Rattle.std.specs.declared.cmp.Ordering.TheVariants.{Less, Equal, Greater}
use Rattle.std.specs.Ordering.{is_lt, is_eq}
use Rattle.keycode.specs.Order.{compare_bytes}
use Rattle.keycode.proofs.Basics.{nope}
use Rattle.bitcask.specs.declared.entry.read.Lengths.{Lengths}
use Rattle.bitcask.specs.declared.entry.read.Lengths.TheVariants.{Set, Del}
use Rattle.bitcask.specs.entry.Reading.{entry_at}
use Rattle.bitcask.specs.declared.keydir.slots.Slot.{Slot}
use Rattle.bitcask.specs.keydir.Slots.{free_slot, slot_at, slots_of, key_of}
use Rattle.bitcask.specs.keydir.Place.{place_of}
use Rattle.bitcask.proofs.keydir.SlotLaws.{slot_at_is}
use Rattle.bitcask.specs.recovery.Recover.{Item, item_of, next, items}
use Rattle.bitcask.proofs.recovery.ItemLaws.{Stands, item_stands, items-stop, items-next}
use Rattle.bitcask.specs.declared.check.Seen.{Seen}
use Rattle.bitcask.specs.declared.check.Judged.{Judged}
use Rattle.bitcask.specs.declared.check.Judged.TheVariants.{Wrong, Early, Exact}
use Rattle.bitcask.specs.check.Told.{zeroed, is_less, is_equal, risen, ahead_of, item_seen, later_in, against, judged_in, one_more, counted, walked_in}
use Rattle.bitcask.proofs.read.RankLaws.{found_at}

-- ---- words that are 0

all_zero : (t : List ℕ) → All (λ (x : ℕ). x ≡ 0) t → zeroed t ≡ true
unfolding zeroed
all_zero [] a = refl
all_zero (x ∷ t) a = rw (eq-eqb x 0 (a zero 0 (omega arith))) (all_zero t (λ k d h. a (suc k) d (omega arith)))

zero-all : (t : List ℕ) → zeroed t ≡ true → All (λ (x : ℕ). x ≡ 0) t
unfolding zeroed
zero-all [] e k d h = absurd (omega arith)
zero-all (x ∷ t) e zero d h = eqb-true x 0 (both (eqb x 0) (zeroed t) e).0
zero-all (x ∷ t) e (suc k) d h = zero-all t (both (eqb x 0) (zeroed t) e).1 k d (omega arith)

-- the test as the library says it
pub zeroed-all : (t : List ℕ) (b : Bool) → (b ≡ true → All (λ (x : ℕ). x ≡ 0) t) × (All (λ (x : ℕ). x ≡ 0) t → b ≡ true) → b ≡ zeroed t
zeroed-all t true p = sym (all_zero t (p.0 refl))
zeroed-all t false p = go (zeroed t) refl
  where
    go : (z : Bool) → zeroed t ≡ z → false ≡ z
    go true e = nope (cc (p.1 (zero-all t e)))
    go false e = refl

-- ---- keys that rise

-- the library's words for an order that is Less, and for one that is Equal
pub less-is : (o : Ordering) → is_lt o ≡ is_less o
less-is Less = refl
less-is Equal = refl
less-is Greater = refl

pub equal-is : (o : Ordering) → is_eq o ≡ is_equal o
equal-is Less = refl
equal-is Equal = refl
equal-is Greater = refl

pub pair_is : (log t : List ℕ) (n i : ℕ) {s x : Slot} {a b : List ℕ} {o : Ordering} → i + 1 < n → s ≡ slot_at t i → x ≡ slot_at t (i + 1) → a ≡ key_of log s → b ≡ key_of log x
    → o ≡ compare_bytes a b
    → is_less o ≡ is_less (compare_bytes (key_of log (get_or (slots_of n t) i free_slot)) (key_of log (get_or (slots_of n t) (i + 1) free_slot)))
pair_is log t n i h e f p r q = rw (q, p, r, e, f, slot_at_is n t i (omega arith), slot_at_is n t (i + 1) h)

module _ (log : List ℕ) (ss : List Slot) (i : ℕ) where
  pub rise_end : length ss ≤ i → true ≡ risen log (drop i ss)
  unfolding risen
  rise_end h = rw (drop_of_length-le ss {i = i} h)

  module _ (h : i < length ss) where
    pub rise_last : length ss - i < 2 → true ≡ risen log (drop i ss)
    unfolding risen
    rise_last l = rw (drop-cons ss i free_slot h, drop_of_length-le ss {i = suc i} (omega arith))

    pub rise_turn : i + 1 < length ss → is_less (compare_bytes (key_of log (get_or ss i free_slot)) (key_of log (get_or ss (i + 1) free_slot))) ≡ true
        → risen log (drop i ss) ≡ risen log (drop (i + 1) ss)
    unfolding risen
    rise_turn l e =
        let f : is_less (compare_bytes (key_of log (get_or ss i free_slot)) (key_of log (get_or ss (suc i) free_slot))) ≡ true = rw (add-one) at e in
        rw (add-one, drop-cons ss i free_slot h, drop-cons ss (suc i) free_slot (omega arith), f)

    pub rise_stop : i + 1 < length ss → is_less (compare_bytes (key_of log (get_or ss i free_slot)) (key_of log (get_or ss (i + 1) free_slot))) ≡ false
        → false ≡ risen log (drop i ss)
    unfolding risen
    rise_stop l e =
        let f : is_less (compare_bytes (key_of log (get_or ss i free_slot)) (key_of log (get_or ss (suc i) free_slot))) ≡ false = rw (add-one) at e in
        rw (drop-cons ss i free_slot h, drop-cons ss (suc i) free_slot (omega arith), f)

  -- one slot or none is left
  pub rise_done : length ss ≤ i + 1 → true ≡ risen log (drop i ss)
  rise_done l = go (ltb i (length ss)) refl
    where
      go : (b : Bool) → ltb i (length ss) ≡ b → true ≡ risen log (drop i ss)
      go true e = rise_last (ltb-true i (length ss) e) (omega arith)
      go false e = rise_end (ltb-false i (length ss) e)

-- ---- the entry at an offset

module _ (log : List ℕ) (used at : ℕ) {r : Option Lengths} (e : r ≡ entry_at log used at) where
  pub set_near : (k v : ℕ) → r ≡ (Some (Set k v)) → at + 8 + k + v ≤ used
  set_near k v f = let w = item_stands log used at (record { slot = record { place = at + 1; klen = k; vlen = v }; gone = false }) (rw (← e, f)) in let n = w.near in omega arith

  pub del_near : (k : ℕ) → r ≡ (Some (Del k)) → at + 8 + k ≤ used
  del_near k f = let w = item_stands log used at (record { slot = record { place = at + 1; klen = k; vlen = 0 }; gone = true }) (rw (← e, f)) in let n = w.near in omega arith

seen_is : (o : Option Item) (a : Option Seen) (s : Seen) → a ≡ ahead_of o → a ≡ Some s → o ≡ Some (item_seen s)
seen_is None a s e f = nope (cc)
seen_is (Some i) a s e f =
    let z : record { slot = i.slot; gone = i.gone } ≡ s = cc in
    ap (λ (x : Seen). Some (item_seen x)) z

none_is : (o : Option Item) (a : Option Seen) → a ≡ ahead_of o → a ≡ None → o ≡ None
none_is None a e f = refl
none_is (Some i) a e f = nope (cc)

-- what the walks learn at an offset
module _ (log : List ℕ) (used at : ℕ) {a : Option Seen} (e : a ≡ ahead_of (item_of (entry_at log used at) at)) where
  items-over : a ≡ None → items log used at ≡ []
  items-over f = items-stop log used at (none_is (item_of (entry_at log used at) at) a e f)

  module _ (s : Seen) (f : a ≡ Some s) where
    items_on : items log used at ≡ item_seen s ∷ items log used (next (item_seen s))
    items_on = items-next log used at (item_seen s) (seen_is (item_of (entry_at log used at) at) a s e f)

    pub seen_stands : Stands used at (item_seen s)
    seen_stands = item_stands log used at (item_seen s) (seen_is (item_of (entry_at log used at) at) a s e f)

pub same-is : (log : List ℕ) (s : Slot) (key : List ℕ) {k : List ℕ} {o : Ordering} → k ≡ key_of log s → o ≡ compare_bytes k key → is_equal o ≡ is_equal (compare_bytes (key_of log s) key)
same-is log s key e f = rw (f, e)

-- no entry before an offset has the key
pub record Looking (log : List ℕ) (used start : ℕ) (key : List ℕ) (at : ℕ) : Type 0 where
  pub within : at ≤ used
  pub whole : later_in log key (items log used at) ≡ later_in log key (items log used start)

pub looking_start : (log : List ℕ) (used start : ℕ) (key : List ℕ) → start ≤ used → Looking log used start key start
looking_start log used start key h = record { within = h; whole = refl }

module _ {log : List ℕ} {used start : ℕ} {key : List ℕ} {at : ℕ} (w : Looking log used start key at) {a : Option Seen} (e : a ≡ ahead_of (item_of (entry_at log used at) at)) where
  pub looking-over : a ≡ None → false ≡ later_in log key (items log used start)
  unfolding later_in
  looking-over f = let z : later_in log key (items log used at) ≡ false = rw (items-over log used at e f) in sym z ∙ w.whole

  module _ (s : Seen) (f : a ≡ Some s) where
    pub looking-here : {b : Bool} → b ≡ is_equal (compare_bytes (key_of log s.slot) key) → b ≡ true → true ≡ later_in log key (items log used start)
    unfolding later_in
    looking-here q t = let z : later_in log key (items log used at) ≡ true = rw (items_on log used at e s f, ← q, t) in sym z ∙ w.whole

    module _ (at' : ℕ) (n : at' ≡ s.slot.place + 7 + s.slot.klen + s.slot.vlen) where
      pub looking_less : used - at' < used - at
      looking_less = let st = seen_stands log used at e s f in let x = st.far in let y = st.near in omega arith

      pub looking-next : {b : Bool} → b ≡ is_equal (compare_bytes (key_of log s.slot) key) → b ≡ false → Looking log used start key at'
      unfolding later_in
      looking-next q t =
          let st = seen_stands log used at e s f in
          let z : later_in log key (items log used at) ≡ later_in log key (items log used at') = rw (items_on log used at e s f, ← q, t, n) in
          record { within = omega (arith, st.near); whole = sym z ∙ w.whole }

pub later-from : (log key : List ℕ) (used : ℕ) {p q : ℕ} {b : Bool} → p ≡ q → b ≡ later_in log key (items log used p) → b ≡ later_in log key (items log used q)
later-from log key used e f = f ∙ ap (λ (x : ℕ). later_in log key (items log used x)) e

-- ---- an entry judged

module _ (log t : List ℕ) (n : ℕ) (s : Seen) (is : List Item) {key : List ℕ} {f : Result ℕ ℕ} (k : key ≡ key_of log s.slot) (e : f ≡ place_of log key (slots_of n t)) where
  placed : f ≡ place_of log (key_of log s.slot) (slots_of n t)
  placed = e ∙ ap (λ (x : List ℕ). place_of log x (slots_of n t)) k

  pub judge-at : (j : ℕ) {x : Slot} {r : Judged} → f ≡ Ok j → x ≡ slot_at t j → r ≡ against x s.slot s.gone → r ≡ judged_in log (slots_of n t) (item_seen s) is
  unfolding judged_in
  judge-at j a b q = q ∙ rw (← placed, a, b, slot_at_is n t j (found_at log key t n f e j a))

  module _ (j : ℕ) (a : f ≡ Err j) where
    pub judge-gone : s.gone ≡ true → Early ≡ judged_in log (slots_of n t) (item_seen s) is
    unfolding judged_in
    judge-gone g = rw (← placed, a, g)

    module _ (g : s.gone ≡ false) {l : Bool} (q : l ≡ later_in log key is) where
      pub judge-later : l ≡ true → Early ≡ judged_in log (slots_of n t) (item_seen s) is
      unfolding judged_in
      judge-later h = rw (← placed, a, g, ← k, ← q, h)

      pub judge_wrong : l ≡ false → Wrong ≡ judged_in log (slots_of n t) (item_seen s) is
      unfolding judged_in
      judge_wrong h = rw (← placed, a, g, ← k, ← q, h)

-- ---- the walk

abbrev more : ℕ → Option ℕ → Option ℕ
more n None = None
more n (Some m) = Some (n + m)

more_one : (n : ℕ) (w : Option ℕ) → more n (one_more w) ≡ more (n + 1) w
more_one n None = refl
more_one n (Some m) = let e : n + suc m ≡ n + 1 + m = omega arith in ap Some e

more-none : (w : Option ℕ) → more 0 w ≡ w
more-none None = refl
more-none (Some m) = let e : 0 + m ≡ m = omega arith in ap Some e

-- so many are met before an offset; no more than bytes
pub record Walking (log : List ℕ) (used : ℕ) (ss : List Slot) (at met : ℕ) : Type 0 where
  pub within : at ≤ used
  pub few : met ≤ at
  pub whole : more met (walked_in log used ss at (items log used at)) ≡ walked_in log used ss 0 (items log used 0)

module _ (log : List ℕ) (used : ℕ) (ss : List Slot) where
  pub walking_start : Walking log used ss 0 0
  walking_start = record { within = omega arith; few = omega arith; whole = more-none (walked_in log used ss 0 (items log used 0)) }

module _ {log : List ℕ} {used : ℕ} {ss : List Slot} {at met : ℕ} (w : Walking log used ss at met) {a : Option Seen} (e : a ≡ ahead_of (item_of (entry_at log used at) at)) where
  pub walking_end : a ≡ None → at ≡ used → Some met ≡ walked_in log used ss 0 (items log used 0)
  unfolding walked_in
  walking_end f h =
      let z : more met (walked_in log used ss at (items log used at)) ≡ Some (met + 0) = rw (items-over log used at e f, eq-eqb at used h) in
      let n : met ≡ met + 0 = omega arith in ap Some n ∙ sym z ∙ w.whole

  pub walking_cut : a ≡ None → (at ≡ used → ⊥) → None ≡ walked_in log used ss 0 (items log used 0)
  unfolding walked_in
  walking_cut f h =
      let z : more met (walked_in log used ss at (items log used at)) ≡ None = rw (items-over log used at e f, ne_eqb at used h) in sym z ∙ w.whole

  module _ (s : Seen) (f : a ≡ Some s) {j : Judged} (q : j ≡ judged_in log ss (item_seen s) (items log used (next (item_seen s)))) where
    on : walked_in log used ss at (items log used at) ≡ counted j (walked_in log used ss (next (item_seen s)) (items log used (next (item_seen s))))
    unfolding walked_in
    on = rw (items_on log used at e s f, ← q)

    pub walking_wrong : j ≡ Wrong → None ≡ walked_in log used ss 0 (items log used 0)
    walking_wrong p = let z : more met (walked_in log used ss at (items log used at)) ≡ None = rw (on, p) in sym z ∙ w.whole

    module _ (at' : ℕ) (n : at' ≡ s.slot.place + 7 + s.slot.klen + s.slot.vlen) where
      pub walking_less : used - at' < used - at
      walking_less = let st = seen_stands log used at e s f in let x = st.far in let y = st.near in omega arith

      pub walking_early : j ≡ Early → Walking log used ss at' met
      walking_early p =
          let st = seen_stands log used at e s f in
          let z : more met (walked_in log used ss at (items log used at)) ≡ more met (walked_in log used ss at' (items log used at')) = rw (on, p, n) in
          record { within = omega (arith, st.near); few = omega (arith, st.far, w.few); whole = sym z ∙ w.whole }

      pub walking_exact : j ≡ Exact → Walking log used ss at' (met + 1)
      walking_exact p =
          let st = seen_stands log used at e s f in
          let z : more met (walked_in log used ss at (items log used at)) ≡ more (met + 1) (walked_in log used ss at' (items log used at')) =
          rw (on, p, n) (more_one met (walked_in log used ss (next (item_seen s)) (items log used (next (item_seen s))))) in
          record { within = omega (arith, st.near); few = omega (arith, st.far, w.few); whole = sym z ∙ w.whole }
