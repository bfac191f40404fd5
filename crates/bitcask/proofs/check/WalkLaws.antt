-- What the walk says on slots whose keys rise: where it meets as many entries as there are slots, the slots are recovery's.
-- Assumes nothing.
use Prim.Native.Nat.{ℕ, suc, ◌≤◌, ◌<◌}
use mathlib.Core.Path.{◌≡◌, refl, sym, ap, ◌∙◌, subst}
use mathlib.Core.Logic.{◌⊎◌, inl, inr}
use mathlib.Core.Bool.{Bool, true, false}
use mathlib.Core.List.{List, [], ◌∷◌}
use native.Mathlib.Omega.{arith}
use lib.Dec.{ltb, eqb}
use lib.ListN.{length}
use borrow.Author.Tests.{ltb-true, eqb-true}
use Rattle.std.specs.Prelude.{Result, ℕ, Option, None, Some}
use Rattle.std.specs.declared.cmp.Ordering.{Ordering}
use Rattle.std.specs.declared.cmp.Ordering.TheVariants.{Less, Equal, Greater}
use Rattle.keycode.specs.Tests.{pick}
use Rattle.keycode.specs.Order.{compare_bytes, by_order}
use Rattle.keycode.proofs.Basics.{nope}
use Rattle.keycode.proofs.OrderLaws.{compare_equal, compare_refl}
use Rattle.bitcask.specs.declared.keydir.slots.Slot.{Slot}
use Rattle.bitcask.specs.keydir.Slots.{key_of}
use Rattle.bitcask.specs.keydir.Place.{Sorted}
use Rattle.bitcask.proofs.keydir.PlaceLaws.{place-sorted}
use Rattle.bitcask.specs.recovery.Recover.{Item, next, items, ends, recovered}
use Rattle.bitcask.proofs.recovery.ItemLaws.{Stands, Chain, chain_none, chain_more, items_chain}
use Rattle.bitcask.proofs.recovery.FoldLaws.{recovered-sorted}
use Rattle.bitcask.specs.declared.check.Judged.{Judged}
use Rattle.bitcask.specs.declared.check.Judged.TheVariants.{Wrong, Early, Exact}
use Rattle.bitcask.specs.check.Told.{later_in, same_slot, against, slot_found, judged_by, judged_in, counted, walked_in}
use Rattle.bitcask.proofs.check.LastLaws.{slot_for, leaves, last_of, found_for, recovered-last}
use Rattle.bitcask.proofs.check.MemberLaws.{Mem, without, without-length, split_in, for_mem, mem_for, sorted_ext}

-- ---- one entry

same-slot : (a b : Slot) → same_slot a b ≡ true → a ≡ b
same-slot a b e = go (eqb a.place b.place) (eqb a.klen b.klen) (eqb a.vlen b.vlen) refl refl refl e
  where
    go : (x y z : Bool) → eqb a.place b.place ≡ x → eqb a.klen b.klen ≡ y → eqb a.vlen b.vlen ≡ z → pick x (pick y z false) false ≡ true → a ≡ b
    go true true true p q r w = λ j. record { place = eqb-true a.place b.place p j; klen = eqb-true a.klen b.klen q j; vlen = eqb-true a.vlen b.vlen r j }
    go true true false p q r w = nope (cc)
    go true false z p q r w = nope (cc)
    go false y z p q r w = nope (cc)

module _ (s x : Slot) (g : Bool) where
  early_some : against s x g ≡ Early → x.place < s.place
  unfolding against
  early_some e = go (ltb x.place s.place) refl g (same_slot s x) e
    where
      go : (b : Bool) → ltb x.place s.place ≡ b → (h c : Bool) → pick b Early (pick h Wrong (pick c Exact Wrong)) ≡ Early → x.place < s.place
      go true t h c w = ltb-true x.place s.place t
      go false t true c w = nope (cc)
      go false t false true w = nope (cc)
      go false t false false w = nope (cc)

  exact_some : against s x g ≡ Exact → (s ≡ x) × (g ≡ false)
  unfolding against
  exact_some e = go (ltb x.place s.place) g refl (same_slot s x) refl e
    where
      go : (b h : Bool) → g ≡ h → (c : Bool) → same_slot s x ≡ c → pick b Early (pick h Wrong (pick c Exact Wrong)) ≡ Exact → (s ≡ x) × (g ≡ false)
      go true h t c r w = nope (cc)
      go false true t c r w = nope (cc)
      go false false t true r w = (same-slot s x r, t)
      go false false t false r w = nope (cc)

early-none : (i : Item) (l : Bool) → judged_by None i l ≡ Early → l ≡ false → i.gone ≡ true
early-none i l e f = go i.gone refl (rw f at e)
  where
    go : (h : Bool) → i.gone ≡ h → pick h Early Wrong ≡ Early → i.gone ≡ true
    go true t w = t
    go false t w = nope (cc)

exact-is : (o : Option Slot) (i : Item) (l : Bool) → judged_by o i l ≡ Exact → (o ≡ Some i.slot) × (i.gone ≡ false)
exact-is (Some s) i l e = let w = exact_some s i.slot i.gone e in (ap Some w.0, w.1)
exact-is None i l e = go i.gone l e
  where
    go : (h b : Bool) → pick h Early (pick b Early Wrong) ≡ Exact → (None ≡ Some i.slot) × (i.gone ≡ false)
    go true b w = nope (cc)
    go false true w = nope (cc)
    go false false w = nope (cc)

-- ---- one turn

module _ (log : List ℕ) (used : ℕ) (ss : List Slot) where
  pub data Turned (i : Item) (is : List Item) (n : ℕ) : Type 0 where
    turned-early : judged_in log ss i is ≡ Early → walked_in log used ss (next i) is ≡ Some n → Turned i is n
    turned-exact : (m : ℕ) → n ≡ suc m → judged_in log ss i is ≡ Exact → walked_in log used ss (next i) is ≡ Some m → Turned i is n

  turned : (at : ℕ) (i : Item) (is : List Item) (n : ℕ) → walked_in log used ss at (i ∷ is) ≡ Some n → Turned i is n
  unfolding walked_in
  turned at i is n e = go (judged_in log ss i is) refl (walked_in log used ss (next i) is) refl e
    where
      go : (j : Judged) → judged_in log ss i is ≡ j → (w : Option ℕ) → walked_in log used ss (next i) is ≡ w → counted j w ≡ Some n → Turned i is n
      go Wrong q w r t = nope (cc)
      go Early q w r t = turned-early q (r ∙ t)
      go Exact q None r t = nope (cc)
      go Exact q (Some m) r t = turned-exact m (cc) q r

  turned_rest : {i : Item} {is : List Item} {n : ℕ} → Turned i is n → (m : ℕ) × (walked_in log used ss (next i) is ≡ Some m)
  turned_rest {n = n} (turned-early q r) = (n, r)
  turned_rest (turned-exact m e q r) = (m, r)

  none_left : (at n : ℕ) → walked_in log used ss at [] ≡ Some n → (at ≡ used) × (n ≡ 0)
  unfolding walked_in
  none_left at n e = go (eqb at used) refl e
    where
      go : (b : Bool) → eqb at used ≡ b → pick b (Some 0) None ≡ Some n → (at ≡ used) × (n ≡ 0)
      go true t w = (eqb-true at used t, cc)
      go false t w = nope (cc)

  pub walk_clean : (at : ℕ) (is : List Item) (n : ℕ) → walked_in log used ss at is ≡ Some n → ends at is ≡ used
  unfolding ends
  walk_clean at [] n e = (none_left at n e).0
  walk_clean at (i ∷ is) n e = let w = turned_rest (turned at i is n e) in walk_clean (next i) is w.0 w.1

-- ---- entries behind

module _ (log k : List ℕ) where
  no_later_on : (i : Item) (is : List Item) (o : Option Slot) (c : Ordering) → compare_bytes (key_of log i.slot) k ≡ c → later_in log k (i ∷ is) ≡ false
      → (later_in log k is ≡ false → last_of log k is o ≡ o) → last_of log k (i ∷ is) o ≡ o
  unfolding later_in last_of
  no_later_on i is o Less e q f = rw e (f (rw e at q))
  no_later_on i is o Equal e q f = let w : true ≡ false = rw e at q in nope (cc)
  no_later_on i is o Greater e q f = rw e (f (rw e at q))

  pub no_later : (is : List Item) (o : Option Slot) → later_in log k is ≡ false → last_of log k is o ≡ o
  unfolding last_of
  no_later [] o q = refl
  no_later (i ∷ is) o q = no_later_on i is o (compare_bytes (key_of log i.slot) k) refl q (λ r. no_later is o r)

-- a list of entries has the slot's own
pub data Holds (s : Slot) : List Item → Type 0 where
  holds_here : {i : Item} {is : List Item} → i.slot ≡ s → i.gone ≡ false → Holds s (i ∷ is)
  holds_there : {i : Item} {is : List Item} → Holds s is → Holds s (i ∷ is)

module _ (log : List ℕ) (used : ℕ) (ss : List Slot) (q : Sorted log ss) where
  abbrev for : List ℕ → Option Slot
  for k = slot_for log k ss

  abbrev key_i : Item → List ℕ
  key_i i = key_of log i.slot

  abbrev walked : ℕ → List Item → Option ℕ
  walked at is = walked_in log used ss at is

  -- the search finds the slot of the key
  pub judged_for : (i : Item) (is : List Item) → judged_in log ss i is ≡ judged_by (slot_for log (key_of log i.slot) ss) i (later_in log (key_of log i.slot) is)
  unfolding judged_in
  judged_for i is =
      ap (λ (f : Result ℕ ℕ). judged_by (slot_found f ss) i (later_in log (key_i i) is)) (place-sorted log (key_i i) ss q)
      ∙ ap (λ (o : Option Slot). judged_by o i (later_in log (key_i i) is)) (found_for log (key_i i) ss)

  module _ (k : List ℕ) where
    -- an entry of the key
    at_key : (i : Item) (is : List Item) (j : Judged) (o : Option Slot) → key_i i ≡ k → for k ≡ o → judged_in log ss i is ≡ j → judged_by o i (later_in log k is) ≡ j
    at_key i is j o e f w =
        ap (λ (x : Option Slot). judged_by x i (later_in log k is)) (sym f)
        ∙ ap (λ (x : List ℕ). judged_by (for x) i (later_in log x is)) (sym e) ∙ sym (judged_for i is) ∙ w

    -- a key without a slot ends gone
    module _ (free : for k ≡ None) where
      gone-last : (i : Item) (is : List Item) (n : ℕ) → Turned log used ss i is n → key_i i ≡ k → later_in log k is ≡ false → leaves log k i ≡ None
      gone-last i is n (turned-early w r) e l =
          let g : i.gone ≡ true = early-none i (later_in log k is) (at_key i is Early None e free w) l in rw g
      gone-last i is n (turned-exact m z w r) e l = let x = exact-is None i (later_in log k is) (at_key i is Exact None e free w) in let y = x.0 in nope (cc)

      gone_on : (i : Item) (is : List Item) (n : ℕ) (o : Option Slot) (c : Ordering) (b : Bool) → Turned log used ss i is n → compare_bytes (key_i i) k ≡ c
          → later_in log k is ≡ b → later_in log k (i ∷ is) ≡ true → ((p : Option Slot) → later_in log k is ≡ true → last_of log k is p ≡ None) → last_of log k (i ∷ is) o ≡ None
      unfolding later_in last_of
      gone_on i is n o Less b t e l h ih = rw e (ih o (rw e at h))
      gone_on i is n o Greater b t e l h ih = rw e (ih o (rw e at h))
      gone_on i is n o Equal true t e l h ih = rw e (ih (leaves log k i) l)
      gone_on i is n o Equal false t e l h ih = rw e (no_later log k is (leaves log k i) l ∙ gone-last i is n t (compare_equal (key_i i) k e) l)

      gone-later : (at : ℕ) (is : List Item) (n : ℕ) (o : Option Slot) → walked at is ≡ Some n → later_in log k is ≡ true → last_of log k is o ≡ None
      unfolding later_in
      gone-later at [] n o w h = nope (cc)
      gone-later at (i ∷ is) n o w h =
          let t = turned log used ss at i is n w in
          let r = turned_rest log used ss t in
          gone_on i is n o (compare_bytes (key_i i) k) (later_in log k is) t refl refl h (λ p l. gone-later (next i) is r.0 p r.1 l)

      free-last : (at : ℕ) (is : List Item) (n : ℕ) → walked at is ≡ Some n → last_of log k is None ≡ None
      free-last at is n w = go (later_in log k is) refl
        where
          go : (b : Bool) → later_in log k is ≡ b → last_of log k is None ≡ None
          go true l = gone-later at is n None w l
          go false l = no_later log k is None l

    -- a key's entries end with its slot's
    module _ (s : Slot) (taken : for k ≡ Some s) where
      none_past_at : {at : ℕ} (i : Item) (is : List Item) (n : ℕ) → Turned log used ss i is n → Stands used at i → s.place ≤ at → key_i i ≡ k → ⊥
      none_past_at i is n (turned-early w r) st h e =
          let x = early_some s i.slot i.gone (at_key i is Early (Some s) e taken w) in omega (arith, st.here)
      none_past_at i is n (turned-exact m z w r) st h e =
          let x = (exact-is (Some s) i (later_in log k is) (at_key i is Exact (Some s) e taken w)).0 in
          let y : s ≡ i.slot = cc in
          omega (arith, st.here, ap (λ (v : Slot). v.place) y)

      none_past_on : {at : ℕ} (i : Item) (is : List Item) (n : ℕ) (c : Ordering) → compare_bytes (key_i i) k ≡ c → Turned log used ss i is n → Stands used at i → s.place ≤ at
          → later_in log k is ≡ false → later_in log k (i ∷ is) ≡ false
      unfolding later_in
      none_past_on i is n Less e t st h ih = rw e ih
      none_past_on i is n Greater e t st h ih = rw e ih
      none_past_on i is n Equal e t st h ih = absurd (none_past_at i is n t st h (compare_equal (key_i i) k e))

      none-past : {at : ℕ} {is : List Item} (n : ℕ) → Chain used at is → walked at is ≡ Some n → s.place ≤ at → later_in log k is ≡ false
      unfolding later_in
      none-past n chain_none w h = refl
      none-past {at} n (chain_more {i = i} {is = is} st c) w h =
          let t = turned log used ss at i is n w in
          let r = turned_rest log used ss t in
          none_past_on i is n (compare_bytes (key_i i) k) refl t st h (none-past r.0 c r.1 (omega (arith, st.far)))

      held_last : {at : ℕ} {is : List Item} (n : ℕ) → Chain used at is → walked at is ≡ Some n → key_of log s ≡ k → Holds s is → (o : Option Slot) → last_of log k is o ≡ Some s
      unfolding last_of
      held_last n (chain_none {at = at}) w e x10 o = elim x10 [ ]
      held_last {at} n (chain_more {i = i} {is = is} st c) w e (holds_there h) o =
          let r = turned_rest log used ss (turned log used ss at i is n w) in
          held_last r.0 c r.1 e h (by_order (compare_bytes (key_i i) k) o (leaves log k i) o)
      held_last {at} n (chain_more {i = i} {is = is} st c) w e (holds_here f g) o =
          let r = turned_rest log used ss (turned log used ss at i is n w) in
          let p = ap (λ (v : Slot). v.place) f in
          let z : compare_bytes (key_i i) k ≡ Equal = rw (f, e) (compare_refl k) in
          rw (z, g, f) (no_later log k is (Some s) (none-past r.0 c r.1 (omega (arith, st.far, st.here))))

  -- ---- as many as there are slots

  -- the slots that lie past an offset are among those of a list
  abbrev pub Covers : List Slot → ℕ → Type 0
  Covers u at = (x : Slot) → at < x.place → slot_for log (key_of log x) ss ≡ Some x → Mem x u

  -- one entry on, its own slot taken out
  pub covers_without : {u : List Slot} {at : ℕ} (i : Item) → Stands used at i → Covers u at → (p : Mem i.slot u) → Covers (without p) (next i)
  covers_without {u} {at} i st cov p x h f = go (split_in p (cov x (omega (arith, st.far)) f))
    where
      go : (x ≡ i.slot) ⊎ Mem x (without p) → Mem x (without p)
      go (inl e) = absurd (omega (arith, st.here, st.far, ap (λ (v : Slot). v.place) e))
      go (inr m) = m

  all_held : {at : ℕ} {is : List Item} (n : ℕ) (u : List Slot) → Chain used at is → walked at is ≡ Some n → length u ≤ n → Covers u at → (s : Slot) → Mem s u → Holds s is
  all_held {at} n u chain_none w l cov s m = absurd (omega (arith, (none_left log used ss at n w).1, without-length m))
  all_held {at} n u (chain_more {i = i} {is = is} st c) w l cov s m = go (turned log used ss at i is n w) (λ a b d e f g. all_held a b c d e f s g)
    where
      go : Turned log used ss i is n → ((a : ℕ) (b : List Slot) → walked (next i) is ≡ Some a → length b ≤ a → Covers b (next i) → Mem s b → Holds s is) → Holds s (i ∷ is)
      go (turned-early j r) ih = holds_there (ih n u r l (λ x h f. cov x (omega (arith, st.far)) f) m)
      go (turned-exact a z j r) ih =
          let x = exact-is (for (key_i i)) i (later_in log (key_i i) is) (sym (judged_for i is) ∙ j) in
          let p : Mem i.slot u = cov i.slot (omega (arith, st.here)) x.0 in
          hit (split_in p m) (λ d. ih a (without p) r (omega (arith, without-length p)) (covers_without i st cov p) d) x.1
        where
          hit : {v : List Slot} → (s ≡ i.slot) ⊎ Mem s v → (Mem s v → Holds s is) → i.gone ≡ false → Holds s (i ∷ is)
          hit (inl e) f g = holds_here (sym e) g
          hit (inr d) f g = holds_there (f d)

  pub walk_slots : walked_in log used ss 0 (items log used 0) ≡ Some (length ss) → ss ≡ recovered log used
  walk_slots w = sorted_ext log q (recovered-sorted log used) there back
    where
      last : (k : List ℕ) (s : Slot) → for k ≡ Some s → last_of log k (items log used 0) None ≡ Some s
      last k s f =
          let m = for_mem log k s ss f in
          held_last k s f (length ss) (items_chain log used 0) w m.1 (all_held (length ss) ss (items_chain log used 0) w (omega arith) (λ x h g. (for_mem log (key_of log x) x ss g).0) s m.0) None

      there : (s : Slot) → Mem s ss → Mem s (recovered log used)
      there s m = (for_mem log (key_of log s) s (recovered log used) (recovered-last log (key_of log s) used ∙ last (key_of log s) s (mem_for log q m))).0

      back : (s : Slot) → Mem s (recovered log used) → Mem s ss
      back s m = go (for (key_of log s)) refl
        where
          e : last_of log (key_of log s) (items log used 0) None ≡ Some s
          e = sym (recovered-last log (key_of log s) used) ∙ mem_for log (recovered-sorted log used) m

          go : (o : Option Slot) → for (key_of log s) ≡ o → Mem s ss
          go None f = let z = free-last (key_of log s) f 0 (items log used 0) (length ss) w in nope (cc (e))
          go (Some x) f =
              let z = last (key_of log s) x f in
              let y : x ≡ s = cc (e) in
              subst (λ (v : Slot). Mem v ss) y (for_mem log (key_of log s) x ss f).0
