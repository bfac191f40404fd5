-- The walk on recovery's own slots: no entry is wrong, and each slot's entry is met. Assumes nothing.
use Prim.Native.Nat.{ℕ, ◌≤◌, ◌<◌}
use mathlib.Core.Path.{◌≡◌, refl, sym, ap, ◌∙◌, subst}
use mathlib.Core.Logic.{◌⊎◌, inl, inr}
use mathlib.Core.Bool.{Bool, true, false}
use mathlib.Core.List.{List, [], ◌∷◌}
use native.Mathlib.Omega.{arith}
use lib.ListN.{length}
use borrow.Author.Tests.{lt-ltb, le-ltb, eq-eqb}
use Rattle.std.specs.Prelude.{Some, Option, None}
use Rattle.std.specs.declared.cmp.Ordering.{Ordering}
use Rattle.std.specs.declared.cmp.Ordering.TheVariants.{Less, Equal, Greater}
use Rattle.keycode.specs.Tests.{pick}
use Rattle.keycode.specs.Order.{compare_bytes, by_order}
use Rattle.keycode.proofs.Basics.{nope}
use Rattle.keycode.proofs.OrderLaws.{compare_refl}
use Rattle.bitcask.specs.declared.keydir.slots.Slot.{Slot}
use Rattle.bitcask.specs.keydir.Slots.{key_of}
use Rattle.bitcask.specs.keydir.Place.{Sorted}
use Rattle.bitcask.specs.recovery.Recover.{Item, next, items, ends, recovered}
use Rattle.bitcask.proofs.recovery.ItemLaws.{Stands, Chain, chain_none, chain_more, items_chain}
use Rattle.bitcask.proofs.recovery.FoldLaws.{recovered-inside, recovered-sorted}
use Rattle.bitcask.specs.declared.check.Judged.{Judged}
use Rattle.bitcask.specs.declared.check.Judged.TheVariants.{Wrong, Early, Exact}
use Rattle.bitcask.specs.check.Told.{later_in, against, judged_by, judged_in, counted, walked_in}
use Rattle.bitcask.proofs.check.LastLaws.{slot_for, leaves, last_of, recovered-last}
use Rattle.bitcask.proofs.check.MemberLaws.{Mem, mem_here, without, without-length, in_whole, all_mem, sorted-without, apart, for_mem, mem_for}
use Rattle.bitcask.proofs.check.WalkLaws.{no_later, judged_for, Covers, covers_without}

-- ---- one entry

judged-early : (s : Slot) (i : Item) (l : Bool) → i.slot.place < s.place → judged_by (Some s) i l ≡ Early
unfolding against
judged-early s i l h = rw (lt-ltb i.slot.place s.place h)

judged-exact : (s : Slot) (i : Item) (l : Bool) → i.slot ≡ s → i.gone ≡ false → judged_by (Some s) i l ≡ Exact
unfolding against
judged-exact s i l e g =
    rw (e, g, le-ltb s.place s.place (omega arith), eq-eqb s.place s.place refl, eq-eqb s.klen s.klen refl, eq-eqb s.vlen s.vlen refl)

-- what an entry leaves is its own slot
leaves_own : (log k : List ℕ) (i : Item) (x : Slot) → leaves log k i ≡ Some x → (i.slot ≡ x) × (i.gone ≡ false)
leaves_own log k i x e = go i.gone refl e
  where
    go : (b : Bool) → i.gone ≡ b → pick b None (Some i.slot) ≡ Some x → (i.slot ≡ x) × (i.gone ≡ false)
    go true t w = nope (cc)
    go false t w = (cc, t)

-- the slot that entries leave a key is the one from before, or lies among them
module _ (log : List ℕ) (used : ℕ) (k : List ℕ) where
  turn_source : {at : ℕ} (i : Item) (o : Option Slot) (x : Slot) (c : Ordering) → Stands used at i
      → by_order c o (leaves log k i) o ≡ Some x → (o ≡ Some x) ⊎ (at < x.place)
  turn_source i o x Less st e = inl e
  turn_source i o x Greater st e = inl e
  turn_source i o x Equal st e = inr (omega (arith, st.here, ap (λ (v : Slot). v.place) (leaves_own log k i x e).0))

  source : {at : ℕ} {is : List Item} → Chain used at is → (o : Option Slot) (x : Slot) → last_of log k is o ≡ Some x → (o ≡ Some x) ⊎ (at < x.place)
  unfolding last_of
  source chain_none o x e = inl e
  source {at} (chain_more {i = i} st c) o x e = go (source c (by_order (compare_bytes (key_of log i.slot) k) o (leaves log k i) o) x e)
    where
      go : (by_order (compare_bytes (key_of log i.slot) k) o (leaves log k i) o ≡ Some x) ⊎ (next i < x.place) → (o ≡ Some x) ⊎ (at < x.place)
      go (inl w) = turn_source i o x (compare_bytes (key_of log i.slot) k) st w
      go (inr h) = inr (omega (arith, st.far))

-- ---- the walk

module _ (log : List ℕ) (used : ℕ) (ss : List Slot) (q : Sorted log ss) where
  -- the slots are what the entries from an offset on make of those before, and u are the slots of the entries to come
  record Facing (at : ℕ) (is : List Item) (before : List ℕ → Option Slot) (u : List Slot) : Type 0 where
    says : (k : List ℕ) → slot_for log k ss ≡ last_of log k is (before k)
    old : (k : List ℕ) (x : Slot) → before k ≡ Some x → x.place ≤ at
    order : Sorted log u
    covers : Covers log used ss q u at
    real : (x : Slot) → Mem x u → slot_for log (key_of log x) ss ≡ Some x
    ahead : (x : Slot) → Mem x u → at < x.place

  abbrev onward : (List ℕ → Option Slot) → Item → List ℕ → Option Slot
  onward before i k = by_order (compare_bytes (key_of log i.slot) k) (before k) (leaves log k i) (before k)

  module _ {at : ℕ} (i : Item) (is : List Item) (before : List ℕ → Option Slot) (u : List Slot) (st : Stands used at i) (c : Chain used (next i) is)
      (w : Facing at (i ∷ is) before u) where
    abbrev key : List ℕ
    key = key_of log i.slot

    old_on : (k : List ℕ) (x : Slot) (o : Ordering) → by_order o (before k) (leaves log k i) (before k) ≡ Some x → x.place ≤ next i
    old_on k x Less e = let h = w.old k x e in omega (arith, st.far)
    old_on k x Greater e = let h = w.old k x e in omega (arith, st.far)
    old_on k x Equal e = omega (arith, st.here, st.far, ap (λ (v : Slot). v.place) (leaves_own log k i x e).0)

    -- a slot that lies past this entry's offset and is not its own lies past the entry
    past_on : (x : Slot) (o : Ordering) → at < x.place → (i.slot ≡ x → ⊥) → by_order o (before (key_of log x)) (leaves log (key_of log x) i) (before (key_of log x)) ≡ Some x → ⊥
    past_on x Less h n e = let y = w.old (key_of log x) x e in omega arith
    past_on x Greater h n e = let y = w.old (key_of log x) x e in omega arith
    past_on x Equal h n e = n (leaves_own log (key_of log x) i x e).0

    past : (x : Slot) → slot_for log (key_of log x) ss ≡ Some x → at < x.place → (i.slot ≡ x → ⊥) → next i < x.place
    unfolding last_of
    past x f h n = go (source log used (key_of log x) c (onward before i (key_of log x)) x (sym (w.says (key_of log x)) ∙ f))
      where
        go : (onward before i (key_of log x) ≡ Some x) ⊎ (next i < x.place) → next i < x.place
        go (inl e) = absurd (past_on x (compare_bytes (key_of log i.slot) (key_of log x)) h n e)
        go (inr m) = m

    facing_early : (slot_for log (key_of log i.slot) ss ≡ Some i.slot → ⊥) → Facing (next i) is (onward before i) u
    unfolding last_of
    facing_early n = record {
      says = w.says;
      old = λ k x e. old_on k x (compare_bytes key k) e;
      order = w.order;
      covers = λ x h f. w.covers x (omega (arith, st.far)) f;
      real = w.real;
      ahead = λ x m. past x (w.real x m) (w.ahead x m) (λ e. n (subst (λ (v : Slot). slot_for log (key_of log v) ss ≡ Some v) (sym e) (w.real x m)));
    }

    facing_exact : (p : Mem i.slot u) → Facing (next i) is (onward before i) (without p)
    unfolding last_of
    facing_exact p = record {
      says = w.says;
      old = λ k x e. old_on k x (compare_bytes key k) e;
      order = sorted-without log w.order p;
      covers = covers_without log used ss q i st w.covers p;
      real = λ x m. w.real x (in_whole p m);
      ahead = λ x m. past x (w.real x (in_whole p m)) (w.ahead x (in_whole p m)) (λ e. apart log w.order p m e);
    }

    own : slot_for log (key_of log i.slot) ss ≡ last_of log (key_of log i.slot) is (leaves log (key_of log i.slot) i)
    unfolding last_of
    own = w.says key ∙ rw (compare_refl key)

    -- the entry of a key without a slot
    free-early : slot_for log (key_of log i.slot) ss ≡ None → judged_by None i (later_in log (key_of log i.slot) is) ≡ Early
    free-early f = go i.gone refl (later_in log key is) refl
      where
        go : (g : Bool) → i.gone ≡ g → (l : Bool) → later_in log key is ≡ l → pick g Early (pick l Early Wrong) ≡ Early
        go true t l r = refl
        go false t true r = refl
        go false t false r = let z : leaves log key i ≡ Some i.slot = rw t in let y = no_later log key is (leaves log key i) r in nope (cc (own))

    turn : (o : Option Slot) → slot_for log (key_of log i.slot) ss ≡ o
        → ((before' : List ℕ → Option Slot) (u' : List Slot) → Facing (next i) is before' u' → walked_in log used ss (next i) is ≡ Some (length u'))
        → walked_in log used ss at (i ∷ is) ≡ Some (length u)
    unfolding walked_in
    turn None f ih =
        let j : judged_in log ss i is ≡ Early = judged_for log used ss q i is ∙ ap (λ (o : Option Slot). judged_by o i (later_in log key is)) f ∙ free-early f in
        rw j (ih (onward before i) u (facing_early (λ e. nope (cc))))
    turn (Some s) f ih = go (source log used key c (leaves log key i) s (sym own ∙ f))
      where
        judged : (j : Judged) → judged_by (Some s) i (later_in log key is) ≡ j → judged_in log ss i is ≡ j
        judged j e = judged_for log used ss q i is ∙ ap (λ (o : Option Slot). judged_by o i (later_in log key is)) f ∙ e

        go : (leaves log key i ≡ Some s) ⊎ (next i < s.place) → counted (judged_in log ss i is) (walked_in log used ss (next i) is) ≡ Some (length u)
        go (inr h) =
            rw (judged Early (judged-early s i (later_in log key is) (omega (arith, st.here, st.far))))
            (ih (onward before i) u (facing_early (λ e. let y : s ≡ i.slot = cc in omega (arith, st.here, st.far, ap (λ (v : Slot). v.place) y))))
        go (inl e) =
            let l = leaves_own log key i s e in
            let p : Mem i.slot u = w.covers i.slot (omega (arith, st.here)) (f ∙ ap Some (sym l.0)) in
            rw (judged Exact (judged-exact s i (later_in log key is) l.0 l.1), ih (onward before i) (without p) (facing_exact p), without-length p)

  none_ahead : {at : ℕ} (before : List ℕ → Option Slot) (u : List Slot) → Facing at [] before u → length u ≡ 0
  unfolding last_of
  none_ahead before [] w = refl
  none_ahead before (x ∷ u) w =
      let h = w.old (key_of log x) x (sym (w.says (key_of log x)) ∙ w.real x mem_here) in
      let a = w.ahead x mem_here in absurd (omega arith)

  all_met : {at : ℕ} {is : List Item} → Chain used at is → ends at is ≡ used → (before : List ℕ → Option Slot) (u : List Slot) → Facing at is before u
      → walked_in log used ss at is ≡ Some (length u)
  unfolding walked_in ends
  all_met {at} chain_none e before u w = rw (eq-eqb at used e, none_ahead before u w)
  all_met (chain_more {i = i} {is = is} st c) e before u w = turn i is before u st c w (slot_for log (key_of log i.slot) ss) refl (λ b v f. all_met c e b v f)

pub recovered_walk : (log : List ℕ) (used : ℕ) → ends 0 (items log used 0) ≡ used
    → walked_in log used (recovered log used) 0 (items log used 0) ≡ Some (length (recovered log used))
recovered_walk log used e =
    all_met log used (recovered log used) (recovered-sorted log used) (items_chain log used 0) e (λ k. None) (recovered log used)
    (record {
      says = λ k. recovered-last log k used;
      old = λ k x f. nope (cc);
      order = recovered-sorted log used;
      covers = λ x h f. (for_mem log (key_of log x) x (recovered log used) f).0;
      real = λ x m. mem_for log (recovered-sorted log used) m;
      ahead = λ x m. (all_mem (recovered-inside log used) m).taken;
    })
