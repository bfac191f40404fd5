-- Laws of a table and the changes that wait: what each pass does to the slots before and behind a key, and that the two passes give the
-- slots that table and changes stand for. Assumes nothing.
use Prim.Native.Nat.{ℕ, zero, suc, ◌+◌, ◌≤◌}
use mathlib.Core.Path.{◌≡◌, refl, sym, ap, ◌∙◌, subst}
use mathlib.Core.Bool.{Bool, true, false}
use mathlib.Core.List.{List, [], ◌∷◌, ◌++◌}
use native.Mathlib.Omega.{arith}
use lib.ListN.{length, take, drop}
use Rattle.std.specs.Prelude.{Result, ℕ, Ok, Err, Option, None, Some}
use Rattle.std.specs.declared.cmp.Ordering.{Ordering}
use Rattle.std.specs.declared.cmp.Ordering.TheVariants.{Less, Equal, Greater}
use Rattle.keycode.specs.Tests.{pick}
use Rattle.keycode.specs.Order.{compare_bytes}
use Rattle.keycode.proofs.Basics.{nope}
use Rattle.keycode.proofs.OrderLaws.{compare_refl, compare_equal, compare_trans}
use Rattle.bitcask.specs.declared.keydir.slots.Slot.{Slot}
use Rattle.bitcask.specs.keydir.Slots.{insert_at, key_of}
use Rattle.bitcask.specs.keydir.Place.{place_in, index_of, put_at, cut_at, All, all_none, all_more, Sorted, sorted_none, sorted_more}
use Rattle.bitcask.proofs.keydir.SlotLaws.{insert_length}
use Rattle.bitcask.proofs.keydir.HalveLaws.{among_index}
use Rattle.bitcask.proofs.keydir.PlaceLaws.{place_in_among}
use Rattle.bitcask.proofs.keydir.SortLaws.{all_take, sorted-put, sorted_cut}
use Rattle.bitcask.specs.merging.Merge.{look, is_gone, overlay, Merges, cuts, lay, lays, merged, new_of, news}
use Rattle.bitcask.proofs.merging.LookLaws.{greater_less, less_greater, cut_further, Over, over-trans, over-look, slot_by, look-place, put_own, put_other, cut_own, cut_other, look_decides}

-- ---- parts of slots whose keys rise

module _ (log : List ℕ) where
  pub sorted-take : (i : ℕ) {ss : List Slot} → Sorted log ss → Sorted log (take i ss)
  sorted-take zero sorted_none = sorted_none
  sorted-take (suc i) sorted_none = sorted_none
  sorted-take zero (sorted_more a r) = sorted_none
  sorted-take (suc i) (sorted_more a r) = sorted_more (all_take a i) (sorted-take i r)

  pub sorted-drop : (i : ℕ) {ss : List Slot} → Sorted log ss → Sorted log (drop i ss)
  sorted-drop zero sorted_none = sorted_none
  sorted-drop (suc i) sorted_none = sorted_none
  sorted-drop zero (sorted_more a r) = sorted_more a r
  sorted-drop (suc i) (sorted_more a r) = sorted-drop i r

  -- every key is less
  abbrev pub Under : List ℕ → List Slot → Type 0
  Under k ss = All (λ (x : Slot). compare_bytes (key_of log x) k ≡ Less) ss

  pub under_trans : (a b : List ℕ) {ss : List Slot} → compare_bytes a b ≡ Less → Under a ss → Under b ss
  under_trans a b h all_none = all_none
  under_trans a b h (all_more {x = q} e r) = all_more (compare_trans (key_of log q) a b e h) (under_trans a b h r)

  last_of : {P : Slot → Type 0} (ps : List Slot) (x : Slot) → All P (ps ++ (x ∷ [])) → P x
  last_of [] x (all_more p r) = p
  last_of (y ∷ ps) x (all_more p r) = last_of ps x r

  pub sorted-last : (ps : List Slot) (x : Slot) → Sorted log (ps ++ (x ∷ [])) → Under (key_of log x) ps
  sorted-last [] x s = all_none
  sorted-last (y ∷ ps) x (sorted_more a s) = all_more (last_of ps x a) (sorted-last ps x s)

  -- ---- the slots before and behind a place

  under_on : (k : List ℕ) (x : Slot) (ss : List Slot) (o : Ordering) → compare_bytes (key_of log x) k ≡ o → Under k (take (index_of (place_in log k ss)) ss) → (f : Result ℕ ℕ) → place_in log k ss ≡ f
      → Under k (take (index_of (place_in log k (x ∷ ss))) (x ∷ ss))
  unfolding place_in
  under_on k x ss Less e ih (Ok i) p = rw (e, p) (all_more e (rw p at ih))
  under_on k x ss Less e ih (Err i) p = rw (e, p) (all_more e (rw p at ih))
  under_on k x ss Equal e ih f p = rw e all_none
  under_on k x ss Greater e ih f p = rw e all_none

  pub place_under : (k : List ℕ) (ss : List Slot) → Under k (take (index_of (place_in log k ss)) ss)
  unfolding place_in
  place_under k [] = all_none
  place_under k (x ∷ ss) = under_on k x ss (compare_bytes (key_of log x) k) refl (place_under k ss) (place_in log k ss) refl

  module _ (y k : List ℕ) (h : compare_bytes y k ≡ Less) where
    over_on : (x : Slot) (ss : List Slot) (o : Ordering) → compare_bytes (key_of log x) k ≡ o → Over log (key_of log x) ss → Over log y (drop (index_of (place_in log k ss)) ss)
        → (f : Result ℕ ℕ) → place_in log k ss ≡ f → Over log y (drop (index_of (place_in log k (x ∷ ss))) (x ∷ ss))
    unfolding place_in
    over_on x ss Less e a ih (Ok i) p = rw (e, p) (rw p at ih)
    over_on x ss Less e a ih (Err i) p = rw (e, p) (rw p at ih)
    over_on x ss Equal e a ih f p =
        let q : compare_bytes y (key_of log x) ≡ Less = subst (λ (z : List ℕ). compare_bytes y z ≡ Less) (sym (compare_equal (key_of log x) k e)) h in
        rw e (all_more q (over-trans log y (key_of log x) q a))
    over_on x ss Greater e a ih f p =
        let q : compare_bytes y (key_of log x) ≡ Less = compare_trans y k (key_of log x) h (greater_less (key_of log x) k e) in
        rw e (all_more q (over-trans log y (key_of log x) q a))

    pub place-over : (ss : List Slot) → Sorted log ss → Over log y (drop (index_of (place_in log k ss)) ss)
    unfolding place_in
    place-over [] s = all_none
    place-over (x ∷ ss) (sorted_more a s) = over_on x ss (compare_bytes (key_of log x) k) refl a (place-over ss s) (place_in log k ss) refl

  -- ---- keys taken out behind lesser ones

  pub cut_behind : (k : List ℕ) (front back : List Slot) → Under k front → cut_at (place_in log k (front ++ back)) (front ++ back) ≡ front ++ cut_at (place_in log k back) back
  unfolding place_in
  cut_behind k [] back a = refl
  cut_behind k (x ∷ front) back (all_more e a) = rw (e, cut_further x (front ++ back) (place_in log k (front ++ back))) (ap (λ (z : List Slot). x ∷ z) (cut_behind k front back a))

  pub cuts-behind : (ps front back : List Slot) → All (λ (p : Slot). Under (key_of log p) front) ps → cuts log ps (front ++ back) ≡ front ++ cuts log ps back
  unfolding cuts
  cuts-behind [] front back a = refl
  cuts-behind (p ∷ ps) front back (all_more u a) =
      ap (cuts log ps) (cut_behind (key_of log p) front back u) ∙ cuts-behind ps front (cut_at (place_in log (key_of log p) back) back) a

  -- ---- slots put in before greater ones

  place-first : (k : List ℕ) (back : List Slot) → Over log k back → place_in log k back ≡ Err 0
  unfolding place_in
  place-first k [] a = refl
  place-first k (x ∷ back) (all_more e a) = rw (less_greater k (key_of log x) e)

  place_on : (k : List ℕ) (x : Slot) (o : Ordering) → compare_bytes (key_of log x) k ≡ o → (front back : List Slot) → place_in log k (front ++ back) ≡ place_in log k front
      → place_in log k (x ∷ front ++ back) ≡ place_in log k (x ∷ front)
  unfolding place_in
  place_on k x Less e front back ih = rw (e, ih)
  place_on k x Equal e front back ih = rw e
  place_on k x Greater e front back ih = rw e

  place-before : (k : List ℕ) (front back : List Slot) → Over log k back → place_in log k (front ++ back) ≡ place_in log k front
  unfolding place_in
  place-before k [] back a = place-first k back a
  place-before k (x ∷ front) back a = place_on k x (compare_bytes (key_of log x) k) refl front back (place-before k front back a)

  insert_before : (i : ℕ) (p : Slot) (front back : List Slot) → i ≤ length front → insert_at i p (front ++ back) ≡ insert_at i p front ++ back
  unfolding insert_at
  insert_before zero p front back h = refl
  insert_before (suc i) p [] back h = absurd (omega arith)
  insert_before (suc i) p (x ∷ front) back h = ap (λ (z : List Slot). x ∷ z) (insert_before i p front back (omega arith))

  pub lay-before : (p : Slot) (front back : List Slot) → Over log (key_of log p) back → lay log p (front ++ back) ≡ lay log p front ++ back
  unfolding lay
  lay-before p front back a = go (is_gone p) refl
    where
      go : (b : Bool) → is_gone p ≡ b
          → pick b (front ++ back) (insert_at (index_of (place_in log (key_of log p) (front ++ back))) p (front ++ back))
          ≡ pick b front (insert_at (index_of (place_in log (key_of log p) front)) p front) ++ back
      go true e = refl
      go false e =
          rw (place-before (key_of log p) front back a)
          (insert_before (index_of (place_in log (key_of log p) front)) p front back (among_index (length front) (place_in log (key_of log p) front) (place_in_among log (key_of log p) front)))

  pub lays-before : (ps front back : List Slot) → All (λ (p : Slot). Over log (key_of log p) back) ps → lays log ps (front ++ back) ≡ lays log ps front ++ back
  unfolding lays
  lays-before [] front back a = refl
  lays-before (p ∷ ps) front back (all_more u a) = ap (lay log p) (lays-before ps front back a) ∙ lay-before p (lays log ps front) back u

  pub lays-last : (ps : List Slot) (x : Slot) (ss : List Slot) → lays log (ps ++ (x ∷ [])) ss ≡ lays log ps (lay log x ss)
  unfolding lays
  lays-last [] x ss = refl
  lays-last (p ∷ ps) x ss = ap (lay log p) (lays-last ps x ss)

  -- ---- how many there are then

  lay-length : (p : Slot) (ss : List Slot) → length (lay log p ss) ≡ length ss + new_of p
  unfolding lay new_of
  lay-length p ss = go (is_gone p)
    where
      i : ℕ
      i = index_of (place_in log (key_of log p) ss)

      go : (b : Bool) → length (pick b ss (insert_at i p ss)) ≡ length ss + pick b 0 1
      go true = omega arith
      go false = insert_length i p ss (among_index (length ss) (place_in log (key_of log p) ss) (place_in_among log (key_of log p) ss))

  pub lays-length : (ps ss : List Slot) → length (lays log ps ss) ≡ length ss + news ps
  unfolding lays news
  lays-length [] ss = omega arith
  lays-length (p ∷ ps) ss = let e = lay-length p (lays log ps ss) in let f = lays-length ps ss in omega arith

  -- ---- the slot of a key after the keys that wait were taken out

  pub cuts-sorted : (ps ss : List Slot) → Sorted log ss → Sorted log (cuts log ps ss)
  unfolding cuts
  cuts-sorted [] ss s = s
  cuts-sorted (p ∷ ps) ss s = cuts-sorted ps (cut_at (place_in log (key_of log p) ss) ss) (sorted_cut log ss (place_in log (key_of log p) ss) s)

  -- a key that is not there is not put there
  cut_none : (k j : List ℕ) (ss : List Slot) → Sorted log ss → look log k ss ≡ None → (o : Ordering) → compare_bytes j k ≡ o → look log k (cut_at (place_in log j ss) ss) ≡ None
  cut_none k j ss s h Less e = cut_other log k j (λ q. nope (cc (ap (λ (z : List ℕ). compare_bytes z k) q, compare_refl k))) ss s ∙ h
  cut_none k j ss s h Equal e = subst (λ (z : List ℕ). look log k (cut_at (place_in log z ss) ss) ≡ None) (sym (compare_equal j k e)) (cut_own log k ss s)
  cut_none k j ss s h Greater e = cut_other log k j (λ q. nope (cc (ap (λ (z : List ℕ). compare_bytes z k) q, compare_refl k))) ss s ∙ h

  cuts-none : (k : List ℕ) (ps ss : List Slot) → Sorted log ss → look log k ss ≡ None → look log k (cuts log ps ss) ≡ None
  unfolding cuts
  cuts-none k [] ss s h = h
  cuts-none k (p ∷ ps) ss s h =
      cuts-none k ps (cut_at (place_in log (key_of log p) ss) ss) (sorted_cut log ss (place_in log (key_of log p) ss) s)
      (cut_none k (key_of log p) ss s h (compare_bytes (key_of log p) k) refl)

  abbrev pub Absent : List Slot → List Slot → Type 0
  Absent ps ss = All (λ (p : Slot). look log (key_of log p) ss ≡ None) ps

  pub cuts_absent : (ps ss : List Slot) → Sorted log ss → Absent ps (cuts log ps ss)
  unfolding cuts
  cuts_absent [] ss s = all_none
  cuts_absent (p ∷ ps) ss s =
      let ss' = cut_at (place_in log (key_of log p) ss) ss in
      let s' : Sorted log ss' = sorted_cut log ss (place_in log (key_of log p) ss) s in
      all_more (cuts-none (key_of log p) ps ss' s' (cut_own log (key_of log p) ss s)) (cuts_absent ps ss' s')

  abbrev without : Option Slot → Option Slot → Option Slot
  without None o = o
  without (Some s) o = None

  cuts_look_on : (k : List ℕ) (p : Slot) (ps ss : List Slot) (o : Ordering) → compare_bytes (key_of log p) k ≡ o → Over log (key_of log p) ps → Sorted log ss
      → look log k (cuts log ps (cut_at (place_in log (key_of log p) ss) ss)) ≡ without (look log k ps) (look log k (cut_at (place_in log (key_of log p) ss) ss))
      → look log k (cuts log ps (cut_at (place_in log (key_of log p) ss) ss)) ≡ without (look log k (p ∷ ps)) (look log k ss)
  unfolding look
  cuts_look_on k p ps ss Less e a s ih =
      rw e (ih ∙ ap (without (look log k ps)) (cut_other log k (key_of log p) (λ q. nope (cc (ap (λ (z : List ℕ). compare_bytes z k) q, compare_refl k))) ss s))
  cuts_look_on k p ps ss Equal e a s ih =
      let q = compare_equal (key_of log p) k e in
      let h : look log k (cut_at (place_in log (key_of log p) ss) ss) ≡ None = subst (λ (z : List ℕ). look log z (cut_at (place_in log (key_of log p) ss) ss) ≡ None) q
      (cut_own log (key_of log p) ss s) in
      rw e (cuts-none k ps (cut_at (place_in log (key_of log p) ss) ss) (sorted_cut log ss (place_in log (key_of log p) ss) s) h)
  cuts_look_on k p ps ss Greater e a s ih =
      let z : look log k ps ≡ None = over-look log k (over-trans log k (key_of log p) (greater_less (key_of log p) k e) a) in
      let i = rw z at ih in
      rw e (i ∙ cut_other log k (key_of log p) (λ q. nope (cc (ap (λ (y : List ℕ). compare_bytes y k) q, compare_refl k))) ss s)

  cuts-look : (k : List ℕ) (ps ss : List Slot) → Sorted log ps → Sorted log ss → look log k (cuts log ps ss) ≡ without (look log k ps) (look log k ss)
  unfolding cuts look
  cuts-look k [] ss q s = refl
  cuts-look k (p ∷ ps) ss (sorted_more a q) s =
      cuts_look_on k p ps ss (compare_bytes (key_of log p) k) refl a s
      (cuts-look k ps (cut_at (place_in log (key_of log p) ss) ss) q (sorted_cut log ss (place_in log (key_of log p) ss) s))

  -- ---- and after the new ones were put in

  -- where a key is not there, putting its slot in is laying it
  insert_is_put : (p : Slot) (ss : List Slot) (f : Result ℕ ℕ) → place_in log (key_of log p) ss ≡ f → look log (key_of log p) ss ≡ None → insert_at (index_of f) p ss ≡ put_at p f ss
  insert_is_put p ss (Ok i) e h = nope (cc (look-place log (key_of log p) ss, ap (slot_by log ss) e))
  insert_is_put p ss (Err i) e h = refl

  lay_new : (p : Slot) (ss : List Slot) → is_gone p ≡ false → look log (key_of log p) ss ≡ None → lay log p ss ≡ put_at p (place_in log (key_of log p) ss) ss
  unfolding lay
  lay_new p ss e h = rw e (insert_is_put p ss (place_in log (key_of log p) ss) refl h)

  lay-gone : (p : Slot) (ss : List Slot) → is_gone p ≡ true → lay log p ss ≡ ss
  unfolding lay
  lay-gone p ss e = rw e

  lays_look_on : (k : List ℕ) (p : Slot) (ps ss : List Slot) (o : Ordering) → compare_bytes (key_of log p) k ≡ o → (b : Bool) → is_gone p ≡ b → Over log (key_of log p) ps
      → look log (key_of log p) ss ≡ None → look log (key_of log p) (lays log ps ss) ≡ None
      → look log k (lays log ps ss) ≡ overlay (look log k ps) (look log k ss) → look log k (lay log p (lays log ps ss)) ≡ overlay (look log k (p ∷ ps)) (look log k ss)
  unfolding look
  lays_look_on k p ps ss Less e true g a h m ih = rw (e, lay-gone p (lays log ps ss) g) ih
  lays_look_on k p ps ss Less e false g a h m ih =
      rw (e, lay_new p (lays log ps ss) g m) (put_other log k p (λ q. nope (cc (ap (λ (z : List ℕ). compare_bytes z k) q, compare_refl k))) (lays log ps ss) ∙ ih)
  lays_look_on k p ps ss Equal e true g a h m ih =
      rw (e, lay-gone p (lays log ps ss) g, g) (subst (λ (z : List ℕ). look log z (lays log ps ss) ≡ None) (compare_equal (key_of log p) k e) m)
  lays_look_on k p ps ss Equal e false g a h m ih =
      rw (e, lay_new p (lays log ps ss) g m, g) (subst (λ (z : List ℕ). look log z (put_at p (place_in log (key_of log p) (lays log ps ss)) (lays log ps ss)) ≡ Some p)
      (compare_equal (key_of log p) k e) (put_own log p (lays log ps ss)))
  lays_look_on k p ps ss Greater e true g a h m ih =
      let z : look log k ps ≡ None = over-look log k (over-trans log k (key_of log p) (greater_less (key_of log p) k e) a) in
      let i = rw z at ih in
      rw (e, lay-gone p (lays log ps ss) g) i
  lays_look_on k p ps ss Greater e false g a h m ih =
      let z : look log k ps ≡ None = over-look log k (over-trans log k (key_of log p) (greater_less (key_of log p) k e) a) in
      let i = rw z at ih in
      rw (e, lay_new p (lays log ps ss) g m) (put_other log k p (λ q. nope (cc (ap (λ (y : List ℕ). compare_bytes y k) q, compare_refl k))) (lays log ps ss) ∙ i)

  -- a key over which the waiting ones are, and that is not there
  lays-none : (k : List ℕ) (ps ss : List Slot) → Over log k ps → look log k ss ≡ None → look log k (lays log ps ss) ≡ overlay (look log k ps) (look log k ss) → look log k (lays log ps ss) ≡ None
  lays-none k ps ss a h e = e ∙ rw (over-look log k a, h)

  lays-look : (ps ss : List Slot) → Sorted log ps → Absent ps ss → (k : List ℕ) → look log k (lays log ps ss) ≡ overlay (look log k ps) (look log k ss)
  unfolding lays look
  lays-look [] ss q a k = refl
  lays-look (p ∷ ps) ss (sorted_more u q) (all_more h a) k =
      lays_look_on k p ps ss (compare_bytes (key_of log p) k) refl (is_gone p) refl u h
      (lays-none (key_of log p) ps ss u h (lays-look ps ss q a (key_of log p))) (lays-look ps ss q a k)

  lays-sorted : (ps ss : List Slot) → Sorted log ps → Absent ps ss → Sorted log ss → Sorted log (lays log ps ss)
  unfolding lays
  lays-sorted [] ss q a s = s
  lays-sorted (p ∷ ps) ss (sorted_more u q) (all_more h a) s =
      go (is_gone p) refl (lays-sorted ps ss q a s) (lays-none (key_of log p) ps ss u h (lays-look ps ss q a (key_of log p)))
    where
      go : (b : Bool) → is_gone p ≡ b → Sorted log (lays log ps ss) → look log (key_of log p) (lays log ps ss) ≡ None → Sorted log (lay log p (lays log ps ss))
      go true g r m = rw (lay-gone p (lays log ps ss) g) r
      go false g r m = rw (lay_new p (lays log ps ss) g m) (sorted-put log p (lays log ps ss) r)

  overlay_twice : (a o : Option Slot) → overlay a (without a o) ≡ overlay a o
  overlay_twice None o = refl
  overlay_twice (Some s) o = refl

  -- ---- the two passes

  pub merged-merges : (ps ss : List Slot) → Sorted log ps → Sorted log ss → Merges log ps ss (merged log ps ss)
  unfolding merged
  merged-merges ps ss q s = record {
    waiting = q;
    table = s;
    sorted = lays-sorted ps (cuts log ps ss) q (cuts_absent ps ss s) (cuts-sorted ps ss s);
    looks = λ k. lays-look ps (cuts log ps ss) q (cuts_absent ps ss s) k ∙ ap (overlay (look log k ps)) (cuts-look k ps ss q s) ∙ overlay_twice (look log k ps) (look log k ss);
  }

  -- table and changes decide the slots
  pub merges_unique : {ps ss r r' : List Slot} → Merges log ps ss r → Merges log ps ss r' → r ≡ r'
  merges_unique {r = r} {r' = r'} m m' = look_decides log r r' m.sorted m'.sorted (λ k. m.looks k ∙ sym (m'.looks k))

  pub merges-is : {ps ss r : List Slot} → Merges log ps ss r → merged log ps ss ≡ r
  merges-is {ps} {ss} m = merges_unique (merged-merges ps ss m.waiting m.table) m
