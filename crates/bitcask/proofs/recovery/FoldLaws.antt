-- Laws of what the entries of a log leave: where the slots lie, that their keys rise, how many bytes their entries have, on which
-- bytes they depend, and what one entry more does. Assumes nothing.
use Prim.Native.Nat.{ℕ, zero, suc, ◌+◌, ◌*◌, ◌≤◌, ◌<◌}
use mathlib.Core.Path.{◌≡◌, refl, sym, ap, ◌∙◌}
use mathlib.Core.Bool.{Bool, true, false}
use mathlib.Core.List.{List, [], ◌∷◌, ◌++◌}
use native.Mathlib.Omega.{arith}
use lib.ListN.{length, take, drop}
use Rattle.std.specs.Prelude.{Result, ℕ, Ok, Err, Some}
use Rattle.bitcask.specs.entry.Reading.{entry_at}
use Rattle.bitcask.proofs.entry.ReadingLaws.{part_same}
use Rattle.bitcask.specs.declared.keydir.slots.Slot.{Slot}
use Rattle.bitcask.specs.keydir.Slots.{insert_at, replace_at, remove_at, key_of, value_of}
use Rattle.bitcask.specs.keydir.Place.{place_in, All, all_none, all_more, Sorted, sorted_none}
use Rattle.bitcask.proofs.keydir.SortLaws.{all-turn, all-put, all_cut, sorted-put, sorted_cut, place_kept}
use Rattle.bitcask.specs.recovery.Map.{Rising}
use Rattle.bitcask.specs.recovery.Recover.{Item, item_of, next, items, ends, step_at, step, fold, recovered, live, view, map_of}
use Rattle.bitcask.proofs.recovery.ItemLaws.{item_none, items-stop, items-next, Chain, chain_none, chain_more, items_chain, chain_ends, ends-append, items_extend}
use Rattle.bitcask.proofs.recovery.ViewLaws.{pair_of, sorted-rising}

pub fold-append : (log : List ℕ) (is js : List Item) (ss : List Slot) → fold log (is ++ js) ss ≡ fold log js (fold log is ss)
unfolding fold
fold-append log [] js ss = refl
fold-append log (i ∷ is) js ss = fold-append log is js (step log i ss)

-- ---- every slot's entry lies inside the used length

pub record Inside (used : ℕ) (s : Slot) : Type 0 where
  pub taken : 0 < s.place
  pub within : s.place + 7 + s.klen + s.vlen ≤ used

pub all-step : {P : Slot → Type 0} (g : Bool) (s : Slot) (f : Result ℕ ℕ) (ss : List Slot) → P s → All P ss → All P (step_at g s f ss)
all-step false s f ss p a = all-put ss a s f p
all-step true s f ss p a = all_cut ss a f

step-inside : (log : List ℕ) (used : ℕ) (i : Item) (ss : List Slot) → Inside used i.slot → All (Inside used) ss → All (Inside used) (step log i ss)
unfolding step
step-inside log used i ss p a = all-step i.gone i.slot (place_in log (key_of log i.slot) ss) ss p a

pub fold-inside : (log : List ℕ) (used : ℕ) {at : ℕ} {is : List Item} {ss : List Slot} → Chain used at is → All (Inside used) ss → All (Inside used) (fold log is ss)
unfolding fold
fold-inside log used chain_none a = a
fold-inside log used {ss = ss} (chain_more {i = i} r c) a =
    fold-inside log used c (step-inside log used i ss (record { taken = omega (arith, r.here); within = r.near }) a)

pub recovered-inside : (log : List ℕ) (used : ℕ) → All (Inside used) (recovered log used)
unfolding recovered
recovered-inside log used = fold-inside log used (items_chain log used 0) all_none

-- ---- the keys rise

pub step-sorted : (log : List ℕ) (g : Bool) (s : Slot) (ss : List Slot) → Sorted log ss → Sorted log (step_at g s (place_in log (key_of log s) ss) ss)
step-sorted log false s ss h = sorted-put log s ss h
step-sorted log true s ss h = sorted_cut log ss (place_in log (key_of log s) ss) h

pub fold-sorted : (log : List ℕ) (is : List Item) (ss : List Slot) → Sorted log ss → Sorted log (fold log is ss)
unfolding fold step
fold-sorted log [] ss h = h
fold-sorted log (i ∷ is) ss h = fold-sorted log is (step log i ss) (step-sorted log i.gone i.slot ss h)

module _ (log : List ℕ) (used : ℕ) where
  pub recovered-sorted : Sorted log (recovered log used)
  unfolding recovered
  recovered-sorted = fold-sorted log (items log used 0) [] sorted_none

  pub map-rising : Rising (map_of log used)
  unfolding map_of
  map-rising = sorted-rising log recovered-sorted

-- ---- the live bytes

pub live-append : (xs ys : List Slot) → live (xs ++ ys) ≡ live xs + live ys
unfolding live
live-append [] ys = omega arith
live-append (x ∷ xs) ys = let e = live-append xs ys in omega arith

live_parts : (i : ℕ) (ss : List Slot) → live (take i ss) + live (drop i ss) ≡ live ss
unfolding live
live_parts zero ss = omega arith
live_parts (suc i) [] = refl
live_parts (suc i) (s ∷ ss) = let e = live_parts i ss in omega arith

live_rest : (i : ℕ) (ss : List Slot) → live (drop (suc i) ss) ≤ live (drop i ss)
unfolding live
live_rest zero [] = omega arith
live_rest zero (s ∷ ss) = omega arith
live_rest (suc i) [] = omega arith
live_rest (suc i) (s ∷ ss) = live_rest i ss

live_at : (g : Bool) (s : Slot) (f : Result ℕ ℕ) (ss : List Slot) → live (step_at g s f ss) ≤ live ss + (8 + s.klen + s.vlen)
unfolding replace_at insert_at remove_at live
live_at false s (Ok i) ss = let a = live-append (take i ss) (s ∷ drop (suc i) ss) in let b = live_parts i ss in let d = live_rest i ss in omega arith
live_at false s (Err i) ss = let a = live-append (take i ss) (s ∷ drop i ss) in let b = live_parts i ss in omega arith
live_at true s (Ok i) ss = let a = live-append (take i ss) (drop (suc i) ss) in let b = live_parts i ss in let d = live_rest i ss in omega arith
live_at true s (Err i) ss = omega arith

fold-live : (log : List ℕ) (used : ℕ) {at : ℕ} {is : List Item} (ss : List Slot) → Chain used at is → live ss ≤ at → live (fold log is ss) ≤ ends at is
unfolding fold step ends
fold-live log used ss chain_none h = h
fold-live log used ss (chain_more {i = i} r c) h =
    fold-live log used (step log i ss) c (omega (arith, live_at i.gone i.slot (place_in log (key_of log i.slot) ss) ss, r.here))

-- the entries of the slots together are no longer than the used length
pub recovered-live : (log : List ℕ) (used : ℕ) → live (recovered log used) ≤ used
unfolding recovered live
recovered-live log used =
    let a = fold-live log used [] (items_chain log used 0) (omega arith) in
    let b = chain_ends (items_chain log used 0) (omega arith) in omega arith

pub live-count : (ss : List Slot) → 8 * length ss ≤ live ss
unfolding live
live-count [] = omega arith
live-count (s ∷ ss) = let a = live-count ss in omega arith

-- ---- two logs that agree in the first `used` bytes

module _ (log log' : List ℕ) (used : ℕ) (agree : take used log ≡ take used log') where
  pub key-same : {s : Slot} → Inside used s → key_of log s ≡ key_of log' s
  unfolding key_of
  key-same {s} h = part_same log log' used agree (s.place + 7) s.klen (omega arith)

  pub value_same : {s : Slot} → Inside used s → value_of log s ≡ value_of log' s
  unfolding value_of
  value_same {s} h = part_same log log' used agree (s.place + 7 + s.klen) s.vlen (omega arith)

  pub place_same : (key : List ℕ) {ss : List Slot} → All (Inside used) ss → place_in log key ss ≡ place_in log' key ss
  place_same key {ss} a = place_kept log' log key ss (all-turn (λ s h. key-same h) a)

  step_same : (i : Item) {ss : List Slot} → Inside used i.slot → All (Inside used) ss → step log i ss ≡ step log' i ss
  unfolding step
  step_same i h a = rw (key-same h, place_same (key_of log' i.slot) a)

  fold_same : {at : ℕ} {is : List Item} {ss : List Slot} → Chain used at is → All (Inside used) ss → fold log is ss ≡ fold log' is ss
  unfolding fold
  fold_same chain_none a = refl
  fold_same {ss = ss} (chain_more {i = i} {is = is} r c) a =
      let h : Inside used i.slot = record { taken = omega (arith, r.here); within = r.near } in
      fold_same c (step-inside log used i ss h a) ∙ ap (fold log' is) (step_same i h a)

  pub view-same : {ss : List Slot} → All (Inside used) ss → view log ss ≡ view log' ss
  unfolding view
  view-same all_none = refl
  view-same (all_more {x = s} h a) =
      let k = key-same h in
      let v = value_same h in
      let p : pair_of log s ≡ pair_of log' s = λ j. record { key = k j; value = v j } in
      cc (view-same a)

  -- ---- one entry more, at the end

  module _ (used' : ℕ) (i : Item) (clean : ends 0 (items log used 0) ≡ used) (read : item_of (entry_at log' used' used) used ≡ Some i) (last : next i ≡ used') (more : used ≤ used') where
    pub items_one : items log' used' 0 ≡ items log used 0 ++ (i ∷ [])
    items_one =
        let z : items log' used' used ≡ i ∷ [] = items-next log' used' used i read ∙ ap (λ (a : ℕ). i ∷ items log' used' a) last
        ∙ ap (λ (x : List Item). i ∷ x) (items-stop log' used' used' (item_none log' used' used' (omega arith))) in
        items_extend log log' used used' agree more 0 ∙ rw (clean, z)

    pub ends_one : ends 0 (items log' used' 0) ≡ used'
    unfolding ends
    ends_one = rw items_one (ends-append 0 (items log used 0) (i ∷ []) ∙ last)

    pub recovered_one : recovered log' used' ≡ step log' i (recovered log used)
    unfolding recovered fold
    recovered_one = rw items_one (fold-append log' (items log used 0) (i ∷ []) [] ∙ ap (step log' i) (sym (fold_same (items_chain log used 0) all_none)))
