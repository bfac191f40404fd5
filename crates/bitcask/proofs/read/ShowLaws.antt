-- What get and scan step show of the map: the bytes at the places that they answer. Assumes nothing.
use Prim.Native.Nat.{ℕ, zero, suc, ◌+◌, ◌<◌}
use mathlib.Core.Path.{◌≡◌, refl, sym, ap, ◌∙◌}
use mathlib.Core.Bool.{Bool, true, false}
use mathlib.Core.List.{List, [], ◌∷◌}
use native.Mathlib.Omega.{arith}
use lib.ListN.{length, take, drop, get_or}
use Rattle.std.specs.Prelude.{Result, ℕ, Ok, Err, Option, None, Some}
use Rattle.keycode.specs.declared.refusal.Refusal.{Refusal}
use Rattle.keycode.specs.Tests.{pick}
use Rattle.keycode.specs.declared.refusal.Refusal.TheVariants.{Absent}
use Rattle.keycode.specs.declared.parts.Part.{Part}
use Rattle.keycode.proofs.Basics.{nope}
use Rattle.bitcask.specs.declared.keydir.slots.Slot.{Slot}
use Rattle.bitcask.specs.keydir.Slots.{free_slot, key_of, value_of}
use Rattle.bitcask.specs.keydir.Place.{place_in}
use Rattle.bitcask.specs.recovery.Map.{Pair, look_in}
use Rattle.bitcask.specs.recovery.Recover.{recovered, view, map_of}
use Rattle.bitcask.specs.recovery.Agree.{Agrees}
use Rattle.bitcask.proofs.recovery.ViewLaws.{view-length, value_at, look-view}
use Rattle.bitcask.specs.declared.answers.Bound.{Bound}
use Rattle.bitcask.specs.read.Ranks.{admitted, first_of}
use Rattle.bitcask.specs.declared.answers.KeyValue.{KeyValue}
use Rattle.bitcask.specs.read.Promises.{Gets, located_by, key_part, value_part, Steps, stepped_by}

-- ---- get: the value of the key in the map, or none

module _ (log key : List ℕ) (ss : List Slot) where
  found_value : (f : Result ℕ ℕ) (p : Part) → located_by f ss ≡ Ok p → value_at log key ss f ≡ Some (take p.len (drop p.at log))
  unfolding value_of
  found_value (Ok i) p e = let q : value_part (get_or ss i free_slot) ≡ p = cc in ap (λ (x : Part). Some (take x.len (drop x.at log))) q
  found_value (Err i) p e = nope (cc)

  found_none : (f : Result ℕ ℕ) → located_by f ss ≡ Err Absent → value_at log key ss f ≡ None
  found_none (Ok i) e = nope (cc)
  found_none (Err i) e = refl

module _ {log : List ℕ} {used : ℕ} {t key : List ℕ} {r : Result Part Refusal} (g : Agrees log used t) (w : Gets log used t key r) where
  pub get_shows : (p : Part) → r ≡ Ok p → look_in key (map_of log used) ≡ Some (take p.len (drop p.at log))
  unfolding map_of
  get_shows p e =
      sym (look-view log key (recovered log used))
      ∙ found_value log key (recovered log used) (place_in log key (recovered log used)) p (sym (w.answer g) ∙ e)

  pub get_none : r ≡ Err Absent → look_in key (map_of log used) ≡ None
  unfolding map_of
  get_none e =
      sym (look-view log key (recovered log used))
      ∙ found_none log key (recovered log used) (place_in log key (recovered log used)) (sym (w.answer g) ∙ e)

-- ---- scan step: the first pair that the bounds admit, or none

abbrev pub no_pair : Pair
no_pair = record { key = []; value = [] }

view-at : (log : List ℕ) (ss : List Slot) (i : ℕ) → i < length ss → get_or (view log ss) i no_pair ≡ record { key = key_of log (get_or ss i free_slot); value = value_of log (get_or ss i free_slot) }
unfolding view
view-at log [] i h = absurd (omega arith)
view-at log (s ∷ ss) zero h = refl
view-at log (s ∷ ss) (suc i) h = view-at log ss i (omega arith)

first-within : (p : List ℕ → Bool) (i : ℕ) (m : List Pair) (j : ℕ) → first_of p i m ≡ Some j → j < i + length m
unfolding first_of
first-within p i [] j e = nope (cc)
first-within p i (q ∷ m) j e = go (p q.key) e (λ f. first-within p (suc i) m j f)
  where
    go : (b : Bool) → pick b (Some i) (first_of p (suc i) m) ≡ Some j → (first_of p (suc i) m ≡ Some j → j < suc i + length m) → j < i + suc (length m)
    go true f ih = let z : i ≡ j = cc in omega arith
    go false f ih = omega (arith, ih f)

-- the number of a pair of the map, and its bytes at the places k and v
pub record Shown (log : List ℕ) (m : List Pair) (o : Option ℕ) (k v : Part) : Type 0 where
  pub number : ℕ
  pub first : o ≡ Some number
  pub pair : get_or m number no_pair ≡ record { key = take k.len (drop k.at log); value = take v.len (drop v.at log) }

shown : (log : List ℕ) (ss : List Slot) (o : Option ℕ) (k v : Part) → ((i : ℕ) → o ≡ Some i → i < length ss) → stepped_by o ss ≡ Ok (record { key = k; value = v }) → Shown log (view log ss) o k v
unfolding key_of value_of
shown log ss None k v h e = nope (cc)
shown log ss (Some i) k v h e =
    let w : record { key = key_part (get_or ss i free_slot); value = value_part (get_or ss i free_slot) } ≡ (record { key = k; value = v }) = cc in
    let p : key_part (get_or ss i free_slot) ≡ k = ap (λ (x : KeyValue). x.key) w in
    let q : value_part (get_or ss i free_slot) ≡ v = ap (λ (x : KeyValue). x.value) w in
    record {
      number = i;
      first = refl;
      pair = view-at log ss i (h i refl) ∙ (λ j. record { key = take (p j).len (drop (p j).at log); value = take (q j).len (drop (q j).at log) });
    }

over_none : (ss : List Slot) (o : Option ℕ) → stepped_by o ss ≡ Err Absent → o ≡ None
over_none ss None e = refl
over_none ss (Some i) e = nope (cc)

module _ {log : List ℕ} {used : ℕ} {t : List ℕ} {lower : Bound} {low : List ℕ} {upper : Bound} {high : List ℕ} {given : Bool} {last : List ℕ} {r : Result KeyValue Refusal} (g : Agrees log used t)
    (w : Steps log used t lower low upper high given last r) where
  pub step-shows : (k v : Part) → r ≡ Ok (record { key = k; value = v }) → Shown log (map_of log used) (first_of (admitted lower low upper high given last) 0 (map_of log used)) k v
  unfolding map_of
  step-shows k v e =
      shown log (recovered log used) (first_of (admitted lower low upper high given last) 0 (view log (recovered log used))) k v
      (λ i q. omega (arith, first-within (admitted lower low upper high given last) 0 (view log (recovered log used)) i q, view-length log (recovered log used)))
      (sym (w.answer g) ∙ e)

  pub step-over : r ≡ Err Absent → first_of (admitted lower low upper high given last) 0 (map_of log used) ≡ None
  unfolding map_of
  step-over e = over_none (recovered log used) (first_of (admitted lower low upper high given last) 0 (view log (recovered log used))) (sym (w.answer g) ∙ e)
