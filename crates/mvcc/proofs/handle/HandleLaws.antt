-- Laws of sets of versions and of handles: the turns of the loops over a set, what each method answers, and handles that the store
-- makes. Assumes nothing.
use Prim.Native.Nat.{ℕ, zero, suc, ◌+◌, ◌-◌, ◌^◌, ◌<◌, ◌≤◌, min}
use mathlib.Core.Path.{◌≡◌, refl, sym, ap, ◌∙◌}
use mathlib.Core.Bool.{Bool, true, false, ◌||◌}
use mathlib.Core.List.{List, [], ◌∷◌, ◌++◌, append_assoc, append-nil}
use native.Mathlib.Decide.{dec_le}
use native.Mathlib.Omega.{arith}
use native.Mathlib.Numerals.{add-one}
use lib.Dec.{eqb, leb, ltb}
use lib.ListN.{length, take, get_or, set, replicate, length-append}
use lib.Seq.{take_all, take_at, set-append_seam}
use borrow.Author.Tests.{lt-ltb, le-ltb, le-leb, lt-leb}
use Rattle.std.specs.List.{list_any, IsAllAdjacentAnswer}
use Rattle.keycode.specs.Tests.{pick}
use Rattle.keycode.specs.Limits.{max_open}
use Rattle.mvcc.specs.declared.handle.Handle.{Handle}
use Rattle.mvcc.specs.handle.Handles.{memb, rising, rising_from, set_of, sees, first_or, lowest_of, sound_handle, handle_of, with_version, with_all}

-- ---- sets

or_pick : (a b : Bool) → (a || b) ≡ pick a true b
or_pick true b = refl
or_pick false b = refl

-- what `contains` tells
memb_any : (v : ℕ) (s : List ℕ) → list_any (λ (x : ℕ). eqb x v) s ≡ memb v s
unfolding memb
memb_any v [] = refl
memb_any v (x ∷ s) = rw (memb_any v s) (or_pick (eqb x v) (memb v s))

pick_none : (b : Bool) → pick b false false ≡ false
pick_none true = refl
pick_none false = refl

-- each is above the one before, or one is not
climbs : (x : ℕ) (s : List ℕ) → ((k : ℕ) → suc k < length (x ∷ s) → ltb (get_or (x ∷ s) k 0) (get_or (x ∷ s) (suc k) 0) ≡ true) → rising_from x s ≡ true
unfolding rising_from
climbs x [] f = refl
climbs x (y ∷ s) f = let e : ltb x y ≡ true = f 0 (omega arith) in rw (e, climbs y s (λ k h. f (suc k) (omega arith)))

falls : (x : ℕ) (s : List ℕ) (k : ℕ) → suc k < length (x ∷ s) → ltb (get_or (x ∷ s) k 0) (get_or (x ∷ s) (suc k) 0) ≡ false → rising_from x s ≡ false
unfolding rising_from
falls x [] k h e = absurd (omega arith)
falls x (y ∷ s) zero h e = rw e
falls x (y ∷ s) (suc k) h e = rw (falls y s k (omega arith) e) (pick_none (ltb x y))

-- what `is_sorted_by` tells
pub rising_told : (s : List ℕ) (r : Bool) → IsAllAdjacentAnswer (λ (x y : ℕ) (b : Bool). b ≡ ltb x y) s r → r ≡ rising s
unfolding rising
rising_told [] true w = refl
rising_told [] false w = absurd (omega (arith, w.1))
rising_told (x ∷ s) true w = sym (climbs x s (λ k h. rw add-one at (sym (w k 0 (omega arith)))))
rising_told (x ∷ s) false w = sym (falls x s w.0 (omega (arith, w.1)) (rw add-one at (sym (w.2 0))))

-- ---- the methods

take_min : (l : List ℕ) (n : ℕ) → take (min n (length l)) l ≡ take n l
take_min l n = elim (dec_le n (length l)) [
  | yes h ↦ (let e : min n (length l) ≡ n = omega arith in ap (λ (k : ℕ). take k l) e)
  | no h ↦ (take_all (min n (length l)) l (omega arith) ∙ sym (take_all n l (omega arith)))
]

-- what the rule of a struct by value tells of its array
module _ (h : Handle) (given : length h.set ≡ max_open) where
  pub full : length h.set ≡ max_open
  full = given

  -- the part of the array that the count allows is the set
  pub set_part : (n : ℕ) → n ≡ min h.count max_open → take n h.set ≡ set_of h
  unfolding set_of
  set_part n e =
      ap (λ (k : ℕ). take k h.set) (e ∙ ap (λ (k : ℕ). min h.count k) (sym full))
      ∙ take_min h.set h.count

  pub lowest_set : 0 < h.count → get_or h.set 0 0 ≡ lowest_of h
  unfolding lowest_of set_of first_or
  lowest_set k = go h.count h.set k (omega (arith, full))
    where
      go : (n : ℕ) (s : List ℕ) → 0 < n → 0 < length s → get_or s 0 0 ≡ first_or h.version (take n s)
      go zero s a b = absurd (omega arith)
      go (suc n) [] a b = absurd (omega arith)
      go (suc n) (x ∷ s) a b = refl

module _ (h : Handle) where
  module _ (v : ℕ) {b : Bool} {s : List ℕ} (es : s ≡ set_of h) (eb : b ≡ list_any (λ (x : ℕ). eqb x v) s) where
    told : b ≡ memb v (set_of h)
    told = eb ∙ memb_any v s ∙ ap (memb v) es

    pub sees_not : b ≡ true → false ≡ sees h v
    unfolding sees
    sees_not e = rw (← told, e)

    pub sees_below : b ≡ false → h.read_only ≡ true → ltb v h.version ≡ sees h v
    unfolding sees
    sees_below e r = rw (← told, e, r)

    pub sees-upto : b ≡ false → h.read_only ≡ false → leb v h.version ≡ sees h v
    unfolding sees
    sees-upto e r = rw (← told, e, r)

  pub lowest_own : h.count ≤ 0 → min (h.version + 1) (2 ^ 64 - 1) ≡ lowest_of h
  unfolding lowest_of set_of first_or
  lowest_own k = let e : h.count ≡ 0 = omega arith in rw e

  pub sound_not : max_open < h.count → leb h.count max_open ≡ sound_handle h
  unfolding sound_handle
  sound_not k = rw (lt-leb h.count max_open k)

  pub sound_if : h.count ≤ max_open → {s : List ℕ} → s ≡ set_of h → {b : Bool} → b ≡ rising s → b ≡ sound_handle h
  unfolding sound_handle
  sound_if k es e = e ∙ ap rising es ∙ rw (le-leb h.count max_open k)

  pub with_room : (v : ℕ) → h.count < max_open
      → record { version = h.version; read_only = h.read_only; count = h.count + 1; set = set h.set h.count v } ≡ with_version h v
  unfolding with_version
  with_room v k = rw (lt-ltb h.count max_open k)

  pub with_none : (v : ℕ) → max_open ≤ h.count → h ≡ with_version h v
  unfolding with_version
  with_none v k = rw (le-ltb h.count max_open k)

-- ---- handles that the store makes

pub fresh_made : (v : ℕ) (ro : Bool) → record { version = v; read_only = ro; count = 0; set = replicate {A = ℕ} max_open 0 } ≡ handle_of v ro []
unfolding handle_of
fresh_made v ro = refl

module _ (v : ℕ) (ro : Bool) (vs : List ℕ) where
  pub made_set : length vs ≤ max_open → set_of (handle_of v ro vs) ≡ vs
  unfolding set_of handle_of
  made_set h = take_at vs (replicate {A = ℕ} (max_open - length vs) 0) (length vs) refl

  pub made_with : (x : ℕ) → length vs < max_open → with_version (handle_of v ro vs) x ≡ handle_of v ro (vs ++ (x ∷ []))
  unfolding with_version handle_of
  made_with x h =
      let e : max_open - length vs ≡ suc (max_open - (length vs + 1)) = omega arith in
      let l : length (vs ++ (x ∷ [])) ≡ length vs + 1 = length-append vs (x ∷ []) in
      rw (lt-ltb (length vs) max_open h, e, l)
      (rw (set-append_seam vs 0 (replicate {A = ℕ} (max_open - (length vs + 1)) 0) x, append_assoc))

pub made_all : (v : ℕ) (ro : Bool) (us vs : List ℕ) → length us + length vs ≤ max_open → with_all (handle_of v ro us) vs ≡ handle_of v ro (us ++ vs)
unfolding with_all
made_all v ro us [] h = ap (handle_of v ro) (sym (append-nil us))
made_all v ro us (x ∷ vs) h =
    rw (made_with v ro us x (omega arith))
    (made_all v ro (us ++ (x ∷ [])) vs (simp length-append (omega arith)) ∙ ap (handle_of v ro) (append_assoc us (x ∷ []) vs))

made_count : (v : ℕ) (ro : Bool) (vs : List ℕ) → (handle_of v ro vs).count ≡ length vs
unfolding handle_of
made_count v ro vs = refl

pub made_sound : (v : ℕ) (ro : Bool) (vs : List ℕ) → length vs ≤ max_open → sound_handle (handle_of v ro vs) ≡ rising vs
unfolding sound_handle
made_sound v ro vs h = rw (made_set v ro vs h, made_count v ro vs, le-leb (length vs) max_open h)
