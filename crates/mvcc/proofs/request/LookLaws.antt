-- Look-ups by what the search found, and under agreement what the map says of the key. Assumes nothing.
use Prim.Native.Nat.{ℕ, zero, suc, ◌-◌}
use mathlib.Core.Path.{◌≡◌, refl, sym, ap, ◌∙◌}
use mathlib.Core.Bool.{true, false}
use mathlib.Core.List.{List, [], ◌∷◌}
use native.Mathlib.Omega.{arith}
use lib.ListN.{take, drop}
use lib.Seq.{take-nil}
use Rattle.std.specs.Prelude.{Result, ℕ, Ok, Err}
use Rattle.bitcask.specs.declared.keydir.slots.Slot.{Slot}
use Rattle.bitcask.specs.keydir.Slots.{slots_of}
use Rattle.bitcask.specs.keydir.Place.{count_of, place_of, place_in}
use Rattle.bitcask.specs.recovery.Map.{is_some, live_in}
use Rattle.bitcask.specs.recovery.Recover.{recovered, map_of}
use Rattle.bitcask.specs.recovery.Agree.{Agrees}
use Rattle.bitcask.proofs.recovery.ViewLaws.{value_at, look-view}
use Rattle.bitcask.proofs.recovery.AgreeLaws.{agrees-place}
use Rattle.bitcask.specs.change.Append.{wants, fresh_in}
use Rattle.mvcc.specs.request.Looks.{is_at, live_of}
use Rattle.mvcc.specs.request.Lists.{new_by, new_in}

-- ---- what the code answers

module _ (log key t : List ℕ) (n : ℕ) (f : Result ℕ ℕ) (says : f ≡ place_of log key (slots_of n t)) (i : ℕ) where
  pub live_at : f ≡ Ok i → true ≡ live_of log key (slots_of n t)
  unfolding live_of
  live_at e = rw (← says, e)

  pub live-before : f ≡ Err i → false ≡ live_of log key (slots_of n t)
  unfolding live_of
  live-before e = rw (← says, e)

-- ---- under agreement

module _ (log key : List ℕ) (ss : List Slot) where
  at_some : (f : Result ℕ ℕ) → is_at f ≡ is_some (value_at log key ss f)
  at_some (Ok i) = refl
  at_some (Err i) = refl

module _ (log : List ℕ) (used : ℕ) (t : List ℕ) (g : Agrees log used t) (key : List ℕ) where
  pub live-agrees : live_of log key (slots_of (count_of t) t) ≡ live_in key (map_of log used)
  unfolding live_of live_in map_of
  live-agrees =
      ap is_at (agrees-place log used t g key) ∙ at_some log key (recovered log used) (place_in log key (recovered log used))
      ∙ ap is_some (look-view log key (recovered log used))

  -- a key wants a slot where it is not in the map
  pub fresh_agrees : fresh_in log key (slots_of (count_of t) t) ≡ new_in key (map_of log used)
  unfolding fresh_in new_in
  fresh_agrees = rw (← live-agrees) (go (place_of log key (slots_of (count_of t) t)) refl)
    where
      go : (f : Result ℕ ℕ) → place_of log key (slots_of (count_of t) t) ≡ f → wants f ≡ new_by (live_of log key (slots_of (count_of t) t))
      go (Ok i) e = rw (← live_at log key t (count_of t) (Ok i) (sym e) i refl)
      go (Err i) e = rw (← live-before log key t (count_of t) (Err i) (sym e) i refl)

-- ---- a value without its first bytes, as a part of the log

pub drop-take : (k n : ℕ) (xs : List ℕ) → take (n - k) (drop k xs) ≡ drop k (take n xs)
drop-take zero n xs = let e : n - 0 ≡ n = omega arith in ap (λ (m : ℕ). take m xs) e
drop-take (suc k) n [] = take-nil (n - suc k) ∙ ap (drop (suc k)) (sym (take-nil n))
drop-take (suc k) zero (x ∷ xs) = let e : 0 - suc k ≡ 0 = omega arith in ap (λ (m : ℕ). take m (drop k xs)) e
drop-take (suc k) (suc n) (x ∷ xs) = let e : suc n - suc k ≡ n - k = omega arith in ap (λ (m : ℕ). take m (drop k xs)) e ∙ drop-take k n xs
