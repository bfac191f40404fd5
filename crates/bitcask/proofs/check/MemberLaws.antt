-- Slots as members of a list: one taken out, keys that rise, the slot of a key. Two lists of slots whose keys rise and that give each
-- key the same slot are one. Assumes nothing.
use Prim.Native.Nat.{ℕ, suc}
use mathlib.Core.Path.{◌≡◌, refl, sym, ap, ◌∙◌, subst}
use mathlib.Core.Logic.{◌⊎◌, inl, inr}
use Rattle.std.specs.Prelude.{Option, None, Some}
use mathlib.Core.List.{List, [], ◌∷◌}
use lib.ListN.{length}
use Rattle.std.specs.declared.cmp.Ordering.{Ordering}
use Rattle.std.specs.declared.cmp.Ordering.TheVariants.{Less, Equal, Greater}
use Rattle.keycode.specs.Order.{compare_bytes}
use Rattle.keycode.proofs.Basics.{nope}
use Rattle.keycode.proofs.OrderLaws.{flip, compare_flip, compare_equal, compare_refl}
use Rattle.bitcask.specs.declared.keydir.slots.Slot.{Slot}
use Rattle.bitcask.specs.keydir.Slots.{key_of}
use Rattle.bitcask.specs.keydir.Place.{All, all_more, Sorted, sorted_none, sorted_more, all_none}
use Rattle.bitcask.proofs.check.LastLaws.{slot_for}

pub data Mem (x : Slot) : List Slot → Type 0 where
  mem_here : {xs : List Slot} → Mem x (x ∷ xs)
  mem_there : {y : Slot} {xs : List Slot} → Mem x xs → Mem x (y ∷ xs)

mem_none : {x : Slot} {xs : List Slot} → Mem x xs → xs ≡ [] → ⊥
mem_none mem_here e = nope (cc)
mem_none (mem_there p) e = nope (cc)

-- the list with a member taken out
unfoldable pub without : {x : Slot} {xs : List Slot} → Mem x xs → List Slot
without (mem_here {xs = xs}) = xs
without (mem_there {y = y} p) = y ∷ without p

module _ {x : Slot} where
  pub without-length : {xs : List Slot} (p : Mem x xs) → length xs ≡ suc (length (without p))
  unfolding without
  without-length mem_here = refl
  without-length (mem_there p) = ap suc (without-length p)

  pub split_in : {xs : List Slot} (p : Mem x xs) {y : Slot} → Mem y xs → (y ≡ x) ⊎ Mem y (without p)
  unfolding without
  split_in mem_here mem_here = inl refl
  split_in mem_here (mem_there q) = inr q
  split_in (mem_there p) mem_here = inr mem_here
  split_in (mem_there p) (mem_there q) = go (split_in p q)
    where
      go : {z y : Slot} {r : List Slot} → (y ≡ x) ⊎ Mem y r → (y ≡ x) ⊎ Mem y (z ∷ r)
      go (inl e) = inl e
      go (inr m) = inr (mem_there m)

  pub in_whole : {xs : List Slot} (p : Mem x xs) {y : Slot} → Mem y (without p) → Mem y xs
  unfolding without
  in_whole mem_here q = mem_there q
  in_whole (mem_there p) mem_here = mem_here
  in_whole (mem_there p) (mem_there q) = mem_there (in_whole p q)

pub all_mem : {P : Slot → Type 0} {x : Slot} {xs : List Slot} → All P xs → Mem x xs → P x
all_mem {P = P} all_none x4 = elim x4 [ ]
all_mem (all_more p r) mem_here = p
all_mem (all_more p r) (mem_there m) = all_mem r m

-- ---- keys that rise

module _ (log : List ℕ) where
  abbrev Under : Slot → Slot → Type 0
  Under s x = compare_bytes (key_of log s) (key_of log x) ≡ Less

  never_under : {s x : Slot} → Under s x → s ≡ x → ⊥
  never_under {s} {x} h e = let q : compare_bytes (key_of log s) (key_of log s) ≡ Less = rw e (rw e at h) in nope (cc (compare_refl (key_of log s)))

  all_without : {P : Slot → Type 0} {x : Slot} {xs : List Slot} → All P xs → (p : Mem x xs) → All P (without p)
  unfolding without
  all_without {P = P} all_none p = elim p [ ]
  all_without (all_more h r) mem_here = r
  all_without (all_more h r) (mem_there p) = all_more h (all_without r p)

  pub sorted-without : {x : Slot} {xs : List Slot} → Sorted log xs → (p : Mem x xs) → Sorted log (without p)
  unfolding without
  sorted-without sorted_none p = elim p [ ]
  sorted-without (sorted_more a r) mem_here = r
  sorted-without (sorted_more a r) (mem_there p) = sorted_more (all_without a p) (sorted-without r p)

  -- what is taken out stood there once
  pub apart : {x y : Slot} {xs : List Slot} → Sorted log xs → (p : Mem x xs) → Mem y (without p) → x ≡ y → ⊥
  unfolding without
  apart {y = y} sorted_none p q e = elim p [ ]
  apart (sorted_more a r) mem_here q e = never_under (all_mem a q) e
  apart (sorted_more a r) (mem_there p) mem_here e = never_under (all_mem a p) (sym e)
  apart (sorted_more a r) (mem_there p) (mem_there q) e = apart r p q e

  -- ---- the slot of a key

  for_on : (k : List ℕ) (x s : Slot) (ss : List Slot) (o : Ordering) → compare_bytes (key_of log x) k ≡ o → slot_for log k (x ∷ ss) ≡ Some s
      → (slot_for log k ss ≡ Some s → Mem s ss × (key_of log s ≡ k)) → Mem s (x ∷ ss) × (key_of log s ≡ k)
  unfolding slot_for
  for_on k x s ss Less e q f = let w : slot_for log k ss ≡ Some s = rw e at q in (mem_there (f w).0, (f w).1)
  for_on k x s ss Equal e q f =
      let w : Some x ≡ Some s = rw e at q in
      let z : x ≡ s = cc in
      (subst (λ (y : Slot). Mem s (y ∷ ss)) (sym z) mem_here, subst (λ (y : Slot). key_of log y ≡ k) z (compare_equal (key_of log x) k e))
  for_on k x s ss Greater e q f = let w : ◌≡◌ {A = Option Slot} None (Some s) = rw e at q in nope (cc)

  pub for_mem : (k : List ℕ) (s : Slot) (ss : List Slot) → slot_for log k ss ≡ Some s → Mem s ss × (key_of log s ≡ k)
  unfolding slot_for
  for_mem k s [] q = nope (cc)
  for_mem k s (x ∷ ss) q = for_on k x s ss (compare_bytes (key_of log x) k) refl q (λ w. for_mem k s ss w)

  pub mem_for : {s : Slot} {ss : List Slot} → Sorted log ss → Mem s ss → slot_for log (key_of log s) ss ≡ Some s
  unfolding slot_for
  mem_for {s = s} sorted_none x3 = elim x3 [ ]
  mem_for {s} (sorted_more a r) mem_here = rw (compare_refl (key_of log s))
  mem_for {s} (sorted_more a r) (mem_there m) = rw (all_mem a m) (mem_for r m)

  -- the same slots, in order
  abbrev Within : List Slot → List Slot → Type 0
  Within a b = (s : Slot) → Mem s a → Mem s b

  ext_heads : {p q : Slot} {a b : List Slot} → All (Under p) a → All (Under q) b → Mem p (q ∷ b) → Mem q (p ∷ a) → p ≡ q
  ext_heads ha hb mem_here n = refl
  ext_heads ha hb (mem_there m) mem_here = refl
  ext_heads {p} {q} ha hb (mem_there m) (mem_there n) =
      let e = all_mem ha n in let f = compare_flip (key_of log q) (key_of log p) ∙ ap flip (all_mem hb m) in nope (cc)

  ext_tails : {p : Slot} {a b : List Slot} → All (Under p) a → Within (p ∷ a) (p ∷ b) → Within a b
  ext_tails {p} {a} {b} ha w s m = go (w s (mem_there m)) refl
    where
      go : {l : List Slot} → Mem s l → l ≡ p ∷ b → Mem s b
      go (mem_here {xs = xs}) e = let z : p ≡ s = cc in absurd (never_under (all_mem ha m) z)
      go (mem_there n) e = subst (Mem s) (cc) n

  pub sorted_ext : {a b : List Slot} → Sorted log a → Sorted log b → Within a b → Within b a → a ≡ b
  sorted_ext sorted_none sorted_none w v = refl
  sorted_ext sorted_none (sorted_more {s = q} hb rb) w v = absurd (mem_none (v q mem_here) refl)
  sorted_ext (sorted_more {s = p} ha ra) sorted_none w v = absurd (mem_none (w p mem_here) refl)
  sorted_ext (sorted_more {s = p} {ss = a} ha ra) (sorted_more {s = q} {ss = b} hb rb) w v =
      let e : p ≡ q = ext_heads ha hb (w p mem_here) (v q mem_here) in
      let w' : Within (p ∷ a) (p ∷ b) = subst (λ (y : Slot). Within (p ∷ a) (y ∷ b)) (sym e) w in
      let v' : Within (p ∷ b) (p ∷ a) = subst (λ (y : Slot). Within (y ∷ b) (p ∷ a)) (sym e) v in
      let hb' : All (Under p) b = subst (λ (y : Slot). All (Under y) b) (sym e) hb in
      let t : a ≡ b = sorted_ext ra rb (ext_tails ha w') (ext_tails hb' v') in
      cc
