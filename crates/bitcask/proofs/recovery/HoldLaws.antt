-- Laws of one key changed in a table or in what waits beside it: what both stand for then, and how many slots that are. Assumes nothing.
use Prim.Native.Nat.{ℕ, ◌+◌, ◌-◌, ◌≤◌, ◌<◌}
use mathlib.Core.Path.{◌≡◌, refl, sym, ap, ◌∙◌, subst}
use mathlib.Core.Logic.{◌⊎◌, inl, inr}
use mathlib.Core.Bool.{true, false}
use mathlib.Core.List.{List}
use lib.Dec.{ltb}
use lib.ListN.{length, get_or}
use borrow.Author.Tests.{lt-ltb, le-ltb}
use Rattle.std.specs.Prelude.{Result, ℕ, Ok, Err, Option, None, Some}
use Rattle.std.specs.declared.cmp.Ordering.{Ordering}
use Rattle.std.specs.declared.cmp.Ordering.TheVariants.{Less, Equal, Greater}
use Rattle.keycode.specs.Order.{compare_bytes}
use Rattle.keycode.proofs.Basics.{nope}
use Rattle.keycode.proofs.OrderLaws.{compare_refl, compare_equal}
use Rattle.bitcask.specs.declared.keydir.slots.Slot.{Slot}
use Rattle.bitcask.specs.keydir.Slots.{free_slot, key_of}
use Rattle.bitcask.specs.keydir.Place.{place_of, place_in, put_at, cut_at, Sorted}
use Rattle.bitcask.proofs.keydir.SlotLaws.{insert_length, replace_length, remove_length}
use Rattle.bitcask.proofs.keydir.HalveLaws.{among-at, among-before}
use Rattle.bitcask.proofs.keydir.PlaceLaws.{place_in_among, place-sorted}
use Rattle.bitcask.proofs.keydir.SortLaws.{sorted-put, sorted_cut}
use Rattle.bitcask.specs.merging.Merge.{look, is_gone, overlay, Merges}
use Rattle.bitcask.proofs.merging.LookLaws.{slot_by, look-place, put_own, put_other, cut_own, cut_other}
use Rattle.bitcask.specs.recovery.Recover.{room_for, step_in}

-- ---- a change of one key, key by key

same_or : (a b : List ℕ) (o : Ordering) → compare_bytes a b ≡ o → (a ≡ b) ⊎ (a ≡ b → ⊥)
same_or a b Less e = inr (λ q. nope (cc (ap (λ (z : List ℕ). compare_bytes z b) q, compare_refl b)))
same_or a b Equal e = inl (compare_equal a b e)
same_or a b Greater e = inr (λ q. nope (cc (ap (λ (z : List ℕ). compare_bytes z b) q, compare_refl b)))

module _ (log : List ℕ) (s : Slot) {ps ss r : List Slot} (m : Merges log ps ss r) where
  abbrev k : List ℕ
  k = key_of log s

  pub put_waits : is_gone s ≡ false → Merges log (put_at s (place_in log (key_of log s) ps) ps) ss (put_at s (place_in log (key_of log s) r) r)
  put_waits g = record {
    waiting = sorted-put log s ps m.waiting;
    table = m.table;
    sorted = sorted-put log s r m.sorted;
    looks = λ j. go j (same_or k j (compare_bytes k j) refl);
  }
    where
      go : (j : List ℕ) → (k ≡ j) ⊎ (k ≡ j → ⊥) → look log j (put_at s (place_in log k r) r) ≡ overlay (look log j (put_at s (place_in log k ps) ps)) (look log j ss)
      go j (inl e) = subst (λ (z : List ℕ). look log z (put_at s (place_in log k r) r) ≡ overlay (look log z (put_at s (place_in log k ps) ps)) (look log z ss)) e (rw
          (put_own log s r, put_own log s ps, g))
      go j (inr n) = rw (put_other log j s n r, put_other log j s n ps) (m.looks j)

  pub gone_waits : is_gone s ≡ true → Merges log (put_at s (place_in log (key_of log s) ps) ps) ss (cut_at (place_in log (key_of log s) r) r)
  gone_waits g = record {
    waiting = sorted-put log s ps m.waiting;
    table = m.table;
    sorted = sorted_cut log r (place_in log k r) m.sorted;
    looks = λ j. go j (same_or k j (compare_bytes k j) refl);
  }
    where
      go : (j : List ℕ) → (k ≡ j) ⊎ (k ≡ j → ⊥) → look log j (cut_at (place_in log k r) r) ≡ overlay (look log j (put_at s (place_in log k ps) ps)) (look log j ss)
      go j (inl e) = subst (λ (z : List ℕ). look log z (cut_at (place_in log k r) r) ≡ overlay (look log z (put_at s (place_in log k ps) ps)) (look log z ss)) e (rw
          (cut_own log k r m.sorted, put_own log s ps, g))
      go j (inr n) = rw (cut_other log j k n r m.sorted, put_other log j s n ps) (m.looks j)

  -- a key that is not in the table waits no more
  pub waits_not : look log (key_of log s) ss ≡ None → Merges log (cut_at (place_in log (key_of log s) ps) ps) ss (cut_at (place_in log (key_of log s) r) r)
  waits_not h = record {
    waiting = sorted_cut log ps (place_in log k ps) m.waiting;
    table = m.table;
    sorted = sorted_cut log r (place_in log k r) m.sorted;
    looks = λ j. go j (same_or k j (compare_bytes k j) refl);
  }
    where
      go : (j : List ℕ) → (k ≡ j) ⊎ (k ≡ j → ⊥) → look log j (cut_at (place_in log k r) r) ≡ overlay (look log j (cut_at (place_in log k ps) ps)) (look log j ss)
      go j (inl e) = subst (λ (z : List ℕ). look log z (cut_at (place_in log k r) r) ≡ overlay (look log z (cut_at (place_in log k ps) ps)) (look log z ss)) e (rw
          (cut_own log k r m.sorted, cut_own log k ps m.waiting) (sym h))
      go j (inr n) = rw (cut_other log j k n r m.sorted, cut_other log j k n ps m.waiting) (m.looks j)

  -- a key that does not wait is set in the table
  pub put-table : look log (key_of log s) ps ≡ None → Merges log ps (put_at s (place_in log (key_of log s) ss) ss) (put_at s (place_in log (key_of log s) r) r)
  put-table h = record {
    waiting = m.waiting;
    table = sorted-put log s ss m.table;
    sorted = sorted-put log s r m.sorted;
    looks = λ j. go j (same_or k j (compare_bytes k j) refl);
  }
    where
      go : (j : List ℕ) → (k ≡ j) ⊎ (k ≡ j → ⊥) → look log j (put_at s (place_in log k r) r) ≡ overlay (look log j ps) (look log j (put_at s (place_in log k ss) ss))
      go j (inl e) = subst (λ (z : List ℕ). look log z (put_at s (place_in log k r) r) ≡ overlay (look log z ps) (look log z (put_at s (place_in log k ss) ss))) e (rw
          (put_own log s r, put_own log s ss, h))
      go j (inr n) = rw (put_other log j s n r, put_other log j s n ss) (m.looks j)

  -- the key's slot
  pub key-looks : {a b : Option Slot} → look log (key_of log s) ps ≡ a → look log (key_of log s) ss ≡ b → look log (key_of log s) r ≡ overlay a b
  key-looks e f = m.looks k ∙ rw (e, f)

-- ---- places and slots

module _ (log key : List ℕ) (ss : List Slot) (s : Sorted log ss) {f : Result ℕ ℕ} (e : f ≡ place_of log key ss) where
  pub found_in : f ≡ place_in log key ss
  found_in = e ∙ place-sorted log key ss s

  pub at-look : (i : ℕ) → f ≡ Ok i → look log key ss ≡ Some (get_or ss i free_slot)
  at-look i q = look-place log key ss ∙ ap (slot_by log ss) (sym found_in ∙ q)

  pub before-look : (i : ℕ) → f ≡ Err i → look log key ss ≡ None
  before-look i q = look-place log key ss ∙ ap (slot_by log ss) (sym found_in ∙ q)

-- ---- how many slots there are then

module _ (log key : List ℕ) (r : List Slot) where
  by_look : (f : Result ℕ ℕ) → place_in log key r ≡ f → look log key r ≡ slot_by log r f
  by_look f e = look-place log key r ∙ ap (slot_by log r) e

  pub put-live : (s x : Slot) (f : Result ℕ ℕ) → place_in log key r ≡ f → look log key r ≡ Some x → length (put_at s f r) ≡ length r
  put-live s x (Ok i) e h = replace_length i s r (among-at (length r) (place_in log key r) i (place_in_among log key r) e)
  put-live s x (Err i) e h = nope (cc (by_look (Err i) e))

  pub put_fresh : (s : Slot) (f : Result ℕ ℕ) → place_in log key r ≡ f → look log key r ≡ None → length (put_at s f r) ≡ length r + 1
  put_fresh s (Ok i) e h = nope (cc (by_look (Ok i) e))
  put_fresh s (Err i) e h = insert_length i s r (among-before (length r) (place_in log key r) i (place_in_among log key r) e)

  pub cut_live : (x : Slot) (f : Result ℕ ℕ) → place_in log key r ≡ f → look log key r ≡ Some x → length (cut_at f r) ≡ length r - 1
  cut_live x (Ok i) e h = remove_length i r (among-at (length r) (place_in log key r) i (place_in_among log key r) e)
  cut_live x (Err i) e h = nope (cc (by_look (Err i) e))

  pub cut_fresh : (f : Result ℕ ℕ) → place_in log key r ≡ f → look log key r ≡ None → cut_at f r ≡ r
  cut_fresh (Ok i) e h = nope (cc (by_look (Ok i) e))
  cut_fresh (Err i) e h = refl

  -- ---- what recovery makes of an entry with a value

  room-live : (cap : ℕ) (x : Slot) (f : Result ℕ ℕ) (n : ℕ) → place_in log key r ≡ f → look log key r ≡ Some x → room_for cap false f n ≡ true
  room-live cap x (Ok i) n e h = refl
  room-live cap x (Err i) n e h = nope (cc (by_look (Err i) e))

  room_fresh : (cap : ℕ) (f : Result ℕ ℕ) (n : ℕ) → place_in log key r ≡ f → look log key r ≡ None → room_for cap false f n ≡ ltb n cap
  room_fresh cap (Ok i) n e h = nope (cc (by_look (Ok i) e))
  room_fresh cap (Err i) n e h = refl

  module _ (cap : ℕ) (s : Slot) where
    pub step-live : (x : Slot) → look log key r ≡ Some x → Some (put_at s (place_in log key r) r) ≡ step_in cap (record { slot = s; gone = false }) (place_in log key r) r
    unfolding step_in
    step-live x h = rw (room-live cap x (place_in log key r) (length r) refl h)

    pub step_new : look log key r ≡ None → length r < cap → Some (put_at s (place_in log key r) r) ≡ step_in cap (record { slot = s; gone = false }) (place_in log key r) r
    unfolding step_in
    step_new h l = rw (room_fresh cap (place_in log key r) (length r) refl h, lt-ltb (length r) cap l)

    pub step-full : look log key r ≡ None → cap ≤ length r → None ≡ step_in cap (record { slot = s; gone = false }) (place_in log key r) r
    unfolding step_in
    step-full h l = rw (room_fresh cap (place_in log key r) (length r) refl h, le-ltb (length r) cap l)
