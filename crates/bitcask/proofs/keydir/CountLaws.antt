-- Laws of the number of slots in use: a turn of the loop that counts, its bound for any words, its meaning on slots and zeros.
-- Assumes nothing.
use Prim.Native.Nat.{ℕ, zero, suc, ◌+◌, ◌-◌, ◌*◌, ◌/◌, ◌<◌, ◌≤◌}
use mathlib.Core.Path.{◌≡◌, sym, ap, ◌∙◌}
use mathlib.Core.List.{List, ◌++◌}
use native.Mathlib.Omega.{arith}
use lib.ListN.{length, get_or, replicate, length-append, length-replicate, get_or-replicate}
use lib.Seq.{get_or-drop, get_or-append-add}
use borrow.Author.Tests.{eq-eqb, ne_eqb}
use Rattle.std.specs.declared.cmp.Ordering.TheVariants.{Less, Greater}
use Rattle.bitcask.specs.declared.keydir.slots.Slot.{Slot}
use Rattle.bitcask.specs.keydir.Slots.{slot_words, free_slot, slot_head, slot_at, words_of}
use Rattle.bitcask.specs.keydir.Place.{All, all_none, all_more, halved, used_at, index_of, count_of}
use Rattle.bitcask.proofs.keydir.SlotLaws.{words-length, slots-words, slot_at_is}
use Rattle.bitcask.proofs.keydir.HalveLaws.{Halving, halving_end, halved-among, among_index, Parted, halved_spot, spot_only, parted_climbs}

-- ---- a slot's first word

place_is : (t : List ℕ) (i : ℕ) → (slot_at t i).place ≡ get_or t (slot_words * i) 0
unfolding slot_at slot_head
place_is t i = get_or-drop (slot_words * i) t 0 0 ∙ (let e : slot_words * i + 0 ≡ slot_words * i = omega arith in ap (λ (n : ℕ). get_or t n 0) e)

pub used-free : (t : List ℕ) (i : ℕ) → get_or t (slot_words * i) 0 ≡ 0 → Greater ≡ used_at t i
unfolding used_at
used-free t i e = rw (eq-eqb (slot_at t i).place 0 (place_is t i ∙ e))

pub used_some : (t : List ℕ) (i : ℕ) → (get_or t (slot_words * i) 0 ≡ 0 → ⊥) → Less ≡ used_at t i
unfolding used_at
used_some t i f = rw (ne_eqb (slot_at t i).place 0 (λ e. f (sym (place_is t i) ∙ e)))

pub count_end : (t : List ℕ) {low high : ℕ} → Halving (used_at t) (length t / slot_words) low high → high ≤ low → low ≡ count_of t
unfolding count_of
count_end t w h = ap index_of (halving_end w h)

-- ---- what it says

pub count-within : (t : List ℕ) → slot_words * count_of t ≤ length t
unfolding count_of
count-within t = let a = among_index (length t / slot_words) (halved (used_at t) 0 (length t / slot_words)) (halved-among (used_at t) (length t / slot_words)) in omega arith

pub all-at : {A : Type 0} {P : A → Type 0} {xs : List A} → All P xs → (i : ℕ) (d : A) → i < length xs → P (get_or xs i d)
all-at all_none i d h = absurd (omega arith)
all-at (all_more p r) zero d h = p
all-at (all_more p r) (suc i) d h = all-at r i d (omega arith)

module _ (ss : List Slot) (k : ℕ) where
  in_use : (i : ℕ) → i < length ss → get_or (words_of ss ++ replicate k 0) (slot_words * i) 0 ≡ (get_or ss i free_slot).place
  in_use i h =
      sym (place_is (words_of ss ++ replicate k 0) i)
      ∙ ap (λ (s : Slot). s.place) (slot_at_is (length ss) (words_of ss ++ replicate k 0) i h ∙ ap (λ (xs : List Slot). get_or xs i free_slot) (slots-words ss (replicate k 0)))

  unused : (i : ℕ) → length ss ≤ i → slot_words * i < slot_words * length ss + k → get_or (words_of ss ++ replicate k 0) (slot_words * i) 0 ≡ 0
  unused i h l =
      let w : length (words_of ss) ≡ slot_words * length ss = words-length ss in
      let m : ℕ = slot_words * i - slot_words * length ss in
      let e : slot_words * i ≡ length (words_of ss) + m = omega arith in
      ap (λ (n : ℕ). get_or (words_of ss ++ replicate k 0) n 0) e ∙ get_or-append-add (words_of ss) (replicate k 0) m 0 ∙ get_or-replicate k m 0 0 (omega arith)

  pub count-is : All (λ (s : Slot). 0 < s.place) ss → count_of (words_of ss ++ replicate k 0) ≡ length ss
  unfolding count_of
  count-is a =
      let t : List ℕ = words_of ss ++ replicate k 0 in
      let l : length t ≡ slot_words * length ss + k = simp (length-append, words-length, length-replicate) in
      let p : Parted (used_at t) (length t / slot_words) (length ss) (length ss) = record {
        less = λ j q. sym (used_some t j (λ e. let z = all-at a j free_slot q in let y = in_use j q in omega arith));
        greater = λ j q r. sym (used-free t j (unused j q (omega arith)));
      } in
      ap index_of (spot_only (used_at t) (length t / slot_words) (length ss) (halved (used_at t) 0 (length t / slot_words)) (omega arith) p
      (halved_spot (used_at t) (length t / slot_words) (parted_climbs (used_at t) (length t / slot_words) (length ss) p)))
