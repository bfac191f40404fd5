-- The verdict on agreement: what each refusal and the count at the end say, both ways. Assumes nothing.
use Prim.Native.Nat.{ℕ, zero, suc, ◌-◌, ◌*◌, ◌≤◌}
use mathlib.Core.Path.{◌≡◌, refl, sym, ap, subst, ◌∙◌}
use mathlib.Core.Bool.{Bool, true, false}
use mathlib.Core.List.{List, [], ◌∷◌, ◌++◌}
use native.Mathlib.Omega.{arith}
use lib.Dec.{eqb}
use lib.ListN.{length, take, drop, replicate, length-drop}
use lib.Seq.{drop_at, take_all}
use borrow.Author.Tests.{eq-eqb, eqb-true}
use Rattle.std.specs.Prelude.{Option, ℕ, None, Some}
use Rattle.std.specs.Option.{option_eq}
use Rattle.std.specs.declared.cmp.Ordering.{Ordering}
use Rattle.std.specs.declared.cmp.Ordering.TheVariants.{Less, Equal, Greater}
use Rattle.keycode.specs.Tests.{pick}
use Rattle.keycode.specs.Order.{compare_bytes}
use Rattle.keycode.proofs.Basics.{nope}
use Rattle.keycode.proofs.OrderLaws.{compare_trans}
use Rattle.bitcask.specs.declared.keydir.slots.Slot.{Slot}
use Rattle.bitcask.specs.keydir.Slots.{slot_words, slots_of, words_of, table_of, key_of}
use Rattle.bitcask.specs.keydir.Place.{All, all_none, all_more, Sorted, sorted_none, sorted_more, count_of}
use Rattle.bitcask.proofs.keydir.SlotLaws.{slots_length, words-length, words-slots}
use Rattle.bitcask.proofs.keydir.SortLaws.{all-turn}
use Rattle.bitcask.proofs.keydir.CountLaws.{count-within}
use Rattle.bitcask.specs.recovery.Recover.{items, recovered}
use Rattle.bitcask.specs.recovery.Agree.{fit, Agrees}
use Rattle.bitcask.proofs.recovery.FoldLaws.{recovered-sorted}
use Rattle.bitcask.proofs.recovery.AgreeLaws.{agrees-slots, agrees-count}
use Rattle.bitcask.specs.check.Told.{zeroed, is_less, leads, risen, walked_in}
use Rattle.bitcask.specs.check.Promises.{Tells}
use Rattle.bitcask.proofs.check.WalkLaws.{walk_clean, walk_slots}
use Rattle.bitcask.proofs.check.AheadLaws.{recovered_walk}

zeroed-all : (t : List ℕ) → zeroed t ≡ true → t ≡ replicate (length t) 0
unfolding zeroed
zeroed-all [] e = refl
zeroed-all (x ∷ t) e = go (eqb x 0) refl e (λ f. zeroed-all t f)
  where
    go : (b : Bool) → eqb x 0 ≡ b → pick b (zeroed t) false ≡ true → (zeroed t ≡ true → t ≡ replicate (length t) 0) → x ∷ t ≡ 0 ∷ replicate (length t) 0
    go true p w f = let y = eqb-true x 0 p in let z = f w in cc
    go false p w f = nope (cc)

all-zeroed : (n : ℕ) → zeroed (replicate n 0) ≡ true
unfolding zeroed
all-zeroed zero = refl
all-zeroed (suc n) = all-zeroed n

module _ (log : List ℕ) where
  less_is : (o : Ordering) → is_less o ≡ true → o ≡ Less
  less_is Less e = refl
  less_is Equal e = nope (cc)
  less_is Greater e = nope (cc)

  both : (a b : Bool) → pick a b false ≡ true → (a ≡ true) × (b ≡ true)
  both true b e = (refl, e)
  both false b e = nope (cc)

  lead_all : (s : Slot) {ss : List Slot} → leads log s ss ≡ true → Sorted log ss → All (λ (x : Slot). compare_bytes (key_of log s) (key_of log x) ≡ Less) ss
  lead_all s e sorted_none = all_none
  lead_all s e (sorted_more {s = x} a r) =
      let l = less_is (compare_bytes (key_of log s) (key_of log x)) e in all_more l (all-turn (λ y f. compare_trans (key_of log s) (key_of log x) (key_of log y) l f) a)

  risen-sorted : (ss : List Slot) → risen log ss ≡ true → Sorted log ss
  unfolding risen
  risen-sorted [] e = sorted_none
  risen-sorted (s ∷ ss) e =
      let w = both (leads log s ss) (risen log ss) e in
      let r = risen-sorted ss w.1 in sorted_more (lead_all s w.0 r) r

  all_lead : (s : Slot) {ss : List Slot} → All (λ (x : Slot). compare_bytes (key_of log s) (key_of log x) ≡ Less) ss → leads log s ss ≡ true
  all_lead s all_none = refl
  all_lead s (all_more e r) = rw e

  sorted-risen : {ss : List Slot} → Sorted log ss → risen log ss ≡ true
  unfolding risen
  sorted-risen sorted_none = refl
  sorted-risen (sorted_more {s = s} a r) = rw (all_lead s a, sorted-risen r)

-- ---- the verdict

never : {log : List ℕ} {used : ℕ} {t : List ℕ} → (Agrees log used t → ⊥) → Tells log used t false
never f = record { yes_so = λ e. nope (cc); so_yes = λ g. absurd (f g) }

pub tell_unfit : (log : List ℕ) (used : ℕ) (t : List ℕ) {b : Bool} → b ≡ fit (length log) used (length t) → b ≡ false → Tells log used t false
tell_unfit log used t e f = never (λ g. let s = g.sound in nope (cc))

module _ (log : List ℕ) (used : ℕ) (t : List ℕ) {n : ℕ} (c : n ≡ count_of t) where
  -- what agreement gives each test
  module _ (g : Agrees log used t) where
    slots_are : slots_of n t ≡ recovered log used
    slots_are = ap (λ (x : ℕ). slots_of x t) c ∙ agrees-slots log used t g

    count_are : n ≡ length (recovered log used)
    count_are = c ∙ agrees-count log used t g

    zeros-past : zeroed (drop (slot_words * n) t) ≡ true
    unfolding table_of
    zeros-past =
        let w = words_of (recovered log used) in
        let z : List ℕ = replicate (length t - slot_words * length (recovered log used)) 0 in
        let l : length w ≡ slot_words * n = words-length (recovered log used) ∙ ap (λ (x : ℕ). slot_words * x) (sym count_are) in
        ap (λ (x : List ℕ). zeroed (drop (slot_words * n) x)) g.words ∙ ap zeroed (drop_at w z (slot_words * n) l)
        ∙ all-zeroed (length t - slot_words * length (recovered log used))

    keys_rise : risen log (slots_of n t) ≡ true
    keys_rise = ap (risen log) slots_are ∙ sorted-risen log (recovered-sorted log used)

    walk_ends : walked_in log used (slots_of n t) 0 (items log used 0) ≡ Some n
    walk_ends = ap (λ (xs : List Slot). walked_in log used xs 0 (items log used 0)) slots_are ∙ recovered_walk log used g.clean ∙ ap Some (sym count_are)

  pub tell_more : {b : Bool} → b ≡ zeroed (drop (slot_words * n) t) → b ≡ false → Tells log used t false
  tell_more e f = never (λ g. nope (cc (zeros-past g)))

  pub tell_unsorted : {b : Bool} → b ≡ risen log (slots_of n t) → b ≡ false → Tells log used t false
  tell_unsorted e f = never (λ g. nope (cc (keys_rise g)))

  module _ {w : Option ℕ} (q : w ≡ walked_in log used (slots_of n t) 0 (items log used 0)) where
    pub tell_broken : w ≡ None → Tells log used t false
    tell_broken f = never (λ g. nope (cc (walk_ends g)))

    -- every test passed: the count decides
    module _ {a b d : Bool} (sound : a ≡ fit (length log) used (length t)) (fits : a ≡ true) (zeros : b ≡ zeroed (drop (slot_words * n) t)) (clear : b ≡ true)
        (rises : d ≡ risen log (slots_of n t)) (sorted : d ≡ true) (m : ℕ) (met : w ≡ Some m) where
      table_are : slots_of n t ≡ recovered log used → t ≡ table_of (length t) (recovered log used)
      unfolding table_of
      table_are e =
          let h : slot_words * n ≤ length t = omega (arith, c, count-within t) in
          let l : length t - slot_words * n ≡ length t - slot_words * length (slots_of n t) = ap (λ (x : ℕ). length t - slot_words * x) (sym (slots_length n t)) in
          sym (words-slots n t h) ∙ ap (λ (r : List ℕ). words_of (slots_of n t) ++ r)
          (zeroed-all (drop (slot_words * n) t) (sym zeros ∙ clear) ∙ ap (λ (x : ℕ). replicate x 0) (length-drop (slot_words * n) t ∙ l))
          ∙ ap (λ (xs : List Slot). words_of xs ++ replicate (length t - slot_words * length xs) 0) e

      pub tell_count : Tells log used t (eqb m n)
      tell_count =
          record {
            yes_so = λ e.
                let z : walked_in log used (slots_of n t) 0 (items log used 0) ≡ Some m = sym q ∙ met in
                let l : m ≡ length (slots_of n t) = eqb-true m n e ∙ sym (slots_length n t) in
                record {
                  sound = sym sound ∙ fits;
                  clean = walk_clean log used (slots_of n t) 0 (items log used 0) m z;
                  words = table_are (walk_slots log used (slots_of n t) (risen-sorted log (slots_of n t) (sym rises ∙ sorted)) (z ∙ ap Some l));
                };
            so_yes = λ g. eq-eqb m n (let z = walk_ends g in cc);
          }

  -- the part of the words that was looked at is all behind the slots
  pub zeros_behind : {b : Bool} → b ≡ zeroed (take (length t - slot_words * n) (drop (slot_words * n) t)) → b ≡ zeroed (drop (slot_words * n) t)
  zeros_behind e = e ∙ ap zeroed (take_all (length t - slot_words * n) (drop (slot_words * n) t) (let d = length-drop (slot_words * n) t in omega arith))

  -- every test passed: the walk's answer decides
  module _ {a b d : Bool} (sound : a ≡ fit (length log) used (length t)) (fits : a ≡ true) (zeros : b ≡ zeroed (drop (slot_words * n) t)) (clear : b ≡ true)
      (rises : d ≡ risen log (slots_of n t)) (sorted : d ≡ true) where
    pub tell_walked : (w : Option ℕ) {r : Bool} → w ≡ walked_in log used (slots_of n t) 0 (items log used 0) → r ≡ option_eq eqb w (Some n) → Tells log used t r
    tell_walked None {r} q e = subst (λ (x : Bool). Tells log used t x) (sym e) (tell_broken q refl)
    tell_walked (Some m) {r} q e = subst (λ (x : Bool). Tells log used t x) (sym e) (tell_count q sound fits zeros clear rises sorted m refl)

-- the answer is one
pub tells_unique : (log : List ℕ) (used : ℕ) (t : List ℕ) (a b : Bool) → Tells log used t a → Tells log used t b → a ≡ b
tells_unique log used t true true x y = refl
tells_unique log used t true false x y = sym (y.so_yes (x.yes_so refl))
tells_unique log used t false true x y = x.so_yes (y.yes_so refl)
tells_unique log used t false false x y = refl
