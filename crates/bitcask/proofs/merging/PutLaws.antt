-- Laws of the pass that puts in the new slots: how many they are, a turn of it, what holds before each turn, and what it leaves. Assumes
-- nothing.
use Prim.Native.Nat.{ℕ, suc, ◌+◌, ◌-◌, ◌*◌, ◌≤◌, ◌<◌}
use mathlib.Core.Path.{◌≡◌, refl, sym, ap, ◌∙◌, subst}
use mathlib.Core.Bool.{Bool, true, false}
use mathlib.Core.List.{List, [], ◌∷◌, ◌++◌, append_assoc, append-nil}
use native.Mathlib.Omega.{arith}
use lib.ListN.{length, take, drop, get_or, length-drop, take-append-drop}
use lib.Seq.{slice, take-suc, take-length}
use Rattle.std.specs.Prelude.{Result, ℕ, Result, Ok, Err}
use Rattle.keycode.specs.Buffer.{put}
use Rattle.keycode.specs.Tests.{pick}
use Rattle.keycode.proofs.BufferLaws.{length-put}
use Rattle.bitcask.specs.declared.keydir.slots.Slot.{Slot}
use Rattle.bitcask.specs.keydir.Words.{copied}
use Rattle.bitcask.specs.keydir.Slots.{slot_words, free_slot, slot_at, slots_of, words_of, insert_at, key_of}
use Rattle.bitcask.specs.keydir.Place.{place_of, place_in, index_of, all_more, Sorted}
use Rattle.bitcask.proofs.keydir.WordLaws.{put_first}
use Rattle.bitcask.proofs.keydir.SlotLaws.{words_append, words-length, slots_length, words-slots, slot_at_is, words-drop}
use Rattle.bitcask.proofs.keydir.HalveLaws.{among_index}
use Rattle.bitcask.proofs.keydir.PlaceLaws.{place-among, place-sorted}
use Rattle.bitcask.proofs.keydir.SortLaws.{all-turn}
use Rattle.bitcask.specs.read.Ranks.{before_at, below}
use Rattle.bitcask.specs.merging.Merge.{is_gone, lay, lays, new_of, news}
use Rattle.bitcask.specs.merging.Passes.{placed, PutsNext, PutsAll}
use Rattle.bitcask.proofs.merging.MergeLaws.{sorted-take, sorted-last, place-over, lays-before, lays-last}
use Rattle.bitcask.proofs.merging.PartLaws.{words-front, slots-take, slots_same, put_fore, put-at}

-- ---- the mark, as the code reads it

module _ (s : Slot) {b : Bool} (e : b ≡ is_gone s) where
  pub new_gone : b ≡ true → 0 ≡ new_of s
  unfolding new_of
  new_gone q = let p : is_gone s ≡ true = sym e ∙ q in rw p

  pub new_new : b ≡ false → 1 ≡ new_of s
  unfolding new_of
  new_new q = let p : is_gone s ≡ false = sym e ∙ q in rw p

pub news_most : (ps : List Slot) → news ps ≤ length ps
unfolding news new_of
news_most [] = omega arith
news_most (p ∷ ps) = on (is_gone p) (news_most ps)
  where
    on : (b : Bool) → news ps ≤ length ps → pick b 0 1 + news ps ≤ suc (length ps)
    on true h = omega arith
    on false h = omega arith

-- ---- how many are new

pub news-append : (xs ys : List Slot) → news (xs ++ ys) ≡ news xs + news ys
unfolding news
news-append [] ys = omega arith
news-append (x ∷ xs) ys = let e = news-append xs ys in omega arith

pub news-turn : (pend : List ℕ) (m p n : ℕ) {s : Slot} {k : ℕ} → p < m → n ≡ news (slots_of p pend) → s ≡ slot_at pend p → k ≡ new_of s → n + k ≡ news (slots_of (p + 1) pend)
unfolding news
news-turn pend m p n {s} {k} h e es ek =
    let a : slots_of (p + 1) pend ≡ take p (slots_of m pend) ++ (get_or (slots_of m pend) p free_slot ∷ []) = slots-take (p + 1) m pend (omega arith)
    ∙ (let q : p + 1 ≡ suc p = omega arith in ap (λ (x : ℕ). take x (slots_of m pend)) q) ∙ take-suc (slots_of m pend) p free_slot (omega (arith, slots_length m pend)) in
    let b : new_of (get_or (slots_of m pend) p free_slot) ≡ k = ap new_of (sym (slot_at_is m pend p h)) ∙ ap new_of (sym es) ∙ sym ek in
    let c : news (slots_of p pend) ≡ news (take p (slots_of m pend)) = ap news (slots-take p m pend (omega arith)) in
    let d = ap news a ∙ news-append (take p (slots_of m pend)) (get_or (slots_of m pend) p free_slot ∷ []) in
    omega arith

news-take : (p : ℕ) (ps : List Slot) → news (take p ps) ≤ news ps
news-take p ps = let e = ap news (take-append-drop p ps) in let f = news-append (take p ps) (drop p ps) in omega arith

-- ---- one waiting slot put in

module _ (log t : List ℕ) (end left : ℕ) (s : Slot) where
  pub next-gone : is_gone s ≡ true → slot_words * (end + left) ≤ length t → PutsNext log t end left s end left t
  unfolding placed new_of words_of
  next-gone e h = record {
    long = refl;
    within = omega arith;
    fewer = rw e (omega arith);
    place = rw e;
    front = slots-take end end t (omega arith);
    back = rw e;
  }

  module _ (g : is_gone s ≡ false) (some : 0 < left) (h : slot_words * (end + left) ≤ length t) {key : List ℕ} {j : ℕ} (ek : key ≡ key_of log s)
      (ej : j ≡ below log key (slots_of end t)) where
    spot_is : j ≡ index_of (place_of log (key_of log s) (slots_of end t))
    unfolding below
    spot_is = ej ∙ ap (λ (k : List ℕ). before_at (place_of log k (slots_of end t))) ek ∙ by_place (place_of log (key_of log s) (slots_of end t))
      where
        by_place : (f : Result ℕ ℕ) → before_at f ≡ index_of f
        by_place (Ok i) = refl
        by_place (Err i) = refl

    next-within : j ≤ end
    next-within =
        let a = among_index (length (slots_of end t)) (place_of log (key_of log s) (slots_of end t)) (place-among log (key_of log s) (slots_of end t)) in
        omega (arith, slots_length end t, spot_is)

    module _ {y z : List ℕ} (ey : y ≡ copied t (slot_words * j) (slot_words * end) (slot_words * j + slot_words * left)) (ez : z ≡ put y (slot_words * (j + left - 1)) (words_of (s ∷ []))) where
      abbrev at : ℕ
      at = slot_words * (j + left - 1)

      abbrev ws : List ℕ
      ws = words_of (s ∷ drop j (slots_of end t))

      ws_long : length ws ≡ slot_words * (1 + (end - j))
      ws_long = words-length (s ∷ drop j (slots_of end t))
          ∙ (let a = length-drop j (slots_of end t) in let b = slots_length end t in let m : length (s ∷ drop j (slots_of end t)) ≡ 1 + (end - j) = omega arith in ap (λ
          (k : ℕ). slot_words * k) m)

      sliced : slice (slot_words * j) (slot_words * end) t ≡ words_of (drop j (slots_of end t))
      sliced = ap (drop (slot_words * j)) (words-front end t (omega arith)) ∙ words-drop j (slots_of end t)

      z_put : z ≡ put t at ws
      unfolding copied
      z_put =
          let w = words-length (s ∷ []) in
          let e : slot_words * j + slot_words * left ≡ at + length (words_of (s ∷ [])) = omega arith in
          ez ∙ ap (λ (u : List ℕ). put u at (words_of (s ∷ []))) (ey ∙ ap (put t (slot_words * j + slot_words * left)) sliced ∙ ap (λ (k : ℕ). put t k (words_of (drop j (slots_of end t)))) e)
          ∙ put_first t at (words_of (s ∷ [])) (words_of (drop j (slots_of end t))) (omega (arith, next-within))
          ∙ ap (put t at) (sym (words_append (s ∷ []) (drop j (slots_of end t))))

      z_fits : at + length ws ≤ length t
      z_fits = omega (arith, ws_long, next-within)

      z_long : length z ≡ length t
      z_long = ap length z_put ∙ length-put t at ws z_fits

      pub next_puts : PutsNext log t end left s j (left - 1) z
      unfolding placed new_of
      next_puts =
          let hj = next-within in
          let e₁ : slot_words * (j + (left - 1)) ≡ at = omega arith in
          let e₂ : at + length ws ≡ slot_words * (end + left) = omega (arith, ws_long) in
          record {
            long = z_long;
            within = hj;
            fewer = rw g (omega arith);
            place = rw g spot_is;
            front = slots_same j z t (ap (take (slot_words * j)) z_put ∙ put_fore t at ws z_fits (slot_words * j) (omega arith)) (omega (arith, z_long)) (omega arith) ∙ slots-take j end t hj;
            back = rw (g, e₁) (ap (drop at) z_put ∙ put-at t at ws z_fits ∙ ap (λ (k : ℕ). ws ++ drop k t) e₂);
          }

-- ---- all of them

-- what is still to be put into the slots before `end`, and what stands behind the free slots, are what is put into all
pub record Puts (log t : List ℕ) (n : ℕ) (ps : List Slot) (x : List ℕ) (p end left : ℕ) : Type 0 where
  pub behind : List Slot
  pub sorted : Sorted log (slots_of end x)
  pub words : drop (slot_words * (end + left)) x ≡ words_of behind ++ drop (slot_words * (n + news ps)) t
  pub same : lays log ps (slots_of n t) ≡ lays log (take p ps) (slots_of end x) ++ behind

pub record Putting (log t : List ℕ) (n : ℕ) (ps : List Slot) (x : List ℕ) (p end left : ℕ) : Type 0 where
  pub long : length x ≡ length t
  pub within : end ≤ n
  pub upto : p ≤ length ps
  pub free : left ≡ news (take p ps)
  pub exact : Sorted log (slots_of n t) → Sorted log ps → Puts log t n ps x p end left

pub putting_start : (log t : List ℕ) (n : ℕ) (ps : List Slot) (p left : ℕ) → p ≡ length ps → left ≡ news ps → Putting log t n ps t p n left
unfolding words_of
putting_start log t n ps p left e f =
    let q : take p ps ≡ ps = ap (λ (k : ℕ). take k ps) e ∙ take-length ps in
    record {
      long = refl;
      within = omega arith;
      upto = omega arith;
      free = f ∙ ap news (sym q);
      exact = λ so r. record {
        behind = [];
        sorted = so;
        words = ap (λ (k : ℕ). drop (slot_words * (n + k)) t) f;
        same = ap (λ (z : List Slot). lays log z (slots_of n t)) (sym q) ∙ sym (append-nil (lays log (take p ps) (slots_of n t)));
      };
    }

-- a turn, on slots
module _ (log : List ℕ) (ps : List Slot) (s : Slot) (es : List Slot) (so : Sorted log es) (sp : Sorted log (ps ++ (s ∷ []))) where
  abbrev spot : Bool → ℕ
  spot b = pick b (length es) (index_of (place_in log (key_of log s) es))

  lays_turn_on : (b : Bool) → is_gone s ≡ b → lays log ps (lay log s es) ≡ lays log ps (take (spot b) es) ++ pick b [] (s ∷ drop (spot b) es)
  unfolding lay insert_at
  lays_turn_on true g = rw (g, take-length es) (sym (append-nil (lays log ps es)))
  lays_turn_on false g =
      let j : ℕ = index_of (place_in log (key_of log s) es) in
      rw g (lays-before log ps (take j es) (s ∷ drop j es) (all-turn (λ p h. all_more h (place-over log (key_of log p) (key_of log s) h es so)) (sorted-last log ps s sp)))

  pub lays-turn : (r : ℕ) → r ≡ spot (is_gone s) → lays log (ps ++ (s ∷ [])) es ≡ lays log ps (take r es) ++ placed s r es
  unfolding placed
  lays-turn r e = rw e (lays-last log ps s es ∙ lays_turn_on (is_gone s) refl)

module _ {log t : List ℕ} {n : ℕ} {ps : List Slot} {x : List ℕ} {p end left : ℕ} (w : Putting log t n ps x p end left) (pos : 0 < p) where
  front-last : take p ps ≡ take (p - 1) ps ++ (get_or ps (p - 1) free_slot ∷ [])
  front-last =
      let e : p ≡ suc (p - 1) = omega arith in
      ap (λ (k : ℕ). take k ps) e ∙ take-suc ps (p - 1) free_slot (omega (arith, w.upto))

  pub putting_new : (s : Slot) → s ≡ get_or ps (p - 1) free_slot → new_of s ≤ left
  unfolding news
  putting_new s e =
      let a = w.free in
      let b = ap news front-last ∙ news-append (take (p - 1) ps) (get_or ps (p - 1) free_slot ∷ []) in
      let c = ap new_of e in omega arith

  pub putting_turn : (s : Slot) (r left' : ℕ) (x' : List ℕ) → s ≡ get_or ps (p - 1) free_slot → PutsNext log x end left s r left' x' → Putting log t n ps x' (p - 1) r left'
  unfolding news
  putting_turn s r left' x' e v =
      let a = w.free in
      let b = ap news front-last ∙ news-append (take (p - 1) ps) (get_or ps (p - 1) free_slot ∷ []) in
      let c = ap new_of e in
      record {
        long = v.long ∙ w.long;
        within = omega (arith, v.within, w.within);
        upto = omega (arith, w.upto);
        free = omega (arith, v.fewer);
        exact = λ so sp. turned (w.exact so sp) so sp;
      }
    where
      turned : Puts log t n ps x p end left → Sorted log (slots_of n t) → Sorted log ps → Puts log t n ps x' (p - 1) r left'
      turned u so sp =
          let es : List Slot = slots_of end x in
          let q : List Slot = take (p - 1) ps in
          let fl : take p ps ≡ q ++ (s ∷ []) = front-last ∙ ap (λ (z : Slot). q ++ (z ∷ [])) (sym e) in
          let sq : Sorted log (q ++ (s ∷ [])) = subst (λ (z : List Slot). Sorted log z) fl (sorted-take log p sp) in
          let pl : place_of log (key_of log s) es ≡ place_in log (key_of log s) es = place-sorted log (key_of log s) es u.sorted in
          let re : r ≡ pick (is_gone s) (length es) (index_of (place_in log (key_of log s) es)) = v.place ∙ rw (pl, slots_length end x) in
          record {
            behind = placed s r es ++ u.behind;
            sorted = subst (λ (z : List Slot). Sorted log z) (sym v.front) (sorted-take log r u.sorted);
            words = v.back ∙ ap (λ (z : List ℕ). words_of (placed s r es) ++ z) u.words
                ∙ sym (append_assoc (words_of (placed s r es)) (words_of u.behind) (drop (slot_words * (n + news ps)) t))
                ∙ ap (λ (z : List ℕ). z ++ drop (slot_words * (n + news ps)) t) (sym (words_append (placed s r es) u.behind));
            same = u.same ∙ ap (λ (z : List Slot). lays log z es ++ u.behind) fl ∙ ap (λ (z : List Slot). z ++ u.behind) (lays-turn log q s es u.sorted sq r re)
                ∙ append_assoc (lays log q (take r es)) (placed s r es) u.behind ∙ ap (λ (z : List Slot). lays log q z ++ (placed s r es ++ u.behind)) (sym v.front);
          }

-- the slots left to place and the free ones are no more than all
pub putting_room : {log t : List ℕ} {n : ℕ} {ps : List Slot} {x : List ℕ} {p end left : ℕ} → Putting log t n ps x p end left → end + left ≤ n + news ps
putting_room {ps = ps} {p = p} w = omega (arith, w.within, w.free, news-take p ps)

pub putting_end : {log t : List ℕ} {n : ℕ} {ps : List Slot} {x : List ℕ} {p end left : ℕ} → Putting log t n ps x p end left → slot_words * n ≤ length t → p ≤ 0 → PutsAll log t n ps x
unfolding lays news
putting_end {log} {t} {n} {ps} {x} {p} {end} {left} w room h = record { exact = λ so sp. ended (w.exact so sp) }
  where
    ended : Puts log t n ps x p end left → x ≡ words_of (lays log ps (slots_of n t)) ++ drop (slot_words * (n + news ps)) t
    ended u =
        let pe : p ≡ 0 = omega arith in
        let le : left ≡ 0 = w.free ∙ ap (λ (k : ℕ). news (take k ps)) pe in
        let sa : lays log ps (slots_of n t) ≡ slots_of end x ++ u.behind = u.same ∙ ap (λ (k : ℕ). lays log (take k ps) (slots_of end x) ++ u.behind) pe in
        let ee : slot_words * (end + left) ≡ slot_words * end = omega arith in
        sym (words-slots end x (omega (arith, w.within, w.long)))
        ∙ ap (λ (z : List ℕ). words_of (slots_of end x) ++ z) (ap (λ (k : ℕ). drop k x) (sym ee) ∙ u.words)
        ∙ sym (append_assoc (words_of (slots_of end x)) (words_of u.behind) (drop (slot_words * (n + news ps)) t))
        ∙ ap (λ (z : List ℕ). z ++ drop (slot_words * (n + news ps)) t) (sym (words_append (slots_of end x) u.behind) ∙ ap words_of (sym sa))
