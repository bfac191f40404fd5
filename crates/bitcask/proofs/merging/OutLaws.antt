-- Laws of the pass that takes out the slots of the keys that wait: a turn of it, what holds before each turn, and what it leaves. Assumes
-- nothing.
use Prim.Native.Nat.{ℕ, suc, ◌+◌, ◌-◌, ◌*◌, ◌≤◌, ◌<◌, max}
use mathlib.Core.Path.{◌≡◌, refl, sym, ap, ◌∙◌, subst}
use mathlib.Core.List.{List, [], ◌∷◌, ◌++◌, append_assoc, append-nil}
use native.Mathlib.Omega.{arith}
use lib.ListN.{length, take, drop, get_or, replicate, length-append, length-take, length-drop, length-replicate}
use lib.Seq.{slice, drop-cons, drop-drop, drop-length, take_all}
use Rattle.std.specs.Prelude.{Result, ℕ, Ok, Err}
use Rattle.keycode.specs.Buffer.{put}
use Rattle.keycode.proofs.BufferLaws.{length-put}
use Rattle.bitcask.specs.declared.keydir.slots.Slot.{Slot}
use Rattle.bitcask.specs.keydir.Words.{copied}
use Rattle.bitcask.specs.keydir.Slots.{slot_words, free_slot, slots_of, words_of, remove_at, key_of}
use Rattle.bitcask.specs.keydir.Place.{place_of, place_in, Sorted, sorted_more, laid, Becomes}
use Rattle.bitcask.proofs.keydir.SlotLaws.{words_append, words-length, slots_length}
use Rattle.bitcask.proofs.keydir.HalveLaws.{among-at}
use Rattle.bitcask.proofs.keydir.PlaceLaws.{place-among, place-sorted}
use Rattle.bitcask.proofs.keydir.SortLaws.{all-turn}
use Rattle.bitcask.specs.merging.Merge.{cuts}
use Rattle.bitcask.specs.merging.Passes.{behind, kept_by, passed_by, TakesOne, TakesAll}
use Rattle.bitcask.proofs.merging.MergeLaws.{sorted-drop, Under, under_trans, place_under, cuts-behind}
use Rattle.bitcask.proofs.merging.PartLaws.{slots_at, words-front, slots-take, behind-is, behind-length, slice_is, put-past, put_head}

-- ---- one slot taken out

-- the search looks at the part of the table behind the gap
pub part_place : (log t : List ℕ) (n from : ℕ) (key : List ℕ) {f : Result ℕ ℕ}
    → f ≡ place_of log key (slots_of (n - from) (take (length t - slot_words * from) (drop (slot_words * from) t))) → f ≡ place_of log key (behind t from n)
unfolding behind
part_place log t n from key e = e
    ∙ ap (λ (x : List ℕ). place_of log key (slots_of (n - from) x)) (take_all (length t - slot_words * from) (drop (slot_words * from) t) (omega (
      arith,
      length-drop
          (slot_words * from) t,
    )))

module _ (log t : List ℕ) (n to from : ℕ) (key : List ℕ) (order : to ≤ from) (within : from ≤ n) (room : slot_words * n ≤ length t) {f : Result ℕ ℕ} (ef : f ≡ place_of log key (behind t from n)) where
  pub one_within : (j : ℕ) → f ≡ Ok j → from + j < n
  one_within j e =
      let a = among-at (length (behind t from n)) (place_of log key (behind t from n)) j (place-among log key (behind t from n)) (sym ef ∙ e) in
      omega (arith, behind-length t from n)

  pub one_stays : (j : ℕ) → f ≡ Err j → TakesOne log t n to from key to from t
  one_stays j e =
      let q : place_of log key (behind t from n) ≡ Err j = sym ef ∙ e in
      record {
        long = refl;
        order = order;
        within = within;
        passed = rw q (omega arith);
        kept = rw q (omega arith);
        front = rw q (sym (append-nil (slots_of to t)));
        after = refl;
      }

  module _ (j : ℕ) (e : f ≡ Ok j) {y : List ℕ} (ey : y ≡ copied t (slot_words * from) (slot_words * from + slot_words * j) (slot_words * to)) where
    q : place_of log key (behind t from n) ≡ Ok j
    q = sym ef ∙ e

    moved : slice (slot_words * from) (slot_words * from + slot_words * j) t ≡ words_of (take j (behind t from n))
    unfolding behind
    moved =
        let h = one_within j e in
        let l = length-drop (slot_words * from) t in
        slice_is (slot_words * from) (slot_words * j) t (omega arith) ∙ words-front j (drop (slot_words * from) t) (omega arith)
        ∙ ap words_of (slots-take j (n - from) (drop (slot_words * from) t) (omega arith))

    long_moved : length (words_of (take j (behind t from n))) ≡ slot_words * j
    long_moved =
        let h = one_within j e in
        words-length (take j (behind t from n)) ∙ (let m : length (take j (behind t from n)) ≡ j = length-take j (behind t from n)
        ∙ omega (arith, behind-length t from n) in ap (λ (k : ℕ). slot_words * k) m)

    is-put : y ≡ put t (slot_words * to) (words_of (take j (behind t from n)))
    unfolding copied
    is-put = ey ∙ ap (put t (slot_words * to)) moved

    fits : slot_words * to + length (words_of (take j (behind t from n))) ≤ length t
    fits = let h = one_within j e in omega (arith, long_moved)

    pub one_takes : TakesOne log t n to from key (to + j) (from + j + 1) y
    one_takes =
        let h = one_within j e in
        let m = long_moved in
        let c : List Slot = slots_of to t ++ take j (behind t from n) in
        let lc : length c ≡ to + j = length-append (slots_of to t) (take j (behind t from n))
        ∙ (let a = slots_length to t in let b = length-take j (behind t from n) in omega (arith, behind-length t from n)) in
        let x : take (slot_words * (to + j)) y ≡ words_of c = rw is-put
        (let k : slot_words * (to + j) ≡ slot_words * to + length (words_of (take j (behind t from n))) = omega arith in
        ap (λ (z : ℕ). take z (put t (slot_words * to) (words_of (take j (behind t from n))))) k ∙ put_head t (slot_words * to) (words_of (take j (behind t from n))) fits
        ∙ ap (λ (z : List ℕ). z ++ words_of (take j (behind t from n))) (words-front to t (omega arith)) ∙ sym (words_append (slots_of to t) (take j (behind t from n)))) in
        let ly : length y ≡ length t = ap length is-put ∙ length-put t (slot_words * to) (words_of (take j (behind t from n))) fits in
        record {
          long = ly;
          order = omega arith;
          within = omega arith;
          passed = rw q (omega arith);
          kept = rw q (omega arith);
          front = rw q (front-is y (to + j) c x lc (omega arith));
          after = ap (drop (slot_words * (from + j + 1))) is-put ∙ put-past t (slot_words * to) (words_of (take j (behind t from n))) fits (slot_words * (from + j + 1)) (omega arith);
        }
      where
        front-is : (y : List ℕ) (m : ℕ) (c : List Slot) → take (slot_words * m) y ≡ words_of c → length c ≡ m → slot_words * m ≤ length y → slots_of m y ≡ c
        front-is y m c x l h = sym (slots_at (slots_of m y) [] m (slots_length m y)) ∙ ap (λ (w : List ℕ). slots_of m (w ++ [])) (sym (words-front m y h) ∙ x) ∙ slots_at c [] m l

-- ---- all of them

-- the slots before the gap, and what is still to be taken out of those behind it, are what is taken out of all
pub record Taking (log t : List ℕ) (n : ℕ) (ps : List Slot) (x : List ℕ) (to from p : ℕ) : Type 0 where
  pub long : length x ≡ length t
  pub order : to ≤ from
  pub within : from ≤ n
  pub upto : p ≤ length ps
  pub after : drop (slot_words * from) x ≡ drop (slot_words * from) t
  pub exact : Sorted log (slots_of n t) → Sorted log ps → cuts log ps (slots_of n t) ≡ slots_of to x ++ cuts log (drop p ps) (behind x from n)

pub taking_start : (log t : List ℕ) (n : ℕ) (ps : List Slot) → Taking log t n ps t 0 0 0
unfolding slots_of behind
taking_start log t n ps = record {
  long = refl;
  order = omega arith;
  within = omega arith;
  upto = omega arith;
  after = refl;
  exact = λ s q. (let e : n ≡ n - 0 = omega arith in ap (λ (k : ℕ). cuts log ps (slots_of k t)) e);
}

-- the slots behind the gap stand as they stood
behind-same : (t x : List ℕ) (from n : ℕ) → drop (slot_words * from) x ≡ drop (slot_words * from) t → from ≤ n → behind x from n ≡ drop from (slots_of n t)
unfolding behind
behind-same t x from n e h = ap (slots_of (n - from)) e ∙ behind-is t from n h

-- a turn, on slots
module _ (log : List ℕ) (p : Slot) (ps rest : List Slot) (s : Sorted log rest) where
  cuts_turn_on : (f : Result ℕ ℕ) → place_in log (key_of log p) rest ≡ f → Sorted log (p ∷ ps) → cuts log (p ∷ ps) rest ≡ take (kept_by f) rest ++ cuts log ps (drop (passed_by f) rest)
  unfolding cuts remove_at
  cuts_turn_on (Ok j) e (sorted_more a q) =
      let u : Under log (key_of log p) (take j rest) = rw e at (place_under log (key_of log p) rest) in
      rw e (cuts-behind log ps (take j rest) (drop (suc j) rest) (all-turn (λ x h. under_trans log (key_of log p) (key_of log x) h u) a))
  cuts_turn_on (Err j) e q = rw e

  cuts-turn : Sorted log (p ∷ ps) → cuts log (p ∷ ps) rest ≡ take (kept_by (place_of log (key_of log p) rest)) rest ++ cuts log ps (drop (passed_by (place_of log (key_of log p) rest)) rest)
  cuts-turn q = rw (place-sorted log (key_of log p) rest s) (cuts_turn_on (place_in log (key_of log p) rest) refl q)

module _ {log t : List ℕ} {n : ℕ} {ps : List Slot} {x : List ℕ} {to from p : ℕ} (w : Taking log t n ps x to from p) where
  pub taking_turn : (s : Slot) (key : List ℕ) (to' from' : ℕ) (x' : List ℕ) → p < length ps → s ≡ get_or ps p free_slot → key ≡ key_of log s
      → TakesOne log x n to from key to' from' x' → Taking log t n ps x' to' from' (p + 1)
  taking_turn s key to' from' x' h es ek v =
      let fr : from ≤ from' = omega (arith, v.passed) in
      let a : drop (slot_words * from') x' ≡ drop (slot_words * from') t = v.after ∙ further from from' fr x w.after in
      record {
        long = v.long ∙ w.long;
        order = v.order;
        within = v.within;
        upto = omega arith;
        after = a;
        exact = λ so q. w.exact so q ∙ exactly so q;
      }
    where
      further : (from from' : ℕ) → from ≤ from' → (x : List ℕ) → drop (slot_words * from) x ≡ drop (slot_words * from) t → drop (slot_words * from') x ≡ drop (slot_words * from') t
      further from from' l x e =
          let m : slot_words * from' ≡ slot_words * from + slot_words * (from' - from) = omega arith in
          rw (m, ← drop-drop (slot_words * (from' - from)) (slot_words * from) x, ← drop-drop (slot_words * (from' - from)) (slot_words * from) t) (ap (drop (slot_words * (from' - from))) e)

      exactly : Sorted log (slots_of n t) → Sorted log ps → slots_of to x ++ cuts log (drop p ps) (behind x from n) ≡ slots_of to' x' ++ cuts log (drop (p + 1) ps) (behind x' from' n)
      exactly so q =
          let r : List Slot = behind x from n in
          let fr : from ≤ from' = omega (arith, v.passed) in
          let f : (Result ℕ ℕ) = place_of log key r in
          let sr : Sorted log r = subst (λ (z : List Slot). Sorted log z) (sym (behind-same t x from n w.after w.within)) (sorted-drop log from so) in
          let dp : drop p ps ≡ get_or ps p free_slot ∷ drop (suc p) ps = drop-cons ps p free_slot h in
          let sp : Sorted log (get_or ps p free_slot ∷ drop (suc p) ps) = subst (λ (z : List Slot). Sorted log z) dp (sorted-drop log p q) in
          let ke : key ≡ key_of log (get_or ps p free_slot) = ek ∙ ap (key_of log) es in
          let b : behind x' from' n ≡ drop (passed_by f) r = behind-same x x' from' n v.after v.within
          ∙ ap (λ (k : ℕ). drop k (slots_of n x)) v.passed ∙ sym (drop-drop (passed_by f) from (slots_of n x)) ∙ ap (drop (passed_by f)) (sym (behind-is x from n w.within)) in
          let pe : p + 1 ≡ suc p = omega arith in
          ap (λ (z : List Slot). slots_of to x ++ cuts log z r) dp
          ∙ ap (λ (z : List Slot). slots_of to x ++ z) (cuts-turn log (get_or ps p free_slot) (drop (suc p) ps) r sr sp
          ∙ ap (λ (k : List ℕ). take (kept_by (place_of log k r)) r ++ cuts log (drop (suc p) ps) (drop (passed_by (place_of log k r)) r)) (sym ke))
          ∙ sym (append_assoc (slots_of to x) (take (kept_by f) r) (cuts log (drop (suc p) ps) (drop (passed_by f) r)))
          ∙ ap (λ (z : List Slot). z ++ cuts log (drop (suc p) ps) (drop (passed_by f) r)) (sym v.front)
          ∙ ap (λ (z : List Slot). slots_of to' x' ++ cuts log (drop (suc p) ps) z) (sym b)
          ∙ ap (λ (k : ℕ). slots_of to' x' ++ cuts log (drop k ps) (behind x' from' n)) (sym pe)

  -- the end: the last slots moved down, and the words freed cleared
  module _ (room : slot_words * n ≤ length t) (over : length ps ≤ p) {y z : List ℕ}
      (ey : y ≡ copied x (slot_words * from) (slot_words * n) (slot_words * to)) (ez : z ≡ put y (slot_words * (to + (n - from))) (replicate (slot_words * n - slot_words * (to + (n - from))) 0)) where
    abbrev c : List Slot
    c = slots_of to x ++ behind x from n

    long_c : length c ≡ to + (n - from)
    long_c = length-append (slots_of to x) (behind x from n) ∙ (let a = slots_length to x in let b = behind-length x from n in omega arith)

    moved_all : slice (slot_words * from) (slot_words * n) x ≡ words_of (behind x from n)
    unfolding behind
    moved_all =
        let k : slot_words * n ≡ slot_words * from + slot_words * (n - from) = omega (arith, w.within) in
        let l = length-drop (slot_words * from) x in
        let lx = w.long in
        ap (λ (m : ℕ). slice (slot_words * from) m x) k ∙ slice_is (slot_words * from) (slot_words * (n - from)) x (omega (arith, w.within))
        ∙ words-front (n - from) (drop (slot_words * from) x) (omega (arith, w.within))

    y_put : y ≡ put x (slot_words * to) (words_of (behind x from n))
    unfolding copied
    y_put = ey ∙ ap (put x (slot_words * to)) moved_all

    y_long : length (words_of (behind x from n)) ≡ slot_words * (n - from)
    y_long = words-length (behind x from n) ∙ ap (λ (k : ℕ). slot_words * k) (behind-length x from n)

    y_fits : slot_words * to + length (words_of (behind x from n)) ≤ length x
    y_fits = omega (arith, y_long, w.within, w.order, w.long)

    z_is : z ≡ laid n c t
    unfolding laid put
    z_is =
        let m : ℕ = to + (n - from) in
        let lm : slot_words * m ≡ slot_words * to + length (words_of (behind x from n)) = omega (arith, y_long) in
        let hm : m ≤ n = omega (arith, w.within, w.order) in
        let a : take (slot_words * m) y ≡ words_of c = ap (take (slot_words * m)) y_put ∙ ap (λ (k : ℕ). take k (put x (slot_words * to) (words_of (behind x from n)))) lm
        ∙ put_head x (slot_words * to) (words_of (behind x from n)) y_fits
        ∙ ap (λ (u : List ℕ). u ++ words_of (behind x from n)) (words-front to x (omega (arith, w.within, w.order, w.long))) ∙ sym (words_append (slots_of to x) (behind x from n)) in
        let b : drop (slot_words * n) y ≡ drop (slot_words * n) t = ap (drop (slot_words * n)) y_put
        ∙ put-past x (slot_words * to) (words_of (behind x from n)) y_fits (slot_words * n) (omega (arith, y_long, w.within, w.order)) ∙ past in
        let lr = length-replicate {A = ℕ} (slot_words * n - slot_words * m) 0 in
        let e₁ : slot_words * m + length (replicate {A = ℕ} (slot_words * n - slot_words * m) 0) ≡ slot_words * n = omega arith in
        let e₂ : slot_words * (n - length c) ≡ slot_words * n - slot_words * m = omega (arith, long_c) in
        let e₃ : slot_words * max n (length c) ≡ slot_words * n = omega (arith, long_c) in
        ez ∙ rw (a, e₁, b, e₂, e₃) (append_assoc (words_of c) (replicate {A = ℕ} (slot_words * n - slot_words * m) 0) (drop (slot_words * n) t))
      where
        past : drop (slot_words * n) x ≡ drop (slot_words * n) t
        past =
            let m : slot_words * n ≡ slot_words * from + slot_words * (n - from) = omega (arith, w.within) in
            rw (m, ← drop-drop (slot_words * (n - from)) (slot_words * from) x, ← drop-drop (slot_words * (n - from)) (slot_words * from) t) (ap (drop (slot_words * (n - from))) w.after)

    pub taking_end : TakesAll log t n ps (to + (n - from)) z
    unfolding cuts
    taking_end =
        let pe : p ≡ length ps = omega (arith, w.upto) in
        record {
          within = omega (arith, w.within, w.order);
          exact = λ so q.
              let e : cuts log ps (slots_of n t) ≡ c = w.exact so q ∙ ap (λ (k : ℕ). slots_of to x ++ cuts log (drop k ps) (behind x from n)) pe
              ∙ ap (λ (u : List Slot). slots_of to x ++ cuts log u (behind x from n)) (drop-length ps) in
              subst (λ (u : List Slot). Becomes t n u z (to + (n - from))) (sym e) (record { count = sym long_c; words = z_is });
        }
