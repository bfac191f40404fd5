-- Laws of both passes: what they leave together. Assumes nothing.
use Prim.Native.Nat.{ℕ, zero, suc, ◌+◌, ◌-◌, ◌*◌, ◌/◌, ◌≤◌, ◌<◌, max}
use mathlib.Core.Path.{◌≡◌, sym, ap, ◌∙◌, subst}
use mathlib.Core.List.{List, ◌++◌}
use native.Mathlib.Omega.{arith}
use lib.ListN.{length, drop, replicate}
use lib.Seq.{drop-drop, drop-append-add}
use Rattle.bitcask.specs.declared.keydir.slots.Slot.{Slot}
use Rattle.bitcask.specs.keydir.Slots.{slot_words, slots_of, words_of}
use Rattle.bitcask.specs.keydir.Place.{Sorted, laid, Becomes}
use Rattle.bitcask.proofs.keydir.SlotLaws.{words-length}
use Rattle.bitcask.specs.merging.Merge.{cuts, lays, merged, news}
use Rattle.bitcask.specs.merging.Passes.{TakesAll, PutsAll, Flushes}
use Rattle.bitcask.proofs.merging.MergeLaws.{cuts-sorted, lays-length}
use Rattle.bitcask.proofs.merging.PartLaws.{slots_at}

-- ---- both passes

drop-zeros : (c a : ℕ) (d : List ℕ) → drop c (replicate {A = ℕ} a 0 ++ d) ≡ replicate {A = ℕ} (a - c) 0 ++ drop (c - a) d
drop-zeros zero a d = (let e : a ≡ a - 0 = omega arith in let f : 0 ≡ 0 - a = omega arith in ap (λ (k : ℕ). replicate {A = ℕ} k 0 ++ d) e
    ∙ ap (λ (k : ℕ). replicate {A = ℕ} (a - 0) 0 ++ drop k d) f)
drop-zeros (suc c) zero d = (let e : 0 ≡ 0 - suc c = omega arith in let f : suc c ≡ suc c - 0 = omega arith in ap (λ (k : ℕ). replicate {A = ℕ} k 0 ++ drop
    (suc c) d) e ∙ ap (λ (k : ℕ). replicate {A = ℕ} (0 - suc c) 0 ++ drop k d) f)
drop-zeros (suc c) (suc a) d = (let e : a - c ≡ suc a - suc c = omega arith in let f : c - a ≡ suc c - suc a = omega arith in drop-zeros c a d
    ∙ ap (λ (k : ℕ). replicate {A = ℕ} k 0 ++ drop (c - a) d) e ∙ ap (λ (k : ℕ). replicate {A = ℕ} (suc a - suc c) 0 ++ drop k d) f)

laid_with : (t y : List ℕ) (n m k : ℕ) (ms : List Slot) → length ms ≡ m + k → drop (slot_words * (m + k)) y ≡ replicate (slot_words * (n - (m + k))) 0 ++ drop (slot_words * max n (m + k)) t
    → words_of ms ++ drop (slot_words * (m + k)) y ≡ laid n ms t
unfolding laid
laid_with t y n m k ms l e = rw (l, e)

module _ (log t : List ℕ) (n : ℕ) (ps : List Slot) (room : slot_words * n ≤ length t) {m k : ℕ} {y : List ℕ} (w : TakesAll log t n ps m y) (ly : length y ≡ length t) (ek : k ≡ news ps) where
  -- the slots left by the first pass
  left_slots : Becomes t n (cuts log ps (slots_of n t)) y m → slots_of m y ≡ cuts log ps (slots_of n t)
  unfolding laid
  left_slots b = ap (slots_of m) b.words
      ∙ slots_at (cuts log ps (slots_of n t)) (replicate (slot_words * (n - length (cuts log ps (slots_of n t)))) 0 ++ drop (slot_words * max n (length (cuts log ps
      (slots_of n t)))) t) m (sym b.count)

  merged-length : Becomes t n (cuts log ps (slots_of n t)) y m → length (merged log ps (slots_of n t)) ≡ m + k
  unfolding merged
  merged-length b = lays-length log ps (cuts log ps (slots_of n t)) ∙ omega (arith, b.count)

  -- what the second pass leaves is laid as of the first table
  laid-again : Becomes t n (cuts log ps (slots_of n t)) y m → drop (slot_words * (m + k)) y ≡ replicate (slot_words * (n - (m + k))) 0 ++ drop (slot_words * max n (m + k)) t
  unfolding laid
  laid-again b =
      let c : List Slot = cuts log ps (slots_of n t) in
      let a : ℕ = slot_words * (n - length c) in
      let d : List ℕ = drop (slot_words * max n (length c)) t in
      let lw : length (words_of c) ≡ slot_words * m = words-length c ∙ omega (arith, b.count) in
      let e : slot_words * (m + k) ≡ length (words_of c) + slot_words * k = omega arith in
      let hm = w.within in
      let cm = b.count in
      let f : a - slot_words * k ≡ slot_words * (n - (m + k)) = omega arith in
      let g : slot_words * max n (length c) + (slot_words * k - a) ≡ slot_words * max n (m + k) = omega arith in
      ap (drop (slot_words * (m + k))) b.words ∙ ap (λ (i : ℕ). drop i (words_of c ++ (replicate a 0 ++ d))) e ∙ drop-append-add (words_of c) (replicate a 0 ++ d) (slot_words * k)
      ∙ drop-zeros (slot_words * k) a d ∙ ap (λ (i : ℕ). replicate i 0 ++ drop (slot_words * k - a) d) f
      ∙ ap (λ (u : List ℕ). replicate (slot_words * (n - (m + k))) 0 ++ u) (drop-drop (slot_words * k - a) (slot_words * max n (length c)) t ∙ ap (λ (i : ℕ). drop i t) g)

  all_laid : Becomes t n (cuts log ps (slots_of n t)) y m → words_of (lays log ps (cuts log ps (slots_of n t))) ++ drop (slot_words * (m + k)) y ≡ laid n (merged log ps (slots_of n t)) t
  unfolding merged
  all_laid b = laid_with t y n m k (lays log ps (cuts log ps (slots_of n t))) (merged-length b) (laid-again b)

  pub flush_full : length y / slot_words < m + k → Flushes log t n ps m y
  flush_full h = record {
    within = omega (arith, w.within);
    exact = λ so sp fits. absurd (omega (arith, merged-length (w.exact so sp)));
  }

  pub flush_done : {z : List ℕ} → m + k ≤ length y / slot_words → length z ≡ length y → PutsAll log y m ps z → Flushes log t n ps (m + k) z
  flush_done {z} h lz v = record {
    within = omega arith;
    exact = λ so sp fits. done (w.exact so sp) so sp;
  }
    where
      done : Becomes t n (cuts log ps (slots_of n t)) y m → Sorted log (slots_of n t) → Sorted log ps → Becomes t n (merged log ps (slots_of n t)) z (m + k)
      done b so sp =
          let c : List Slot = cuts log ps (slots_of n t) in
          let q : slots_of m y ≡ c = left_slots b in
          let e : z ≡ words_of (lays log ps (slots_of m y)) ++ drop (slot_words * (m + news ps)) y = v.exact (subst (λ (x : List Slot). Sorted log x) (sym q)
          (cuts-sorted log ps (slots_of n t) so)) sp in
          record {
            count = sym (merged-length b);
            words = e ∙ ap (λ (x : List Slot). words_of (lays log ps x) ++ drop (slot_words * (m + news ps)) y) q
                ∙ ap (λ (i : ℕ). words_of (lays log ps c) ++ drop (slot_words * (m + i)) y) (sym ek) ∙ all_laid b;
          }
