-- Rows ended with tombstones, by what the code finds, for any table. Assumes nothing.
use Prim.Native.Nat.{ℕ, zero, suc, ◌+◌, ◌-◌, ◌*◌, ◌<◌, ◌≤◌, max}
use mathlib.Core.Path.{◌≡◌, refl, sym, ap, ◌∙◌}
use mathlib.Core.List.{List, [], ◌∷◌, ◌++◌}
use native.Mathlib.Omega.{arith}
use native.Mathlib.Numerals.{add-one}
use lib.ListN.{length, take, drop, get_or, replicate, drop_of_length-le, length-append, length-drop}
use lib.Seq.{drop-cons, get_or-take, length-take-le}
use borrow.Author.Tests.{le-leb, lt-leb, lt-ltb, le-ltb}
use Rattle.keycode.specs.Buffer.{put}
use Rattle.bitcask.specs.entry.Entry.{del, bytes_of}
use Rattle.bitcask.specs.declared.keydir.slots.Slot.{Slot}
use Rattle.bitcask.specs.keydir.Slots.{slot_words, free_slot, slot_head, slot_at, slots_of, words_of, key_of, remove_span}
use Rattle.bitcask.specs.keydir.Place.{laid}
use Rattle.bitcask.proofs.keydir.SlotLaws.{slots_length, slot_at_is}
use Rattle.bitcask.specs.change.Append.{State}
use Rattle.bitcask.specs.declared.engine.mark.Mark.{Mark}
use Rattle.bitcask.specs.declared.engine.spot.Spot.{Spot}
use Rattle.bitcask.specs.engine.Rows.{Row, rows}
use Rattle.bitcask.specs.engine.Spots.{rank}
use Rattle.bitcask.specs.engine.Endings.{Tail, tombed, tombed_all, span_slots, ended_span}
use Rattle.bitcask.proofs.engine.RowLaws.{rows-count}

module _ (log t : List ℕ) (m : Mark) (p : Spot) where
  pub to-within : rank p (rows log t m) ≤ length (rows log t m) → p.number ≤ m.count
  unfolding rank
  to-within h = omega (arith, rows-count log t m)

  pub behind-within : rank p (rows log t m) < length (rows log t m) → rank (record { number = p.number + 1 }) (rows log t m) ≤ length (rows log t m)
  unfolding rank
  behind-within h = omega arith

-- a mark that was moved on
pub used-is : (log t : List ℕ) (u v c : ℕ) {s : State} → v ≡ u → ◌≡◌ {A = State} (record { log = log; used = u; table = t; count = c }) s → ◌≡◌ {A = State} (record { log = log; used = v; table = t; count = c }) s
used-is log t u v c e f = ap (λ (n : ℕ). record { log = log; used = n; table = t; count = c }) e ∙ f

-- ---- one tombstone

module _ (log : List ℕ) (used : ℕ) (x : Slot) {p k : ℕ} (ep : p ≡ x.place + 7) (ek : k ≡ x.klen) where
  pub tomb_out : used < p + k → ◌≡◌ {A = Tail} (record { log = log; used = used }) (tombed (record { log = log; used = used }) x)
  unfolding tombed
  tomb_out h = rw (lt-leb (x.place + 7 + x.klen) used (omega (arith, ep, ek)))

  module _ (h : p + k ≤ used) where
    pub tomb_tight : length log < used + 8 + k → ◌≡◌ {A = Tail} (record { log = log; used = used }) (tombed (record { log = log; used = used }) x)
    unfolding tombed
    tomb_tight g = rw (le-leb (x.place + 7 + x.klen) used (omega (arith, ep, ek)), lt-leb (used + 8 + x.klen) (length log) (omega (arith, ek)))

    pub tomb_done : used + 8 + k ≤ length log → (log' : List ℕ) (u : ℕ) → log' ≡ put log used (bytes_of (del (take k (drop p log)))) → u ≡ used + 8 + k
        → ◌≡◌ {A = Tail} (record { log = log'; used = u }) (tombed (record { log = log; used = used }) x)
    unfolding tombed key_of
    tomb_done g log' u e q =
        rw (le-leb (x.place + 7 + x.klen) used (omega (arith, ep, ek)), le-leb (used + 8 + x.klen) (length log) (omega (arith, ek)), e, q, ep, ek)

-- ---- one after the other

pub span-next : (ss : List Slot) (i to : ℕ) → i < to → to ≤ length ss → span_slots i to ss ≡ get_or ss i free_slot ∷ span_slots (suc i) to ss
unfolding span_slots
span-next ss i to h k =
    let l : length (take to ss) ≡ to = length-take-le to ss k in
    drop-cons (take to ss) i free_slot (omega arith) ∙ ap (λ (x : Slot). x ∷ drop (suc i) (take to ss)) (get_or-take to ss i free_slot h)

pub span_end : (ss : List Slot) (i to : ℕ) → to ≤ i → to ≤ length ss → span_slots i to ss ≡ []
unfolding span_slots
span_end ss i to h k = let l : length (take to ss) ≡ to = length-take-le to ss k in drop_of_length-le (take to ss) {i = i} (omega arith)

-- the first slots of a table are those of a shorter count
slots-take : (m n : ℕ) (t : List ℕ) → m ≤ n → take m (slots_of n t) ≡ slots_of m t
unfolding slots_of
slots-take zero n t h = refl
slots-take (suc m) zero t h = absurd (omega arith)
slots-take (suc m) (suc n) t h = ap (λ (r : List Slot). slot_head t ∷ r) (slots-take m n (drop slot_words t) (omega arith))

span_of : (i to n : ℕ) (t : List ℕ) → to ≤ n → span_slots i to (slots_of to t) ≡ span_slots i to (slots_of n t)
unfolding span_slots
span_of i to n t h = let a : to ≤ to = omega arith in ap (drop i) (slots-take to to t a ∙ sym (slots-take to n t h))

-- the slots from number i on are still to be ended
pub record Laying (log₀ t : List ℕ) (used from to : ℕ) (log : List ℕ) (at i : ℕ) : Type 0 where
  pub rest : tombed_all (record { log = log₀; used = used }) (span_slots from to (slots_of to t)) ≡ tombed_all (record { log = log; used = at }) (span_slots i to (slots_of to t))
  pub long : length log ≡ length log₀
  pub within : at ≤ length log₀

pub lay_start : (log t : List ℕ) (used from to : ℕ) → used ≤ length log → Laying log t used from to log used from
lay_start log t used from to h = record { rest = refl; long = refl; within = h }

module _ {log₀ t : List ℕ} {used from to : ℕ} {log : List ℕ} {at i : ℕ} (w : Laying log₀ t used from to log at i) where
  pub lay_end : to ≤ i → (n : ℕ) → to ≤ n → ◌≡◌ {A = Tail} (record { log = log; used = at }) (tombed_all (record { log = log₀; used = used }) (span_slots from to (slots_of n t)))
  unfolding tombed_all
  lay_end h n k =
      sym (ap (tombed_all (record { log = log₀; used = used })) (sym (span_of from to n t k)) ∙ w.rest
      ∙ ap (tombed_all (record { log = log; used = at })) (span_end (slots_of to t) i to h (omega (arith, slots_length to t))))

  pub lay-next : i < to → {x : Slot} → x ≡ slot_at t i → {log' : List ℕ} {at' : ℕ} → ◌≡◌ {A = Tail} (record { log = log'; used = at' }) (tombed (record { log = log; used = at }) x) → length log' ≡ length log → at' ≤ length log
      → Laying log₀ t used from to log' at' (i + 1)
  unfolding tombed_all
  lay-next h {x} ex {log'} {at'} e l b =
      let y : x ≡ get_or (slots_of to t) i free_slot = ex ∙ slot_at_is to t i h in
      let q : span_slots i to (slots_of to t) ≡ x ∷ span_slots (i + 1) to (slots_of to t) =
      span-next (slots_of to t) i to h (omega (arith, slots_length to t)) ∙ ap (λ (z : Slot). z ∷ span_slots (suc i) to (slots_of to t)) (sym y) ∙ ap (λ (m : ℕ). x ∷ span_slots m to (slots_of to t)) (sym (add-one i)) in
      record {
        rest = w.rest ∙ ap (tombed_all (record { log = log; used = at })) q ∙ ap (λ (z : Tail). tombed_all z (span_slots (i + 1) to (slots_of to t))) (sym e);
        long = l ∙ w.long;
        within = omega (arith, w.long);
      }

-- ---- the slots out

module _ (t : List ℕ) (n i j : ℕ) (h : i ≤ j) (g : j ≤ n) where
  pub span-length : length (remove_span i j (slots_of n t)) ≡ n - (j - i)
  unfolding remove_span
  span-length =
      let l : length (slots_of n t) ≡ n = slots_length n t in
      let a : length (take i (slots_of n t)) ≡ i = length-take-le i (slots_of n t) (omega arith) in
      let b : length (drop j (slots_of n t)) ≡ length (slots_of n t) - j = length-drop j (slots_of n t) in
      length-append (take i (slots_of n t)) (drop j (slots_of n t)) ∙ omega (arith, a, b, l)

  pub span-laid : {t' : List ℕ} → t' ≡ words_of (remove_span i j (slots_of n t)) ++ (replicate (slot_words * (j - i)) 0 ++ drop (slot_words * n) t) → t' ≡ laid n (remove_span i j (slots_of n t)) t
  unfolding laid
  span-laid e =
      let a : slot_words * (n - length (remove_span i j (slots_of n t))) ≡ slot_words * (j - i) = omega (arith, span-length) in
      let b : slot_words * max n (length (remove_span i j (slots_of n t))) ≡ slot_words * n = omega (arith, span-length) in
      e ∙ rw (a, b)

module _ (log t : List ℕ) (used n : ℕ) (p q : Spot) (rs : List Row) where
  abbrev s : State
  s = record { log = log; used = used; table = t; count = n }

  pub ended-none : q.number ≤ p.number → s ≡ ended_span s (rank p rs) (rank q rs)
  unfolding ended_span rank
  ended-none h = rw (le-ltb p.number q.number h)

  pub ended_is : p.number < q.number → q.number ≤ n → (log' t' : List ℕ) (u c : ℕ)
      → ◌≡◌ {A = Tail} (record { log = log'; used = u }) (tombed_all (record { log = log; used = used }) (span_slots p.number q.number (slots_of n t)))
      → t' ≡ words_of (remove_span p.number q.number (slots_of n t)) ++ (replicate (slot_words * (q.number - p.number)) 0 ++ drop (slot_words * n) t)
      → (v : ℕ) → v ≡ u → c ≡ n - (q.number - p.number)
      → ◌≡◌ {A = State} (record { log = log'; used = v; table = t'; count = c }) (ended_span s (rank p rs) (rank q rs))
  unfolding ended_span rank
  ended_is h g log' t' u c e f v ev ec =
      let l : c ≡ length (remove_span p.number q.number (slots_of n t)) = ec ∙ sym (span-length t n p.number q.number (omega arith) g) in
      let m = span-laid t n p.number q.number (omega arith) g f in
      rw (lt-ltb p.number q.number h) (λ k. record { log = (e k).log; used = (ev ∙ ap (λ (z : Tail). z.used) e) k; table = m k; count = l k })

pub ended-next : (p : Spot) (rs : List Row) (s : State) {s' : State} → s' ≡ ended_span s (rank p rs) (rank (record { number = p.number + 1 }) rs) → s' ≡ ended_span s (rank p rs) (rank p rs + 1)
unfolding rank
ended-next p rs s e = e
