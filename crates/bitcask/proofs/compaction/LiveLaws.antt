-- Laws of the live bytes: the sum that stops at a cap, for any words; on a table that agrees with its log it is the map's, and the
-- status counts the map. Assumes nothing.
use Prim.Native.Nat.{ℕ, ◌+◌, ◌-◌, ◌*◌, ◌≤◌, ◌<◌}
use mathlib.Core.Path.{◌≡◌, refl, sym, ap, ◌∙◌}
use mathlib.Core.Bool.{Bool, true, false}
use mathlib.Core.List.{List, [], ◌∷◌}
use native.Mathlib.Omega.{arith}
use native.Mathlib.Numerals.{add-one}
use lib.Dec.{leb}
use lib.ListN.{length, drop, length-take, length-drop, drop_of_length-le}
use lib.Seq.{drop-cons}
use borrow.Author.Tests.{le-leb, lt-leb, leb-true, leb-false}
use Rattle.std.specs.Prelude.{Option, ℕ, Some, None, Ok, Err}
use Rattle.keycode.specs.Tests.{pick}
use Rattle.keycode.specs.declared.refusal.Refusal.TheVariants.{BadRequest}
use Rattle.keycode.proofs.Basics.{nope}
use Rattle.bitcask.specs.declared.keydir.slots.Slot.{Slot}
use Rattle.bitcask.specs.keydir.Slots.{free_slot, slot_at, slots_of, key_of, value_of}
use Rattle.bitcask.specs.keydir.Place.{All, all_none, all_more, count_of}
use Rattle.bitcask.proofs.keydir.SlotLaws.{slots_length, slot_at_is}
use Rattle.bitcask.specs.recovery.Map.{Pair}
use Rattle.bitcask.specs.recovery.Recover.{live, view, map_of}
use Rattle.bitcask.specs.recovery.Agree.{fit, Agrees}
use Rattle.bitcask.proofs.recovery.FoldLaws.{Inside, recovered-inside, recovered-live, live-count}
use Rattle.bitcask.proofs.recovery.AgreeLaws.{agrees-sound, agrees-count, agrees-slots, map-length}
use Rattle.bitcask.specs.declared.report.Counts.{Counts}
use Rattle.bitcask.specs.change.Append.{size_all}
use Rattle.bitcask.specs.compaction.Compaction.{entries_of, contents, capped}
use Rattle.bitcask.specs.compaction.Promises.{counts_of, Counting}

-- ---- the sum

module _ (cap n : ℕ) where
  within_cap : n ≤ cap → Some n ≡ capped cap n
  unfolding capped
  within_cap h = rw (le-leb n cap h)

  over_cap : cap < n → None ≡ capped cap n
  unfolding capped
  over_cap h = rw (lt-leb n cap h)

  pub total_says : (l : ℕ) → Some l ≡ capped cap n → (l ≡ n) × (n ≤ cap)
  unfolding capped
  total_says l e = go (leb n cap) refl e
    where
      go : (b : Bool) → leb n cap ≡ b → Some l ≡ pick b (Some n) None → (l ≡ n) × (n ≤ cap)
      go true t p = (cc, leb-true n cap t)
      go false t p = nope (cc)

  pub over-says : None ≡ capped cap n → cap < n
  unfolding capped
  over-says e = go (leb n cap) refl e
    where
      go : (b : Bool) → leb n cap ≡ b → None ≡ pick b (Some n) None → cap < n
      go true t p = nope (cc)
      go false t p = leb-false n cap t

-- so far the entries of the first i slots are summed
pub record Summing (t : List ℕ) (n cap total i : ℕ) : Type 0 where
  pub near : i ≤ n
  pub small : total ≤ cap
  pub rest : total + live (drop i (slots_of n t)) ≡ live (slots_of n t)

pub sum_start : (t : List ℕ) (n cap : ℕ) → Summing t n cap 0 0
sum_start t n cap = record { near = omega arith; small = omega arith; rest = omega arith }

module _ {t : List ℕ} {n cap total i : ℕ} (w : Summing t n cap total i) where
  pub sum_end : n ≤ i → Some total ≡ capped cap (live (slots_of n t))
  unfolding live
  sum_end h =
      let l = slots_length n t in
      let d : drop i (slots_of n t) ≡ [] = drop_of_length-le (slots_of n t) {i = i} (omega arith) in
      let z : live (drop i (slots_of n t)) ≡ 0 = ap live d in
      let e : total ≡ live (slots_of n t) = omega (arith, w.rest) in
      rw e (within_cap cap (live (slots_of n t)) (omega (arith, w.small)))

  module _ (m : ℕ) {s : Slot} (here : i < n) (es : s ≡ slot_at t i) (em : m ≡ 8 + s.klen + s.vlen) where
    sum-next : live (drop i (slots_of n t)) ≡ m + live (drop (i + 1) (slots_of n t))
    unfolding live
    sum-next =
        let l = slots_length n t in
        rw (add-one, drop-cons (slots_of n t) i free_slot (omega arith), ← slot_at_is n t i here, ← es, em)

    pub sum_over : cap - total < m → None ≡ capped cap (live (slots_of n t))
    sum_over h = over_cap cap (live (slots_of n t)) (omega (arith, sum-next, w.rest))

    pub sum_more : m ≤ cap - total → Summing t n cap (total + m) (i + 1)
    sum_more h = record { near = omega arith; small = omega (arith, w.small); rest = omega (arith, sum-next, w.rest) }

-- ---- of the map

pub sizes_are : (m : List Pair) → size_all (entries_of m) ≡ contents m + 8 * length m
unfolding size_all entries_of contents
sizes_are [] = refl
sizes_are (q ∷ m) = let e = sizes_are m in omega arith

module _ (log : List ℕ) where
  -- readers cut a key and a value where the log ends: of any slots the entries are no longer than the words say
  pub sizes_live : (ss : List Slot) → size_all (entries_of (view log ss)) ≤ live ss
  unfolding size_all entries_of view live key_of value_of
  sizes_live [] = omega arith
  sizes_live (s ∷ ss) = let e = sizes_live ss in simp (length-take, length-drop) (omega arith)

  -- and of slots inside the log they are as long
  inside-live : (used : ℕ) → used ≤ length log → {ss : List Slot} → All (Inside used) ss → live ss ≡ size_all (entries_of (view log ss))
  unfolding size_all entries_of view live key_of value_of
  inside-live used h all_none = refl
  inside-live used h (all_more p a) = let e = inside-live used h a in let w = p.within in simp (length-take, length-drop) (omega arith)

module _ (log : List ℕ) (used : ℕ) (t : List ℕ) (g : Agrees log used t) where
  pub agrees-live : live (slots_of (count_of t) t) ≡ size_all (entries_of (map_of log used))
  unfolding map_of
  agrees-live = ap live (agrees-slots log used t g) ∙ inside-live log used (agrees-sound log used t g).within (recovered-inside log used)

  pub agrees_cap : live (slots_of (count_of t) t) ≤ used
  agrees_cap = rw (agrees-slots log used t g) (recovered-live log used)

-- ---- the status

module _ (log : List ℕ) (used : ℕ) (t : List ℕ) where
  pub counting-bad : fit (length log) used (length t) ≡ false → Counting log used t (Err BadRequest)
  counting-bad f = record { bad = rw f; answer = λ g. nope (cc (g.sound, f)) }

  module _ (fine : fit (length log) used (length t) ≡ true) {n : ℕ} (en : n ≡ count_of t) {s : Option ℕ} (es : s ≡ capped used (live (slots_of n t))) where
    pub counting-over : (c : Counts) → s ≡ None → Counting log used t (Ok c)
    counting-over c e =
        let h : used < live (slots_of n t) = over-says used (live (slots_of n t)) (sym e ∙ es) in
        record { bad = rw fine; answer = λ g. let k = agrees_cap log used t g in let q : live (slots_of n t) ≡ live (slots_of (count_of t) t) = rw en in absurd (omega arith) }

    module _ (l : ℕ) (e : s ≡ Some l) where
      pub counting-room : 8 * n ≤ l
      counting-room =
          let h = total_says used (live (slots_of n t)) l (sym e ∙ es) in
          let k = live-count (slots_of n t) in
          omega (arith, slots_length n t, h.0)

      pub counting_done : Counting log used t (Ok (record { keys = n; size = l - 8 * n; used = used; live = l }))
      unfolding counts_of
      counting_done = record {
        bad = rw fine;
        answer = λ g.
            let h = total_says used (live (slots_of n t)) l (sym e ∙ es) in
            let q : live (slots_of n t) ≡ live (slots_of (count_of t) t) = rw en in
            let a = agrees-live log used t g in
            let b = sizes_are (map_of log used) in
            let k : n ≡ length (map_of log used) = en ∙ agrees-count log used t g ∙ sym (map-length log used) in
            let x : l ≡ contents (map_of log used) + 8 * length (map_of log used) = omega (arith, h.0) in
            let y : l - 8 * n ≡ contents (map_of log used) = omega arith in
            λ j. Ok (record { keys = k j; size = y j; used = used; live = x j });
      }
