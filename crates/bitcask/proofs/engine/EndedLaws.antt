-- Where the rows' keys rise and lie in the entries, so under agreement, a span ended with one move is the tombstones of its rows appended
-- one after the other. Assumes nothing.
use Prim.Native.Nat.{ℕ, zero, suc, ◌+◌, ◌-◌, ◌*◌, ◌<◌, ◌≤◌, max}
use mathlib.Core.Path.{◌≡◌, refl, sym, ap, ◌∙◌, subst}
use mathlib.Core.List.{List, [], ◌∷◌, ◌++◌, append_assoc}
use native.Mathlib.Omega.{arith}
use native.Mathlib.Decide.{dec_lt}
use lib.Dec.{ltb}
use lib.ListN.{length, take, drop, replicate, length-append, length-drop, replicate-append-replicate}
use lib.Seq.{drop_at, length-take-le}
use borrow.Author.Tests.{lt-ltb, le-ltb}
use Rattle.std.specs.Prelude.{Result, ℕ, Ok}
use Rattle.std.specs.declared.cmp.Ordering.TheVariants.{Less}
use Rattle.keycode.specs.Tests.{pick}
use Rattle.keycode.specs.Order.{compare_bytes}
use Rattle.keycode.proofs.OrderLaws.{compare_refl}
use Rattle.keycode.proofs.BufferLaws.{length-put}
use Rattle.bitcask.specs.entry.Entry.{del, bytes_of}
use Rattle.bitcask.proofs.entry.EntryLaws.{length-bytes, laid-before}
use Rattle.bitcask.specs.declared.keydir.slots.Slot.{Slot}
use Rattle.bitcask.specs.keydir.Slots.{slot_words, slots_of, words_of, key_of, remove_at, remove_span}
use Rattle.bitcask.specs.keydir.Place.{place_of, place_in, further, cut_at, laid, All, all_none, all_more, Sorted, sorted_none, sorted_more}
use Rattle.bitcask.proofs.keydir.SlotLaws.{slots_length, words-length, words-slots}
use Rattle.bitcask.proofs.keydir.CountLaws.{count-within}
use Rattle.bitcask.proofs.keydir.PlaceLaws.{place-sorted}
use Rattle.bitcask.proofs.keydir.TableLaws.{laid-slots, laid-length}
use Rattle.bitcask.specs.recovery.Recover.{recovered}
use Rattle.bitcask.proofs.recovery.FoldLaws.{Inside, recovered-sorted, recovered-inside, key-same}
use Rattle.bitcask.proofs.recovery.AgreeLaws.{agrees-sound, agrees-slots}
use Rattle.bitcask.specs.change.Append.{State, appended, size_all}
use Rattle.bitcask.specs.declared.engine.mark.Mark.{Mark}
use Rattle.bitcask.specs.engine.Rows.{Row, row_of, rows_of, rows}
use Rattle.bitcask.specs.engine.Ranges.{rows_from}
use Rattle.bitcask.specs.engine.Marks.{Agreeing}
use Rattle.bitcask.specs.engine.Endings.{Tail, tail_of, tombed, tombed_all, span_slots, tombstones, appended_all, left_with, ended_span}
use Rattle.bitcask.proofs.engine.EndLaws.{tomb_done, span_end}

-- ---- lists of slots

all-at : {P : Slot → Type 0} (pre : List Slot) (x : Slot) (post : List Slot) → All P (pre ++ (x ∷ post)) → P x
all-at [] x post (all_more p a) = p
all-at (y ∷ pre) x post (all_more p a) = all-at pre x post a

-- without one of them
all_but : {P : Slot → Type 0} (pre : List Slot) (x : Slot) (post : List Slot) → All P (pre ++ (x ∷ post)) → All P (pre ++ post)
all_but [] x post (all_more p a) = a
all_but (y ∷ pre) x post (all_more p a) = all_more p (all_but pre x post a)

sorted_but : (log : List ℕ) (pre : List Slot) (x : Slot) (post : List Slot) → Sorted log (pre ++ (x ∷ post)) → Sorted log (pre ++ post)
sorted_but log [] x post (sorted_more a o) = o
sorted_but log (y ∷ pre) x post (sorted_more a o) = sorted_more (all_but pre x post a) (sorted_but log pre x post o)

all_mid : {P : Slot → Type 0} (pre xs post : List Slot) → All P (pre ++ (xs ++ post)) → All P xs
all_mid [] [] post a = all_none
all_mid [] (x ∷ xs) post (all_more p a) = all_more p (all_mid [] xs post a)
all_mid (y ∷ pre) xs post (all_more p a) = all_mid pre xs post a

inside_one : (u v : ℕ) → u ≤ v → {x : Slot} → Inside u x → Inside v x
inside_one u v h {x} i = record { taken = i.taken; within = omega (arith, i.within) }

inside_on : {u v : ℕ} → u ≤ v → {ss : List Slot} → All (Inside u) ss → All (Inside v) ss
inside_on h all_none = all_none
inside_on {u} {v} h (all_more i a) = all_more (inside_one u v h i) (inside_on h a)

-- a slot's own key is found at the slot
place_self : (log : List ℕ) (pre : List Slot) (x : Slot) (post : List Slot) → Sorted log (pre ++ (x ∷ post)) → place_in log (key_of log x) (pre ++ (x ∷ post)) ≡ Ok (length pre)
unfolding place_in
place_self log [] x post o = rw (compare_refl (key_of log x))
place_self log (y ∷ pre) x post (sorted_more a o) = rw (all-at pre x post a) (ap further (place_self log pre x post o))

remove_self : (pre : List Slot) (x : Slot) (post : List Slot) → remove_at (length pre) (pre ++ (x ∷ post)) ≡ pre ++ post
unfolding remove_at
remove_self [] x post = refl
remove_self (y ∷ pre) x post = ap (λ (r : List Slot). y ∷ r) (remove_self pre x post)

-- the key of a slot inside is as long as the slot says
inside-long : (log : List ℕ) (used : ℕ) (x : Slot) → used ≤ length log → Inside used x → length (key_of log x) ≡ x.klen
unfolding key_of
inside-long log used x h i = length-take-le x.klen (drop (x.place + 7) log) (rw (length-drop (x.place + 7) log) (omega (arith, i.within)))

-- ---- a log that has the same bytes below

module _ (log log' : List ℕ) (used : ℕ) (e : take used log ≡ take used log') where
  over-same : {s : Slot} → Inside used s → {ss : List Slot} → All (Inside used) ss → All (λ (x : Slot). compare_bytes (key_of log s) (key_of log x) ≡ Less) ss
      → All (λ (x : Slot). compare_bytes (key_of log' s) (key_of log' x) ≡ Less) ss
  over-same h all_none all_none = all_none
  over-same h (all_more i a) (all_more p b) =
      all_more (sym (λ j. compare_bytes (key-same log log' used e h j) (key-same log log' used e i j)) ∙ p) (over-same h a b)

  sorted-same : {ss : List Slot} → All (Inside used) ss → Sorted log ss → Sorted log' ss
  sorted-same all_none sorted_none = sorted_none
  sorted-same (all_more h a) (sorted_more b o) = sorted_more (over-same h a b) (sorted-same a o)

  tombs_same : {xs : List Slot} → All (Inside used) xs → tombstones (rows_of log xs) ≡ tombstones (rows_of log' xs)
  unfolding tombstones rows_of
  tombs_same all_none = refl
  tombs_same (all_more h a) = λ j. del (key-same log log' used e h j) ∷ tombs_same a j

-- ---- tables

-- a table that gets fewer slots, and then still fewer
laid_twice : (n : ℕ) (mid ss : List Slot) (t : List ℕ) → length ss ≤ length mid → length mid ≤ n → laid (length mid) ss (laid n mid t) ≡ laid n ss t
unfolding laid
laid_twice n mid ss t h k =
    let a : slot_words * max (length mid) (length ss) ≡ slot_words * length mid = omega arith in
    let b : slot_words * max n (length mid) ≡ slot_words * n = omega arith in
    let c : slot_words * max n (length ss) ≡ slot_words * n = omega arith in
    let d : slot_words * (length mid - length ss) + slot_words * (n - length mid) ≡ slot_words * (n - length ss) = omega arith in
    let r : List ℕ = replicate (slot_words * (n - length mid)) 0 ++ drop (slot_words * n) t in
    rw (
      a,
      b,
      c,
      drop_at (words_of mid) r (slot_words * length mid) (words-length mid),
      ← append_assoc (replicate {A = ℕ} (slot_words * (length mid - length ss)) 0) (replicate (slot_words * (n - length mid)) 0) (drop (slot_words * n) t),
      replicate-append-replicate {A = ℕ} (slot_words * (length mid - length ss)) (slot_words * (n - length mid)) 0,
      d,
    )

laid_same : (n : ℕ) (t : List ℕ) → slot_words * n ≤ length t → laid n (slots_of n t) t ≡ t
unfolding laid
laid_same n t h =
    let l : length (slots_of n t) ≡ n = slots_length n t in
    let a : slot_words * (n - length (slots_of n t)) ≡ 0 = omega arith in
    let b : slot_words * max n (length (slots_of n t)) ≡ slot_words * n = omega arith in
    rw (a, b) (words-slots n t h)

-- ---- one row

-- the store in which the keys of the slots ss rise and lie in the entries, and the table has them
record Risen (s : State) (ss : List Slot) : Type 0 where
  pub sorted : Sorted s.log ss
  pub inside : All (Inside s.used) ss
  pub slots : slots_of s.count s.table ≡ ss
  pub room : slot_words * s.count ≤ length s.table
  pub within : s.used ≤ length s.log

module _ (s : State) (pre : List Slot) (x : Slot) (post : List Slot) (w : Risen s (pre ++ (x ∷ post))) (fits : s.used + (8 + length (key_of s.log x)) ≤ length s.log) where
  abbrev k : List ℕ
  k = key_of s.log x

  here : Inside s.used x
  here = all-at pre x post w.inside

  key-long : length (key_of s.log x) ≡ x.klen
  key-long = inside-long s.log s.used x w.within here

  bytes_fit : s.used + length (bytes_of (del (key_of s.log x))) ≤ length s.log
  bytes_fit = omega (arith, length-bytes (del (key_of s.log x)))

  one_tail : tombed (tail_of s) x ≡ tail_of (appended s (del (key_of s.log x)))
  unfolding appended key_of
  one_tail =
      sym (tomb_done s.log s.used x refl refl (omega (arith, here.within)) (omega (arith, key-long)) (appended s (del (key_of s.log x))).log (appended s (del (key_of s.log x))).used refl (omega (arith, key-long)))

  one_long : length (appended s (del (key_of s.log x))).log ≡ length s.log
  unfolding appended
  one_long = length-put s.log s.used (bytes_of (del (key_of s.log x))) bytes_fit

  one_used : (appended s (del (key_of s.log x))).used ≡ s.used + (8 + length (key_of s.log x))
  unfolding appended
  one_used = omega arith

  one_same : take s.used s.log ≡ take s.used (appended s (del (key_of s.log x))).log
  unfolding appended
  one_same = sym (laid-before s.log s.used (bytes_of (del (key_of s.log x))) w.within)

  cut_is : cut_at (place_of s.log (key_of s.log x) (slots_of s.count s.table)) (slots_of s.count s.table) ≡ pre ++ post
  cut_is =
      ap (λ (ss : List Slot). cut_at (place_of s.log (key_of s.log x) ss) ss) w.slots
      ∙ ap (λ (f : Result ℕ ℕ). cut_at f (pre ++ (x ∷ post))) (place-sorted s.log (key_of s.log x) (pre ++ (x ∷ post)) w.sorted ∙ place_self s.log pre x post w.sorted)
      ∙ remove_self pre x post

  fewer : length (pre ++ post) + 1 ≡ s.count
  fewer = omega (arith, length-append pre post, length-append pre (x ∷ post), ap length w.slots, slots_length s.count s.table)

  one_table : (appended s (del (key_of s.log x))).table ≡ laid s.count (pre ++ post) s.table
  unfolding appended
  one_table = ap (λ (ss : List Slot). laid s.count ss s.table) cut_is

  one_count : (appended s (del (key_of s.log x))).count ≡ length (pre ++ post)
  unfolding appended
  one_count = ap length cut_is

  one_risen : Risen (appended s (del (key_of s.log x))) (pre ++ post)
  one_risen =
      let i : All (Inside s.used) (pre ++ post) = all_but pre x post w.inside in
      let l : length (laid s.count (pre ++ post) s.table) ≡ length s.table = laid-length s.count (pre ++ post) s.table w.room (omega (arith, fewer, w.room)) in
      record {
        sorted = sorted-same s.log (appended s (del (key_of s.log x))).log s.used one_same i (sorted_but s.log pre x post w.sorted);
        inside = inside_on (omega (arith, one_used)) i;
        slots = (λ j. slots_of (one_count j) (one_table j)) ∙ laid-slots s.count (pre ++ post) s.table;
        room = omega (arith, one_count, ap length one_table ∙ l, fewer, w.room);
        within = omega (arith, one_used, one_long);
      }

  -- what is left of the table then, with still fewer slots
  one_left : (e : Tail) (ss : List Slot) → length ss ≤ length (pre ++ post) → left_with (appended s (del (key_of s.log x))) e ss ≡ left_with s e ss
  one_left e ss h =
      let p : laid (appended s (del (key_of s.log x))).count ss (appended s (del (key_of s.log x))).table ≡ laid s.count ss s.table =
      (λ j. laid (one_count j) ss (one_table j)) ∙ laid_twice s.count (pre ++ post) ss s.table h (omega (arith, fewer)) in
      λ j. record { log = e.log; used = e.used; table = p j; count = length ss }

-- ---- the rows of a span

none_left : (s : State) (ss : List Slot) → Risen s ss → left_with s (tail_of s) ss ≡ s
none_left s ss w =
    let p : laid s.count ss s.table ≡ s.table = ap (λ (r : List Slot). laid s.count r s.table) (sym w.slots) ∙ laid_same s.count s.table w.room in
    let q : length ss ≡ s.count = sym (ap length w.slots) ∙ slots_length s.count s.table in
    λ j. record { log = s.log; used = s.used; table = p j; count = q j }

-- the slots xs, which stand between pre and post
all-ended : (xs : List Slot) (s : State) (pre post : List Slot) → Risen s (pre ++ (xs ++ post)) → s.used + size_all (tombstones (rows_of s.log xs)) ≤ length s.log
    → left_with s (tombed_all (tail_of s) xs) (pre ++ post) ≡ appended_all s (tombstones (rows_of s.log xs))
unfolding tombed_all tombstones rows_of appended_all size_all
all-ended [] s pre post w fits = none_left s (pre ++ post) w
all-ended (x ∷ xs) s pre post w fits =
    let r : s.used + (8 + length (key_of s.log x)) ≤ length s.log = omega arith in
    let d : tombstones (rows_of s.log xs) ≡ tombstones (rows_of (appended s (del (key_of s.log x))).log xs) =
    tombs_same s.log (appended s (del (key_of s.log x))).log s.used (one_same s pre x (xs ++ post) w r) (all_mid pre xs post (all_but pre x (xs ++ post) w.inside)) in
    let q : size_all (tombstones (rows_of (appended s (del (key_of s.log x))).log xs)) ≡ size_all (tombstones (rows_of s.log xs)) = ap size_all (sym d) in
    let m : length (pre ++ post) ≤ length (pre ++ (xs ++ post)) = omega (arith, length-append pre post, length-append pre (xs ++ post), length-append xs post) in
    ap (λ (e : Tail). left_with s (tombed_all e xs) (pre ++ post)) (one_tail s pre x (xs ++ post) w r)
    ∙ sym (one_left s pre x (xs ++ post) w r (tombed_all (tail_of (appended s (del (key_of s.log x)))) xs) (pre ++ post) m)
    ∙ all-ended xs (appended s (del (key_of s.log x))) pre post (one_risen s pre x (xs ++ post) w r)
    (omega (arith, q, one_used s pre x (xs ++ post) w r, one_long s pre x (xs ++ post) w r))
    ∙ ap (appended_all (appended s (del (key_of s.log x)))) (sym d)

-- ---- a span of rows, under agreement

split : (i j : ℕ) (ss : List Slot) → i ≤ j → ss ≡ take i ss ++ (drop i (take j ss) ++ drop j ss)
split zero zero ss h = refl
split zero (suc j) [] h = refl
split zero (suc j) (x ∷ ss) h = ap (λ (r : List Slot). x ∷ r) (split zero j ss (omega arith))
split (suc i) zero ss h = absurd (omega arith)
split (suc i) (suc j) [] h = refl
split (suc i) (suc j) (x ∷ ss) h = ap (λ (r : List Slot). x ∷ r) (split i j ss (omega arith))

rows_take : (log : List ℕ) (j : ℕ) (ss : List Slot) → take j (rows_of log ss) ≡ rows_of log (take j ss)
unfolding rows_of
rows_take log zero ss = refl
rows_take log (suc j) [] = refl
rows_take log (suc j) (x ∷ ss) = ap (λ (r : List Row). row_of log x ∷ r) (rows_take log j ss)

rows_drop : (log : List ℕ) (i : ℕ) (ss : List Slot) → drop i (rows_of log ss) ≡ rows_of log (drop i ss)
unfolding rows_of
rows_drop log zero ss = refl
rows_drop log (suc i) [] = refl
rows_drop log (suc i) (x ∷ ss) = rows_drop log i ss

rows-span : (log : List ℕ) (i j : ℕ) (ss : List Slot) → rows_from i j (rows_of log ss) ≡ rows_of log (span_slots i j ss)
unfolding rows_from span_slots
rows-span log i j ss = ap (drop i) (rows_take log j ss) ∙ rows_drop log i (take j ss)

none-ended : (log : List ℕ) (s : State) (xs : List Slot) → xs ≡ [] → s ≡ appended_all s (tombstones (rows_of log xs))
unfolding appended_all tombstones rows_of
none-ended log s xs e = rw e

module _ (log t : List ℕ) (m : Mark) (g : Agreeing log t m) (i j : ℕ) (h : j ≤ m.count) where
  abbrev s : State
  s = record { log = log; used = m.used.len; table = t; count = m.count }

  abbrev ss : List Slot
  ss = slots_of m.count t

  slots_are : recovered log m.used.len ≡ slots_of m.count t
  slots_are = sym (agrees-slots log m.used.len t g.agrees) ∙ ap (λ (n : ℕ). slots_of n t) (sym g.count)

  risen : Risen s ss
  risen =
      record {
        sorted = subst (Sorted log) slots_are (recovered-sorted log m.used.len);
        inside = subst (All (Inside m.used.len)) slots_are (recovered-inside log m.used.len);
        slots = refl;
        room = rw g.count (count-within t);
        within = (agrees-sound log m.used.len t g.agrees).within;
      }

  -- the span is ended as its rows' tombstones appended one after the other
  pub span-ended : m.used.len + size_all (tombstones (rows_from i j (rows log t m))) ≤ length log → ended_span s i j ≡ appended_all s (tombstones (rows_from i j (rows log t m)))
  unfolding ended_span rows span_slots remove_span
  span-ended fits =
      let e : rows_from i j (rows_of log ss) ≡ rows_of log (span_slots i j ss) = rows-span log i j ss in
      let room : m.used.len + size_all (tombstones (rows_of log (span_slots i j ss))) ≤ length log = rw (e) at fits in
      go (dec_lt i j) room ∙ ap (λ (r : List Row). appended_all s (tombstones r)) (sym e)
    where
      go : Dec (i < j) → m.used.len + size_all (tombstones (rows_of log (span_slots i j ss))) ≤ length log
          → pick (ltb i j) (left_with s (tombed_all (tail_of s) (span_slots i j ss)) (remove_span i j ss)) s ≡ appended_all s (tombstones (rows_of log (span_slots i j ss)))
      go (yes k) room =
          rw (lt-ltb i j k) (all-ended (drop i (take j ss)) s (take i ss) (drop j ss) (subst (Risen s) (split i j ss (omega arith)) risen) room)
      go (no k) room = rw (le-ltb i j (omega arith)) (none-ended log s (span_slots i j ss) (span_end ss i j (omega arith) (omega (arith, slots_length m.count t))))
