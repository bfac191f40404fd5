-- A store that agrees agrees again when tombstones are appended, or a span of its rows is ended; and its map is without their keys.
-- Assumes nothing.
use Prim.Native.Nat.{ℕ, suc, ◌+◌, ◌/◌, ◌≤◌, ◌<◌}
use mathlib.Core.Path.{◌≡◌, refl, sym, ap, ◌∙◌, subst}
use mathlib.Core.List.{List, [], ◌∷◌}
use native.Mathlib.Omega.{arith}
use lib.ListN.{length, get_or}
use Rattle.std.specs.declared.cmp.Ordering.{Ordering}
use Rattle.std.specs.declared.cmp.Ordering.TheVariants.{Less, Equal, Greater}
use Rattle.keycode.specs.Limits.{max_log}
use Rattle.keycode.specs.Buffer.{put}
use Rattle.keycode.specs.Order.{compare_bytes}
use Rattle.keycode.proofs.BufferLaws.{length-put}
use Rattle.bitcask.specs.entry.Entry.{del, bytes_of, size_of}
use Rattle.bitcask.proofs.entry.EntryLaws.{length-bytes}
use Rattle.bitcask.specs.keydir.Slots.{slot_words, slots_of}
use Rattle.bitcask.specs.keydir.Place.{count_of, laid}
use Rattle.bitcask.proofs.keydir.CountLaws.{count-within}
use Rattle.bitcask.specs.recovery.Map.{Pair, cut_in, after}
use Rattle.bitcask.specs.recovery.Recover.{map_of}
use Rattle.bitcask.specs.recovery.Agree.{Agrees}
use Rattle.bitcask.proofs.recovery.AgreeLaws.{agrees-sound, agrees-count, map-length, append-map, append-agrees}
use Rattle.bitcask.specs.change.Append.{State, slots_after, appended, size_all, after_all}
use Rattle.bitcask.proofs.change.ChangeLaws.{after-slots, after-length}
use Rattle.bitcask.specs.declared.engine.mark.Mark.{Mark}
use Rattle.bitcask.specs.engine.Rows.{Row, blank, rows}
use Rattle.bitcask.specs.engine.Ranges.{rows_from}
use Rattle.bitcask.specs.engine.Marks.{Agreeing}
use Rattle.bitcask.specs.engine.Endings.{tombstones, appended_all, ended_span}
use Rattle.bitcask.proofs.engine.RowLaws.{rows-count}
use Rattle.bitcask.proofs.engine.EndedLaws.{span-ended}
use Rattle.bitcask.proofs.engine.SpanLaws.{from_next, from_end}

-- ---- a map without a key

cut_length_on : (k : List ℕ) (q : Pair) (m : List Pair) (o : Ordering) → compare_bytes q.key k ≡ o → length (cut_in k m) ≤ length m → length (cut_in k (q ∷ m)) ≤ length (q ∷ m)
unfolding cut_in
cut_length_on k q m Less e ih = rw e (omega arith)
cut_length_on k q m Equal e ih = rw e (omega arith)
cut_length_on k q m Greater e ih = rw e (omega arith)

cut_length : (k : List ℕ) (m : List Pair) → length (cut_in k m) ≤ length m
unfolding cut_in
cut_length k [] = omega arith
cut_length k (q ∷ m) = cut_length_on k q m (compare_bytes q.key k) refl (cut_length k m)

del-length : (k : List ℕ) (m : List Pair) → length (after (del k) m) ≤ length m
unfolding after
del-length k m = cut_length k m

-- ---- one tombstone

-- a store whose table agrees, with its count
pub record Right (s : State) : Type 0 where
  pub agrees : Agrees s.log s.used s.table
  pub counted : s.count ≡ count_of s.table

module _ (log : List ℕ) (used : ℕ) (t k : List ℕ) (g : Agrees log used t) (room : used + size_of (del k) ≤ length log) where
  small : length log ≤ max_log
  small = (agrees-sound log used t g).small

  keys : length (after (del k) (map_of log used)) ≤ length t / slot_words
  keys = omega (arith, del-length k (map_of log used), map-length log used, agrees-count log used t g, count-within t)

  one_again : Agrees (put log used (bytes_of (del k))) (used + size_of (del k)) (laid (count_of t) (slots_after log used t (del k) (slots_of (count_of t) t)) t)
  one_again = rw (after-slots log used t (del k) (omega arith)) (append-agrees log used (del k) small room t g keys)

  one_counted : length (slots_after log used t (del k) (slots_of (count_of t) t)) ≡ count_of (laid (count_of t) (slots_after log used t (del k) (slots_of (count_of t) t)) t)
  one_counted =
      ap length (after-slots log used t (del k) (omega arith)) ∙ sym (after-length log used t (del k) g small room)
      ∙ sym (ap length (append-map log used (del k) small room g.clean))
      ∙ map-length (put log used (bytes_of (del k))) (used + size_of (del k))
      ∙ sym (agrees-count (put log used (bytes_of (del k))) (used + size_of (del k)) (laid (count_of t) (slots_after log used t (del k) (slots_of (count_of t) t)) t) one_again)

  one_right : (n : ℕ) → n ≡ count_of t → Right (appended (record { log = log; used = used; table = t; count = n }) (del k))
  unfolding appended
  one_right n q = rw q (record { agrees = one_again; counted = one_counted })

  one_map : map_of (put log used (bytes_of (del k))) (used + size_of (del k)) ≡ after (del k) (map_of log used)
  one_map = append-map log used (del k) small room g.clean

pub del_right : (s : State) (k : List ℕ) → Right s → s.used + size_of (del k) ≤ length s.log → Right (appended s (del k))
del_right s k w h = one_right s.log s.used s.table k w.agrees h s.count w.counted

pub del-map : (s : State) (k : List ℕ) → Right s → s.used + size_of (del k) ≤ length s.log → map_of (appended s (del k)).log (appended s (del k)).used ≡ after (del k) (map_of s.log s.used)
unfolding appended
del-map s k w h = one_map s.log s.used s.table k w.agrees h

one_used : (s : State) (k : List ℕ) → (appended s (del k)).used ≡ s.used + size_of (del k)
unfolding appended
one_used s k = refl

one_long : (s : State) (k : List ℕ) → s.used + size_of (del k) ≤ length s.log → length (appended s (del k)).log ≡ length s.log
unfolding appended
one_long s k h = length-put s.log s.used (bytes_of (del k)) (omega (arith, length-bytes (del k)))

-- ---- the tombstones of rows

pub tombs_right : (rs : List Row) (s : State) → Right s → s.used + size_all (tombstones rs) ≤ length s.log
    → Right (appended_all s (tombstones rs)) × (map_of (appended_all s (tombstones rs)).log (appended_all s (tombstones rs)).used ≡ after_all (tombstones rs) (map_of s.log s.used))
unfolding appended_all tombstones size_all after_all
tombs_right [] s w h = (w, refl)
tombs_right (r ∷ rs) s w h =
    let k : s.used + size_of (del r.key) ≤ length s.log = omega arith in
    let z = tombs_right rs (appended s (del r.key)) (del_right s r.key w k) (omega (arith, one_used s r.key, one_long s r.key k)) in
    (z.0, z.1 ∙ ap (after_all (tombstones rs)) (del-map s r.key w k))

-- ---- a span

module _ (log t : List ℕ) (m : Mark) (g : Agreeing log t m) (i j : ℕ) (h : j ≤ m.count) (fits : m.used.len + size_all (tombstones (rows_from i j (rows log t m))) ≤ length log) where
  abbrev s : State
  s = record { log = log; used = m.used.len; table = t; count = m.count }

  abbrev gone : List Row
  gone = rows_from i j (rows log t m)

  pub span_right : Right (ended_span s i j)
  span_right = subst Right (sym (span-ended log t m g i j h fits)) (tombs_right gone s (record { agrees = g.agrees; counted = g.count }) fits).0

  pub span-map : map_of (ended_span s i j).log (ended_span s i j).used ≡ after_all (tombstones (rows_from i j (rows log t m))) (map_of log m.used.len)
  span-map =
      ap (λ (x : State). map_of x.log x.used) (span-ended log t m g i j h fits) ∙ (tombs_right gone s (record { agrees = g.agrees; counted = g.count }) fits).1

-- ---- one row

one_of_lem : (rs : List Row) (i : ℕ) → i < length rs → rows_from i (i + 1) rs ≡ get_or rs i blank ∷ []
one_of_lem rs i h =
    from_next rs i (i + 1) (omega arith) (omega arith)
    ∙ ap (λ (r : List Row). get_or rs i blank ∷ r) (from_end rs (suc i) (i + 1) (omega arith) (omega arith))

one_size : (r : Row) → size_all (tombstones (r ∷ [])) ≡ size_of (del r.key)
unfolding size_all tombstones
one_size r = omega arith

one_all : (s : State) (r : Row) → appended_all s (tombstones (r ∷ [])) ≡ appended s (del r.key)
unfolding appended_all tombstones
one_all s r = refl

-- a row ended is its tombstone appended
pub row_ended : (log t : List ℕ) (m : Mark) → Agreeing log t m → (i : ℕ) → i < m.count → m.used.len + size_of (del (get_or (rows log t m) i blank).key) ≤ length log
    → ended_span (record { log = log; used = m.used.len; table = t; count = m.count }) i (i + 1)
    ≡ appended (record { log = log; used = m.used.len; table = t; count = m.count }) (del (get_or (rows log t m) i blank).key)
row_ended log t m g i h fits =
    let s : State = record { log = log; used = m.used.len; table = t; count = m.count } in
    let e : rows_from i (i + 1) (rows log t m) ≡ get_or (rows log t m) i blank ∷ [] = one_of_lem (rows log t m) i (omega (arith, rows-count log t m)) in
    let q : size_all (tombstones (rows_from i (i + 1) (rows log t m))) ≡ size_of (del (get_or (rows log t m) i blank).key) = ap (λ (x : List Row). size_all (tombstones x)) e ∙ one_size (get_or (rows log t m) i blank) in
    span-ended log t m g i (i + 1) (omega arith) (omega (arith, q))
    ∙ ap (λ (x : List Row). appended_all s (tombstones x)) e ∙ one_all s (get_or (rows log t m) i blank)
