-- A map's entries in key order from the front of a log on recover to the map: no entry is cut, and the slots name the entries where
-- they stand. By the law of an append, entry by entry. Assumes nothing.
use Prim.Native.Nat.{ℕ, ◌+◌, ◌≤◌}
use mathlib.Core.Path.{◌≡◌, refl, sym, ap, ◌∙◌, subst}
use mathlib.Core.List.{List, [], ◌∷◌, ◌++◌, append_assoc, append-nil}
use native.Mathlib.Omega.{arith}
use lib.ListN.{length, length-append}
use lib.Seq.{take-length, drop-length}
use Rattle.std.specs.Prelude.{Result, ℕ, Err}
use Rattle.std.specs.declared.cmp.Ordering.TheVariants.{Less}
use Rattle.keycode.specs.Limits.{max_log}
use Rattle.keycode.specs.Buffer.{put}
use Rattle.keycode.specs.Order.{compare_bytes}
use Rattle.keycode.proofs.BufferLaws.{length-put}
use Rattle.bitcask.specs.entry.Entry.{Entry, set, bytes_of, size_of}
use Rattle.bitcask.specs.declared.keydir.slots.Slot.{Slot}
use Rattle.bitcask.specs.keydir.Slots.{insert_at}
use Rattle.bitcask.specs.keydir.Place.{place_in, put_at, All, all_none, all_more}
use Rattle.bitcask.specs.recovery.Map.{Pair, put_in, after, Rising, rising-more}
use Rattle.bitcask.specs.recovery.Recover.{items, ends, fold, recovered, view, map_of}
use Rattle.bitcask.proofs.recovery.ItemLaws.{item_none, items-stop}
use Rattle.bitcask.proofs.recovery.GrowLaws.{Grown, grown_start, grown_append, grown_more}
use Rattle.bitcask.proofs.recovery.AgreeLaws.{append-clean, append-slots, append-map}
use Rattle.bitcask.specs.change.Append.{slot_of, size_all, bytes_all}
use Rattle.bitcask.specs.compaction.Compaction.{entries_of, placed}
use Rattle.bitcask.proofs.compaction.MoveLaws.{size_append, bytes-length, size_more, placed-more, laid_more}

-- ---- a key above all others goes behind them

-- every key of the map is less
abbrev Below : List ℕ → List Pair → Type 0
Below k m = All (λ (q : Pair). compare_bytes q.key k ≡ Less) m

place-last : (log key : List ℕ) (ss : List Slot) → Below key (view log ss) → place_in log key ss ≡ Err (length ss)
unfolding view place_in
place-last log key [] b = refl
place-last log key (s ∷ ss) (all_more e r) = rw (e, place-last log key ss r)

put_last : (p : Pair) {m : List Pair} → Below p.key m → put_in p m ≡ m ++ (p ∷ [])
unfolding put_in
put_last p all_none = refl
put_last p (all_more {x = q} e r) = rw e (ap (λ (x : List Pair). q ∷ x) (put_last p r))

insert_last : (s : Slot) (ss : List Slot) → insert_at (length ss) s ss ≡ ss ++ (s ∷ [])
unfolding insert_at
insert_last s ss = rw (take-length ss, drop-length ss)

later : {P : Pair → Type 0} (a : List Pair) (q : Pair) (b : List Pair) → All P (a ++ (q ∷ b)) → P q
later [] q b (all_more e r) = e
later (p ∷ a) q b (all_more e r) = later a q b r

rising-below : (a : List Pair) (q : Pair) (b : List Pair) → Rising (a ++ (q ∷ b)) → Below q.key a
rising-below [] q b s = all_none
rising-below (p ∷ a) q b (rising-more h s) = all_more (later a q b h) (rising-below a q b s)

entries_append : (a b : List Pair) → entries_of (a ++ b) ≡ entries_of a ++ entries_of b
unfolding entries_of
entries_append [] b = refl
entries_append (q ∷ a) b = ap (λ (r : List Entry). set q.key q.value ∷ r) (entries_append a b)

-- ---- the log that holds a map's entries

pub record Packed (g : List ℕ) (m : List Pair) : Type 0 where
  pub clean : ends 0 (items (put g 0 (bytes_all (entries_of m))) (size_all (entries_of m)) 0) ≡ size_all (entries_of m)
  pub slots : recovered (put g 0 (bytes_all (entries_of m))) (size_all (entries_of m)) ≡ placed 0 (entries_of m)
  pub map : map_of (put g 0 (bytes_all (entries_of m))) (size_all (entries_of m)) ≡ m
  pub grown : Grown (length m) (put g 0 (bytes_all (entries_of m))) (size_all (entries_of m))

packed_none : (g : List ℕ) → Packed g []
unfolding entries_of bytes_all size_all placed recovered map_of view fold ends
packed_none g =
    let e : items (put g 0 []) 0 0 ≡ [] = items-stop (put g 0 []) 0 0 (item_none (put g 0 []) 0 0 (omega arith)) in
    record { clean = rw e; slots = rw e; map = rw e; grown = grown_start 0 (put g 0 []) }

module _ (g : List ℕ) (small : length g ≤ max_log) (m : List Pair) (q : Pair) (room : size_all (entries_of (m ++ (q ∷ []))) ≤ length g) (low : Below q.key m) (p : Packed g m) where
  abbrev es : List Entry
  es = entries_of m

  abbrev e : Entry
  e = set q.key q.value

  abbrev log : List ℕ
  log = put g 0 (bytes_all es)

  entries_more : entries_of (m ++ (q ∷ [])) ≡ es ++ (e ∷ [])
  unfolding entries_of
  entries_more = entries_append m (q ∷ [])

  room-more : size_all es + size_of e ≤ length g
  room-more = omega (arith, ap size_all entries_more, size_more es e)

  log-length : length log ≡ length g
  log-length = length-put g 0 (bytes_all es) (omega (arith, bytes-length es, room-more))

  log-small : length log ≤ max_log
  log-small = omega (arith, log-length)

  log-room : size_all es + size_of e ≤ length log
  log-room = omega (arith, log-length, room-more)

  log-more : put g 0 (bytes_all (es ++ (e ∷ []))) ≡ put log (size_all es) (bytes_of e)
  log-more = sym (laid_more es e g (omega (arith, room-more)))

  slots-more : recovered (put log (size_all es) (bytes_of e)) (size_all es + size_of e) ≡ placed 0 (es ++ (e ∷ []))
  unfolding map_of
  slots-more =
      let rs = recovered log (size_all es) in
      let s = slot_of (size_all es) e in
      append-slots log (size_all es) e log-small log-room p.clean
      ∙ ap (λ (f : Result ℕ ℕ). put_at s f rs) (place-last log q.key rs (subst (λ (x : List Pair). Below q.key x) (sym p.map) low))
      ∙ insert_last s rs ∙ ap (λ (x : List Slot). x ++ (s ∷ [])) p.slots ∙ sym (placed-more es e)

  map_more : map_of (put log (size_all es) (bytes_of e)) (size_all es + size_of e) ≡ m ++ (q ∷ [])
  unfolding after
  map_more = append-map log (size_all es) e log-small log-room p.clean ∙ ap (put_in q) p.map ∙ put_last q low

  grown_one : Grown (length (m ++ (q ∷ []))) (put log (size_all es) (bytes_of e)) (size_all es + size_of e)
  unfolding after
  grown_one =
      let n : length (m ++ (q ∷ [])) ≡ length m + 1 = length-append m (q ∷ []) in
      let k : after e (map_of log (size_all es)) ≡ m ++ (q ∷ []) = ap (put_in q) p.map ∙ put_last q low in
      grown_append log (size_all es) e log-small log-room (length (m ++ (q ∷ []))) (grown_more (length m) (length (m ++ (q ∷ []))) (omega arith) p.grown) (omega (arith, ap length k))

  packed_more : Packed g (m ++ (q ∷ []))
  packed_more = record {
    clean = rw (entries_more, log-more, size_more es e) (append-clean log (size_all es) e log-small log-room p.clean);
    slots = rw (entries_more, log-more, size_more es e) slots-more;
    map = rw (entries_more, log-more, size_more es e) map_more;
    grown = rw (entries_more, log-more, size_more es e) grown_one;
  }

-- ---- all of them

size_first : (a : List Pair) (q : Pair) (b : List Pair) → size_all (entries_of (a ++ (q ∷ []))) ≤ size_all (entries_of (a ++ (q ∷ b)))
size_first a q b =
    let e : entries_of (a ++ (q ∷ b)) ≡ entries_of (a ++ (q ∷ [])) ++ entries_of b = ap entries_of (sym (append_assoc a (q ∷ []) b)) ∙ entries_append (a ++ (q ∷ [])) b in
    let n : size_all (entries_of (a ++ (q ∷ b))) ≡ size_all (entries_of (a ++ (q ∷ []))) + size_all (entries_of b) = ap size_all e ∙ size_append (entries_of (a ++ (q ∷ []))) (entries_of b) in
    omega arith

module _ (g : List ℕ) (small : length g ≤ max_log) where
  packed-from : (a b : List Pair) → Rising (a ++ b) → size_all (entries_of (a ++ b)) ≤ length g → Packed g a → Packed g (a ++ b)
  packed-from a [] s r p = rw (append-nil a) p
  packed-from a (q ∷ b) s r p =
      let n = size_first a q b in
      let c = append_assoc a (q ∷ []) b in
      subst (λ (x : List Pair). Packed g x) c
      (packed-from (a ++ (q ∷ [])) b (subst Rising (sym c) s) (rw c r) (packed_more g small a q (omega arith) (rising-below a q b s) p))

  pub packed_all : (m : List Pair) → Rising m → size_all (entries_of m) ≤ length g → Packed g m
  packed_all m s r = packed-from [] m s r (packed_none g)
