-- Laws of a request's sizes and of a table that agrees with its log: what it says, that the log decides it, and what an entry more at
-- the end of the log does. Assumes nothing.
use Prim.Native.Nat.{ℕ, ◌+◌, ◌*◌, ◌/◌, ◌%◌, ◌≤◌}
use mathlib.Core.Path.{◌≡◌, refl, sym, ap, ◌∙◌, subst}
use mathlib.Core.Bool.{Bool, true, false}
use Rattle.std.specs.Prelude.{Some, Option}
use mathlib.Core.List.{List, [], ◌∷◌, ◌++◌, append_assoc}
use native.Mathlib.Omega.{arith}
use lib.Dec.{leb, eqb}
use lib.ListN.{length, take, drop, length-append, length-replicate}
use lib.Seq.{take_at, length-take-le}
use borrow.Author.Tests.{le-leb, leb-true, eq-eqb, eqb-true}
use Rattle.keycode.specs.Tests.{pick}
use Rattle.keycode.specs.Limits.{max_log}
use Rattle.keycode.specs.Buffer.{put}
use Rattle.keycode.proofs.Basics.{nope}
use Rattle.keycode.proofs.BufferLaws.{length-put}
use Rattle.bitcask.specs.entry.Entry.{Entry, set, del, entry_key, entry_value, bytes_of, size_of}
use Rattle.bitcask.specs.declared.entry.read.Lengths.{Lengths}
use Rattle.bitcask.specs.entry.Reading.{entry_at, read_of}
use Rattle.bitcask.proofs.entry.EntryLaws.{length-bytes, entry-back, key_back, value-back}
use Rattle.bitcask.specs.declared.keydir.slots.Slot.{Slot}
use Rattle.bitcask.specs.keydir.Slots.{slot_words, slots_of, table_of, key_of, value_of}
use Rattle.bitcask.specs.keydir.Place.{place_of, place_in, count_of, laid}
use Rattle.bitcask.proofs.keydir.SlotLaws.{words-length}
use Rattle.bitcask.proofs.keydir.PlaceLaws.{place-sorted}
use Rattle.bitcask.proofs.keydir.SortLaws.{all-turn}
use Rattle.bitcask.proofs.keydir.TableLaws.{table-length, table-slots, table-count, table-laid}
use Rattle.bitcask.specs.recovery.Map.{Pair, put_in, cut_in, after}
use Rattle.bitcask.specs.recovery.Recover.{item_of, item_for, next, items, ends, step_at, step, recovered, view, map_of}
use Rattle.bitcask.specs.recovery.Agree.{fit, Agrees}
use Rattle.bitcask.proofs.recovery.ViewLaws.{view-length, put_view, cut_view}
use Rattle.bitcask.proofs.recovery.FoldLaws.{recovered-inside, recovered-sorted, place_same, view-same, items_one, ends_one, recovered_one}

-- ---- the sizes of a request

fit_rest : (size used words : ℕ) → size ≤ max_log → used ≤ size → eqb (words % slot_words) 0 ≡ fit size used words
unfolding fit
fit_rest size used words small h = rw (le-leb size max_log small, le-leb used size h)

-- what the sizes say when they are right
pub record Sound (size used words : ℕ) : Type 0 where
  pub small : size ≤ max_log
  pub within : used ≤ size
  pub whole : words % slot_words ≡ 0

pub both : (a b : Bool) → pick a b false ≡ true → (a ≡ true) × (b ≡ true)
both true b e = (refl, e)
both false b e = nope (cc)

pub fit-sound : (size used words : ℕ) → fit size used words ≡ true → Sound size used words
unfolding fit
fit-sound size used words e =
    let p = both (leb size max_log) (pick (leb used size) (eqb (words % slot_words) 0) false) e in
    let q = both (leb used size) (eqb (words % slot_words) 0) p.1 in
    record { small = leb-true size max_log p.0; within = leb-true used size q.0; whole = eqb-true (words % slot_words) 0 q.1 }

pub sound-fit : {size used words : ℕ} → Sound size used words → fit size used words ≡ true
sound-fit {size} {used} {words} s = sym (fit_rest size used words s.small s.within) ∙ eq-eqb (words % slot_words) 0 s.whole

-- ---- a table that agrees

pub agrees_unique : {log : List ℕ} {used : ℕ} {t t' : List ℕ} → Agrees log used t → Agrees log used t' → length t ≡ length t' → t ≡ t'
agrees_unique {log} {used} g h e = g.words ∙ ap (λ (n : ℕ). table_of n (recovered log used)) e ∙ sym h.words

module _ (log : List ℕ) (used : ℕ) (t : List ℕ) (g : Agrees log used t) where
  pub agrees-sound : Sound (length log) used (length t)
  agrees-sound = fit-sound (length log) used (length t) g.sound

  pub agrees-room : slot_words * length (recovered log used) ≤ length t
  unfolding table_of
  agrees-room = omega (arith, simp (length-append, words-length, length-replicate) at (ap length g.words))

  pub agrees-count : count_of t ≡ length (recovered log used)
  agrees-count = ap count_of g.words ∙ table-count (length t) (recovered log used) (all-turn (λ s h. h.taken) (recovered-inside log used))

  pub agrees-slots : slots_of (count_of t) t ≡ recovered log used
  agrees-slots =
      ap (λ (n : ℕ). slots_of n t) agrees-count ∙ ap (slots_of (length (recovered log used))) g.words
      ∙ table-slots (length t) (recovered log used)

  -- the search finds where a key belongs
  pub agrees-place : (key : List ℕ) → place_of log key (slots_of (count_of t) t) ≡ place_in log key (recovered log used)
  agrees-place key = rw agrees-slots (place-sorted log key (recovered log used) (recovered-sorted log used))

  -- with other slots it is a table of those
  laid-again : (rs : List Slot) → slot_words * length rs ≤ length t → laid (count_of t) rs t ≡ table_of (length t) rs
  laid-again rs h =
      ap (λ (n : ℕ). laid n rs t) agrees-count ∙ ap (laid (length (recovered log used)) rs) g.words
      ∙ table-laid (length t) (recovered log used) rs agrees-room h

pub map-length : (log : List ℕ) (used : ℕ) → length (map_of log used) ≡ length (recovered log used)
unfolding map_of
map-length log used = view-length log (recovered log used)

-- ---- an entry more

item_next : (at : ℕ) (e : Entry) → next (item_for at e) ≡ at + size_of e
item_next at (set k v) = omega arith
item_next at (del k) = omega arith

item_read : (at : ℕ) (e : Entry) → item_of (read_of e) at ≡ Some (item_for at e)
item_read at (set k v) = refl
item_read at (del k) = refl

item_key : (log : List ℕ) (at : ℕ) (e : Entry) → key_of log (item_for at e).slot ≡ take (length (entry_key e)) (drop (at + 8) log)
unfolding key_of
item_key log at (set k v) = let q : at + 1 + 7 ≡ at + 8 = omega arith in ap (λ (n : ℕ). take (length k) (drop n log)) q
item_key log at (del k) = let q : at + 1 + 7 ≡ at + 8 = omega arith in ap (λ (n : ℕ). take (length k) (drop n log)) q

item_value : (log : List ℕ) (at : ℕ) (e : Entry) → value_of log (item_for at e).slot ≡ take (length (entry_value e)) (drop (at + 8 + length (entry_key e)) log)
unfolding value_of
item_value log at (set k v) = let q : at + 1 + 7 + length k ≡ at + 8 + length k = omega arith in ap (λ (n : ℕ). take (length v) (drop n log)) q
item_value log at (del k) = refl

step-view : (log : List ℕ) (at : ℕ) (e : Entry) (ss : List Slot) → key_of log (item_for at e).slot ≡ entry_key e → value_of log (item_for at e).slot ≡ entry_value e
    → view log (step log (item_for at e) ss) ≡ after e (view log ss)
unfolding step after
step-view log at (set k v) ss a b = put_view log (item_for at (set k v)).slot ss ∙ ap (λ (p : Pair). put_in p (view log ss)) (λ j. record { key = a j; value = b j })
step-view log at (del k) ss a b = cut_view log (key_of log (item_for at (del k)).slot) ss ∙ ap (λ (x : List ℕ). cut_in x (view log ss)) a

module _ (log : List ℕ) (used : ℕ) (e : Entry) (small : length log ≤ max_log) (room : used + size_of e ≤ length log) where
  abbrev log' : List ℕ
  log' = put log used (bytes_of e)

  pub append-long : length (put log used (bytes_of e)) ≡ length log
  append-long = length-put log used (bytes_of e) (omega (arith, length-bytes e))

  -- what counted is as it was
  pub append-before : take used log ≡ take used (put log used (bytes_of e))
  unfolding put
  append-before =
      let r = drop (used + length (bytes_of e)) log in
      sym (rw (append_assoc (take used log) (bytes_of e) r) (take_at (take used log) (bytes_of e ++ r) used (length-take-le used log (omega arith))))

  append-key : key_of log' (item_for used e).slot ≡ entry_key e
  append-key = item_key log' used e ∙ key_back log used e (omega arith) room

  append-value : value_of log' (item_for used e).slot ≡ entry_value e
  append-value = item_value log' used e ∙ value-back log used e (omega arith) room

  append_read : item_of (entry_at log' (used + size_of e) used) used ≡ Some (item_for used e)
  append_read = ap (λ (r : Option Lengths). item_of r used) (entry-back log used e (omega arith) room (used + size_of e) (omega arith)) ∙ item_read used e

  module _ (clean : ends 0 (items log used 0) ≡ used) where
    -- recovery does not cut the entry
    pub append-clean : ends 0 (items (put log used (bytes_of e)) (used + size_of e) 0) ≡ used + size_of e
    append-clean = ends_one log log' used append-before (used + size_of e) (item_for used e) clean append_read (item_next used e) (omega arith)

    pub append-items : items (put log used (bytes_of e)) (used + size_of e) 0 ≡ items log used 0 ++ (item_for used e ∷ [])
    append-items = items_one log log' used append-before (used + size_of e) (item_for used e) clean append_read (item_next used e) (omega arith)

    pub append-step : recovered (put log used (bytes_of e)) (used + size_of e) ≡ step (put log used (bytes_of e)) (item_for used e) (recovered log used)
    append-step = recovered_one log log' used append-before (used + size_of e) (item_for used e) clean append_read (item_next used e) (omega arith)

    pub append-slots : recovered (put log used (bytes_of e)) (used + size_of e)
        ≡ step_at (item_for used e).gone (item_for used e).slot (place_in log (entry_key e) (recovered log used)) (recovered log used)
    unfolding step
    append-slots = append-step ∙ rw (append-key, ← place_same log log' used append-before (entry_key e) (recovered-inside log used))

    pub append-map : map_of (put log used (bytes_of e)) (used + size_of e) ≡ after e (map_of log used)
    unfolding map_of
    append-map =
        ap (view log') append-step ∙ step-view log' used e (recovered log used) append-key append-value
        ∙ ap (after e) (sym (view-same log log' used append-before (recovered-inside log used)))

  -- the table with that step made, at the place that the search finds, agrees again, where it has room
  pub append-agrees : (t : List ℕ) → Agrees log used t → length (after e (map_of log used)) ≤ length t / slot_words
      → Agrees (put log used (bytes_of e)) (used + size_of e)
      (laid (count_of t) (step_at (item_for used e).gone (item_for used e).slot (place_of log (entry_key e) (slots_of (count_of t) t)) (slots_of (count_of t) t)) t)
  append-agrees t g h =
      let rs : List Slot = recovered log' (used + size_of e) in
      let n : length rs ≡ length (after e (map_of log used)) = sym (map-length log' (used + size_of e)) ∙ ap length (append-map g.clean) in
      let m : slot_words * length rs ≤ length t = omega arith in
      let l : length (table_of (length t) rs) ≡ length t = table-length (length t) rs m in
      let so = agrees-sound log used t g in
      let q : step_at (item_for used e).gone (item_for used e).slot (place_of log (entry_key e) (slots_of (count_of t) t)) (slots_of (count_of t) t) ≡ rs = rw (agrees-place log used t g (entry_key e), agrees-slots log used t g) (sym (append-slots g.clean)) in
      subst (λ (x : List ℕ). Agrees log' (used + size_of e) x)
      (sym (ap (λ (x : List Slot). laid (count_of t) x t) q ∙ laid-again log used t g rs m))
      (record {
        sound = rw (append-long, l) (sound-fit (record { small = small; within = room; whole = so.whole }));
        clean = append-clean g.clean;
        words = rw l;
      })
