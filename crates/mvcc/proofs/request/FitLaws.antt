-- What a list of entries wants: the room in the log, and the slots for its new keys, each counted against the map as it was. Lists of
-- sets alone and of tombstones alone fit where the engine's rule says so. Assumes nothing.
use Prim.Native.Nat.{ℕ, ◌+◌, ◌-◌, ◌/◌, ◌≤◌, ◌<◌}
use mathlib.Core.Path.{◌≡◌, refl, sym, ap, ◌∙◌}
use mathlib.Core.Bool.{Bool, true, false}
use mathlib.Core.List.{List, [], ◌∷◌}
use native.Mathlib.Decide.{dec_le}
use native.Mathlib.Omega.{arith}
use lib.Dec.{leb}
use lib.ListN.{length}
use borrow.Author.Tests.{le-leb, lt-leb, leb-true}
use Rattle.std.specs.Prelude.{Some, None, Ok}
use Rattle.std.specs.declared.cmp.Ordering.{Ordering}
use Rattle.std.specs.declared.cmp.Ordering.TheVariants.{Less, Equal, Greater}
use Rattle.keycode.specs.Tests.{pick}
use Rattle.keycode.specs.Order.{compare_bytes}
use Rattle.keycode.proofs.Basics.{nope}
use Rattle.bitcask.specs.entry.Entry.{Entry, set, del, entry_key, size_of}
use Rattle.bitcask.specs.keydir.Slots.{slot_words, slots_of}
use Rattle.bitcask.specs.keydir.Place.{All, all_none, all_more, count_of}
use Rattle.bitcask.specs.recovery.Map.{Pair, look_in, put_in, cut_in, after, live_in}
use Rattle.bitcask.specs.recovery.Recover.{map_of}
use Rattle.bitcask.specs.recovery.Agree.{Agrees}
use Rattle.bitcask.proofs.recovery.MapLaws.{put_other}
use Rattle.bitcask.proofs.recovery.AgreeLaws.{agrees-sound, agrees-count, agrees-room, map-length}
use Rattle.bitcask.specs.change.Append.{judge, size_all, after_all, append_answer}
use Rattle.mvcc.specs.request.Lists.{appended_all, room_all, Sets, sets-none, sets_more, Dels, dels_none, dels_more, Apart, apart_more, new_in, new_all, fresh_all, Fitting, fitting_none, fitting_more, check_of}
use Rattle.mvcc.proofs.request.LookLaws.{fresh_agrees}
use Rattle.mvcc.proofs.request.ListLaws.{Appends, append-all}

-- ---- how many keys one entry leaves

put_length_on : (p q : Pair) (m : List Pair) (o : Ordering) → compare_bytes q.key p.key ≡ o → length (put_in p m) ≡ length m + new_in p.key m
    → length (put_in p (q ∷ m)) ≡ length (q ∷ m) + new_in p.key (q ∷ m)
unfolding put_in look_in live_in new_in
put_length_on p q m Less e ih = rw e (omega arith)
put_length_on p q m Equal e ih = rw e (omega arith)
put_length_on p q m Greater e ih = rw e (omega arith)

put-length : (p : Pair) (m : List Pair) → length (put_in p m) ≡ length m + new_in p.key m
unfolding put_in look_in live_in new_in
put-length p [] = refl
put-length p (q ∷ m) = put_length_on p q m (compare_bytes q.key p.key) refl (put-length p m)

pub set-length : (k v : List ℕ) (m : List Pair) → length (after (set k v) m) ≡ length m + new_in k m
unfolding after
set-length k v m = put-length (record { key = k; value = v }) m

cut_length_on : (k : List ℕ) (q : Pair) (m : List Pair) (o : Ordering) → compare_bytes q.key k ≡ o → length (cut_in k m) ≤ length m → length (cut_in k (q ∷ m)) ≤ length (q ∷ m)
unfolding cut_in
cut_length_on k q m Less e ih = rw e (omega arith)
cut_length_on k q m Equal e ih = rw e (omega arith)
cut_length_on k q m Greater e ih = rw e (omega arith)

cut_length : (k : List ℕ) (m : List Pair) → length (cut_in k m) ≤ length m
unfolding cut_in
cut_length k [] = omega arith
cut_length k (q ∷ m) = cut_length_on k q m (compare_bytes q.key k) refl (cut_length k m)

pub del-length : (k : List ℕ) (m : List Pair) → length (after (del k) m) ≤ length m
unfolding after
del-length k m = cut_length k m

-- ---- how many keys a list leaves

pub sets_grow : {es : List Entry} → Sets es → (m : List Pair) → length m ≤ length (after_all es m)
unfolding after_all
sets_grow sets-none m = omega arith
sets_grow (sets_more {k = k} {v = v} s) m = omega (arith, set-length k v m, sets_grow s (after (set k v) m))

pub dels_shrink : {es : List Entry} → Dels es → (m : List Pair) → length (after_all es m) ≤ length m
unfolding after_all
dels_shrink dels_none m = omega arith
dels_shrink (dels_more {k = k} d) m = omega (arith, del-length k m, dels_shrink d (after (del k) m))

pub sets-fit : {es : List Entry} → Sets es → (m : List Pair) (n : ℕ) → length (after_all es m) ≤ n → Fitting n es m
unfolding after_all
sets-fit sets-none m n h = fitting_none
sets-fit (sets_more {k = k} {v = v} s) m n h = fitting_more {e = set k v} {m = m} (omega (arith, sets_grow s (after (set k v) m))) (sets-fit s (after (set k v) m) n h)

pub dels_fit : {es : List Entry} → Dels es → (m : List Pair) (n : ℕ) → length m ≤ n → Fitting n es m
dels_fit dels_none m n h = fitting_none
dels_fit (dels_more {k = k} d) m n h = fitting_more {e = del k} {m = m} (omega (arith, del-length k m)) (dels_fit d (after (del k) m) n (omega (arith, del-length k m)))

-- an entry of another key leaves what is new
new_kept : (k v : List ℕ) (m : List Pair) {es : List Entry} → All (λ (x : Entry). k ≡ entry_key x → ⊥) es → new_all es (after (set k v) m) ≡ new_all es m
unfolding new_all new_in live_in after
new_kept k v m all_none = refl
new_kept k v m (all_more {x = x} n a) = rw (put_other (entry_key x) (record { key = k; value = v }) n m, new_kept k v m a)

-- sets of keys that differ leave as many keys more as are not in the map
pub sets_new : {es : List Entry} → Sets es → Apart es → (m : List Pair) → length (after_all es m) ≡ length m + new_all es m
unfolding after_all new_all
sets_new sets-none a m = omega arith
sets_new (sets_more {k = k} {v = v} s) (apart_more a r) m = omega (arith, sets_new s r (after (set k v) m), set-length k v m, new_kept k v m a)

-- ---- the room that a list leaves

room-none : (es : List Entry) → room_all None es ≡ None
unfolding room_all
room-none [] = refl
room-none (e ∷ es) = room-none es

pub room-all : (n : ℕ) (es : List Entry) → room_all (Some n) es ≡ pick (leb (size_all es) n) (Some (n - size_all es)) None
unfolding room_all size_all
room-all n [] = rw (le-leb 0 n (omega arith)) (ap Some (omega arith))
room-all n (e ∷ es) = go (dec_le (size_of e) n) (dec_le (size_all es) (n - size_of e)) (room-all (n - size_of e) es)
  where
    go : Dec (size_of e ≤ n) → Dec (size_all es ≤ n - size_of e) → room_all (Some (n - size_of e)) es ≡ pick (leb (size_all es) (n - size_of e)) (Some (n - size_of e - size_all es)) None
        → room_all (pick (leb (size_of e) n) (Some (n - size_of e)) None) es ≡ pick (leb (size_of e + size_all es) n) (Some (n - (size_of e + size_all es))) None
    go (yes h) (yes g) ih =
        let q : n - size_of e - size_all es ≡ n - (size_of e + size_all es) = omega arith in
        rw (le-leb (size_of e) n h, le-leb (size_of e + size_all es) n (omega arith)) (ih ∙ rw (le-leb (size_all es) (n - size_of e) g, q))
    go (yes h) (no g) ih =
        rw (le-leb (size_of e) n h, lt-leb (size_of e + size_all es) n (omega arith)) (ih ∙ rw (lt-leb (size_all es) (n - size_of e) (omega arith)))
    go (no h) d ih = rw (lt-leb (size_of e) n (omega arith), lt-leb (size_of e + size_all es) n (omega arith)) (room-none es)

-- ---- 7 and 8

module _ (es : List Entry) (n : ℕ) where
  pub list_left : size_all es ≤ n → room_all (Some n) es ≡ Some (n - size_all es)
  list_left h = room-all n es ∙ rw (le-leb (size_all es) n h)

  pub list_full : n < size_all es → room_all (Some n) es ≡ None
  list_full h = room-all n es ∙ rw (lt-leb (size_all es) n h)

  -- what the judgement of a list says for any table
  pub judge-says : (fresh free : ℕ) → judge (room_all (Some n) es) fresh free ≡ (Ok tt) → (size_all es ≤ n) × (fresh ≤ free)
  judge-says fresh free e = go (leb (size_all es) n) refl (leb fresh free) refl (rw (room-all n es) at e)
    where
      go : (a : Bool) → leb (size_all es) n ≡ a → (b : Bool) → leb fresh free ≡ b → judge (pick (leb (size_all es) n) (Some (n - size_all es)) None) fresh free ≡ (Ok tt)
          → (size_all es ≤ n) × (fresh ≤ free)
      go true p true q f = (leb-true (size_all es) n p, leb-true fresh free q)
      go true p false q f = nope (cc (rw (p, q) at f))
      go false p b q f = nope (cc (rw p at f))

module _ (log : List ℕ) (used : ℕ) (words : ℕ) (es : List Entry) (within : used ≤ length log) (fresh free : ℕ) where
  -- the judgement is the engine's rule where fresh and free say how many keys the map has then
  judge-is : (fresh ≤ free → length (after_all es (map_of log used)) ≤ words / slot_words) → (free < fresh → words / slot_words < length (after_all es (map_of log used)))
      → judge (room_all (Some (length log - used)) es) fresh free ≡ check_of (append_answer log used words es)
  unfolding append_answer
  judge-is f g = go (dec_le (size_all es) (length log - used)) (dec_le fresh free)
    where
      go : Dec (size_all es ≤ length log - used) → Dec (fresh ≤ free) → judge (room_all (Some (length log - used)) es) fresh free ≡ check_of (append_answer log used words es)
      go (yes h) (yes k) =
          rw (list_left es (length log - used) h, le-leb fresh free k, le-leb (used + size_all es) (length log) (omega arith), le-leb (length (after_all es (map_of log used))) (words / slot_words) (f k))
      go (yes h) (no k) =
          rw (list_left es (length log - used) h, lt-leb fresh free (omega arith), le-leb (used + size_all es) (length log) (omega arith), lt-leb (length (after_all es (map_of log used))) (words / slot_words) (g (omega arith)))
      go (no h) d = rw (list_full es (length log - used) (omega arith), lt-leb (used + size_all es) (length log) (omega arith))

-- what the rule says when it is met
pub answer_fine : (log : List ℕ) (used words : ℕ) (es : List Entry) → check_of (append_answer log used words es) ≡ (Ok tt) → (used + size_all es ≤ length log) × (length (after_all es (map_of log used)) ≤ words / slot_words)
unfolding append_answer
answer_fine log used words es e = go (leb (used + size_all es) (length log)) refl (leb (length (after_all es (map_of log used))) (words / slot_words)) refl e
  where
    go : (a : Bool) → leb (used + size_all es) (length log) ≡ a → (b : Bool) → leb (length (after_all es (map_of log used))) (words / slot_words) ≡ b
        → check_of (append_answer log used words es) ≡ (Ok tt) → (used + size_all es ≤ length log) × (length (after_all es (map_of log used)) ≤ words / slot_words)
    go true p true q f = (leb-true (used + size_all es) (length log) p, leb-true (length (after_all es (map_of log used))) (words / slot_words) q)
    go true p false q f = nope (cc (rw (p, q) at f))
    go false p b q f = nope (cc (rw p at f))

-- under agreement the slots that the code counts are the map's new keys
pub all_fresh : (log : List ℕ) (used : ℕ) (t : List ℕ) → Agrees log used t → (es : List Entry) → fresh_all log es (slots_of (count_of t) t) ≡ new_all es (map_of log used)
unfolding fresh_all new_all
all_fresh log used t g [] = refl
all_fresh log used t g (e ∷ es) = rw (fresh_agrees log used t g (entry_key e), all_fresh log used t g es)

-- the same with the code's count of the slots
module _ (log : List ℕ) (used : ℕ) (t : List ℕ) (es : List Entry) (g : Agrees log used t) (n : ℕ) (en : n ≡ count_of t) where
  pub map-count : length (map_of log used) ≡ n
  map-count = map-length log used ∙ sym (agrees-count log used t g) ∙ sym en

  pub map-fits : length (map_of log used) ≤ length t / slot_words
  map-fits = omega (arith, map-length log used, agrees-room log used t g)

  new_judged : Sets es → Apart es → judge (room_all (Some (length log - used)) es) (new_all es (map_of log used)) (length t / slot_words - n) ≡ check_of (append_answer log used (length t) es)
  new_judged s a =
      judge-is log used (length t) es (agrees-sound log used t g).within (new_all es (map_of log used)) (length t / slot_words - n)
      (λ h. omega (arith, sets_new s a (map_of log used), map-count, map-fits)) (λ h. omega (arith, sets_new s a (map_of log used), map-count, map-fits))

  pub sets-judged : Sets es → Apart es → judge (room_all (Some (length log - used)) es) (fresh_all log es (slots_of n t)) (length t / slot_words - n) ≡ check_of (append_answer log used (length t) es)
  sets-judged s a = ap (λ (f : ℕ). judge (room_all (Some (length log - used)) es) f (length t / slot_words - n)) (rw en (all_fresh log used t g es)) ∙ new_judged s a

  -- the law of appended lists, for the two kinds that the calls have
  module _ (room : used + size_all es ≤ length log) where
    pub sets-append : Sets es → length (after_all es (map_of log used)) ≤ length t / slot_words → Appends log used t es (appended_all (record { log = log; used = used; table = t; count = n }) es)
    sets-append s h = append-all log used t es g room (sets-fit s (map_of log used) (length t / slot_words) h) n en

    pub dels_append : Dels es → Appends log used t es (appended_all (record { log = log; used = used; table = t; count = n }) es)
    dels_append d = append-all log used t es g room (dels_fit d (map_of log used) (length t / slot_words) map-fits) n en
