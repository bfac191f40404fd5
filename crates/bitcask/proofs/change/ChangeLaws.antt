-- Set and delete keep their promise: by the judgement of room and slots, and the append law of recovery. Assumes nothing.
use Prim.Native.Nat.{ℕ, ◌+◌, ◌-◌, ◌*◌, ◌/◌, ◌≤◌, ◌<◌}
use mathlib.Core.Path.{◌≡◌, refl, sym, ap, ◌∙◌}
use mathlib.Core.Bool.{Bool, true, false}
use mathlib.Core.List.{List, [], ◌∷◌}
use native.Mathlib.Nat.{add-zero}
use native.Mathlib.Omega.{arith}
use lib.Dec.{leb}
use lib.ListN.{length}
use borrow.Author.Tests.{le-leb, lt-leb, leb-true, leb-false, lt-ltb}
use Rattle.std.specs.Prelude.{Result, ℕ, Ok, Err, Option, Some, None, ⊤}
use Rattle.keycode.specs.Tests.{pick}
use Rattle.keycode.specs.Limits.{max_log}
use Rattle.keycode.specs.Buffer.{put}
use Rattle.keycode.specs.declared.refusal.Refusal.{Refusal}
use Rattle.keycode.specs.declared.refusal.Refusal.TheVariants.{LogFull, TableFull, BadRequest}
use Rattle.keycode.proofs.Basics.{nope}
use Rattle.bitcask.specs.entry.Entry.{Entry, set, del, entry_key, entry_value, bytes_of, size_of}
use Rattle.bitcask.specs.declared.keydir.slots.Slot.{Slot}
use Rattle.bitcask.specs.keydir.Slots.{slot_words, slots_of}
use Rattle.bitcask.specs.keydir.Place.{count_of, place_of, put_at, cut_at, room_at, Among}
use Rattle.bitcask.proofs.keydir.SlotLaws.{slots_length, insert_length, replace_length, remove_length}
use Rattle.bitcask.proofs.keydir.CountLaws.{count-within}
use Rattle.bitcask.proofs.keydir.PlaceLaws.{place-among}
use Rattle.bitcask.proofs.keydir.TableLaws.{laid-length, entered-room, entered-within, cut_within}
use Rattle.bitcask.specs.recovery.Map.{after}
use Rattle.bitcask.specs.recovery.Recover.{item_for, map_of, step_at}
use Rattle.bitcask.specs.recovery.Agree.{fit, Agrees}
use Rattle.bitcask.proofs.recovery.AgreeLaws.{Sound, fit-sound, agrees-slots, agrees-place, map-length, append-slots, append-map, append-agrees}
use Rattle.bitcask.specs.change.Append.{State, slots_after, appended, room_after, judge, wants, fresh_in, size_all, after_all, append_answer}
use Rattle.bitcask.specs.change.Promises.{Changes, change_answer}

-- ---- what the judgement says

pub data Judged (n size fresh free : ℕ) : Result ⊤ Refusal → Type 0 where
  no_room : n < size → Judged n size fresh free (Err LogFull)
  no_slot : size ≤ n → free < fresh → Judged n size fresh free (Err TableFull)
  fine : size ≤ n → fresh ≤ free → Judged n size fresh free (Ok tt)

pub judged-is : (n k v fresh free : ℕ) → Judged n (8 + k + v) fresh free (judge (room_after (Some n) k v) fresh free)
judged-is n k v fresh free = go (leb (8 + k + v) n) refl (leb fresh free) refl
  where
    go : (a : Bool) → leb (8 + k + v) n ≡ a → (b : Bool) → leb fresh free ≡ b → Judged n (8 + k + v) fresh free (judge (pick a (Some (n - (8 + k + v))) None) fresh free)
    go false p b q = no_room (leb-false (8 + k + v) n p)
    go true p true q = rw q (fine (leb-true (8 + k + v) n p) (leb-true fresh free q))
    go true p false q = rw q (no_slot (leb-true (8 + k + v) n p) (leb-false fresh free q))

-- the slots that an entry wants
abbrev pub fresh_for : List ℕ → List ℕ → Entry → ℕ
fresh_for log t (set k v) = fresh_in log k (slots_of (count_of t) t)
fresh_for log t (del k) = 0

abbrev pub free_in : List ℕ → ℕ
free_in t = length t / slot_words - count_of t

-- the judgement, by what the code has found
pub judged_by_lem : (log : List ℕ) (used : ℕ) (t : List ℕ) (e : Entry) (n fresh : ℕ) (room : Option ℕ) (x : Result ⊤ Refusal) → n ≡ count_of t
    → room ≡ room_after (Some (length log - used)) (length (entry_key e)) (length (entry_value e)) → fresh ≡ fresh_for log t e → x ≡ judge room fresh (length t / slot_words - n)
    → Judged (length log - used) (size_of e) (fresh_for log t e) (free_in t) x
judged_by_lem log used t e n fresh room x en er ef ex =
    rw (ex, er, ef, en) (judged-is (length log - used) (length (entry_key e)) (length (entry_value e)) (fresh_for log t e) (free_in t))

pub fresh_by : (log t k : List ℕ) (n fresh : ℕ) → n ≡ count_of t → fresh ≡ fresh_in log k (slots_of n t) → fresh ≡ fresh_in log k (slots_of (count_of t) t)
fresh_by log t k n fresh en ef = rw (← en) ef

pub count_fits : (t : List ℕ) (n : ℕ) → n ≡ count_of t → n ≤ length t / slot_words
count_fits t n e = omega (arith, count-within t)

-- ---- how many slots an entry leaves

put_count : (s : Slot) (f : Result ℕ ℕ) (ss : List Slot) → Among (length ss) f → length (put_at s f ss) ≡ length ss + wants f
put_count s (Ok i) ss h = replace_length i s ss h ∙ sym (add-zero (length ss))
put_count s (Err i) ss h = insert_length i s ss h

cut_count : (f : Result ℕ ℕ) (ss : List Slot) → Among (length ss) f → length (cut_at f ss) ≤ length ss
cut_count (Ok i) ss h = omega (arith, remove_length i ss h)
cut_count (Err i) ss h = omega arith

-- the table stays as long as it was, whatever its words
slots-fit : (log : List ℕ) (used : ℕ) (t : List ℕ) (e : Entry) → slot_words * length (slots_after log used t e (slots_of (count_of t) t)) ≤ length t
slots-fit log used t e = go e (rw (slots_length (count_of t) t) (count-within t))
  where
    go : (x : Entry) → slot_words * length (slots_of (count_of t) t) ≤ length t → slot_words * length (slots_after log used t x (slots_of (count_of t) t)) ≤ length t
    go (set k v) h = entered-within t (place_of log k (slots_of (count_of t) t)) (slots_of (count_of t) t) h (place-among log k (slots_of (count_of t) t)) (item_for used (set k v)).slot
    go (del k) h = cut_within t (place_of log k (slots_of (count_of t) t)) (slots_of (count_of t) t) h (place-among log k (slots_of (count_of t) t))

-- where a slot is free for what it wants, an entry does to any slots what recovery does
pub after-slots : (log : List ℕ) (used : ℕ) (t : List ℕ) (e : Entry) → fresh_for log t e ≤ free_in t
    → slots_after log used t e (slots_of (count_of t) t) ≡ step_at (item_for used e).gone (item_for used e).slot (place_of log (entry_key e) (slots_of (count_of t) t)) (slots_of (count_of t) t)
after-slots log used t (set k v) h = entered-room t (item_for used (set k v)).slot (place_of log k (slots_of (count_of t) t)) (slots_of (count_of t) t) (go (place_of log k (slots_of (count_of t) t)) refl)
  where
    go : (f : Result ℕ ℕ) → place_of log k (slots_of (count_of t) t) ≡ f → room_at t f (slots_of (count_of t) t) ≡ true
    go (Ok i) e = refl
    go (Err i) e =
        let w : fresh_in log k (slots_of (count_of t) t) ≡ 1 = unfold fresh_in in ap wants e in
        lt-ltb (length (slots_of (count_of t) t)) (length t / slot_words) (omega (arith, slots_length (count_of t) t))
after-slots log used t (del k) h = refl

-- ---- under agreement: the keys that an entry leaves in the map

module _ (log : List ℕ) (used : ℕ) (t : List ℕ) (e : Entry) (g : Agrees log used t) (small : length log ≤ max_log) (room : used + size_of e ≤ length log) where
  pub after-length : length (after e (map_of log used)) ≡ length (step_at (item_for used e).gone (item_for used e).slot (place_of log (entry_key e) (slots_of (count_of t) t)) (slots_of (count_of t) t))
  after-length =
      sym (sym (map-length (put log used (bytes_of e)) (used + size_of e)) ∙ ap length (append-map log used e small room g.clean))
      ∙ ap length (append-slots log used e small room g.clean)
      ∙ rw (agrees-place log used t g (entry_key e), agrees-slots log used t g)

pub count_set : (log : List ℕ) (used : ℕ) (t k v : List ℕ) → Agrees log used t → length log ≤ max_log → used + size_of (set k v) ≤ length log
    → length (after (set k v) (map_of log used)) ≡ count_of t + fresh_in log k (slots_of (count_of t) t)
unfolding fresh_in
count_set log used t k v g small room =
    let ss = slots_of (count_of t) t in
    after-length log used t (set k v) g small room
    ∙ put_count (item_for used (set k v)).slot (place_of log k ss) ss (place-among log k ss)
    ∙ ap (λ (n : ℕ). n + wants (place_of log k ss)) (slots_length (count_of t) t)

count-del : (log : List ℕ) (used : ℕ) (t k : List ℕ) → Agrees log used t → length log ≤ max_log → used + size_of (del k) ≤ length log
    → length (after (del k) (map_of log used)) ≤ count_of t
count-del log used t k g small room =
    let ss = slots_of (count_of t) t in
    omega (arith, after-length log used t (del k) g small room, cut_count (place_of log k ss) ss (place-among log k ss), slots_length (count_of t) t)

-- a free slot for what an entry wants is room for the keys that it leaves
keys_fit_lem : (log : List ℕ) (used : ℕ) (t : List ℕ) (e : Entry) → Agrees log used t → length log ≤ max_log → used + size_of e ≤ length log
    → fresh_for log t e ≤ free_in t → length (after e (map_of log used)) ≤ length t / slot_words
keys_fit_lem log used t (set k v) g small room h = omega (arith, count_set log used t k v g small room, count-within t)
keys_fit_lem log used t (del k) g small room h = omega (arith, count-del log used t k g small room, count-within t)

keys_over : (log : List ℕ) (used : ℕ) (t : List ℕ) (e : Entry) → Agrees log used t → length log ≤ max_log → used + size_of e ≤ length log
    → free_in t < fresh_for log t e → length t / slot_words < length (after e (map_of log used))
keys_over log used t (set k v) g small room h = omega (arith, count_set log used t k v g small room, count-within t)
keys_over log used t (del k) g small room h = absurd (omega arith)

-- ---- the promise

pub change_bad : (log : List ℕ) (used : ℕ) (t : List ℕ) (e : Entry) → fit (length log) used (length t) ≡ false → Changes log used t e (Err BadRequest) log t
change_bad log used t e f =
    record {
      bytes = refl;
      words = refl;
      long = refl;
      bad = rw f;
      full = rw f;
      answer = λ g. rw f;
      again = λ g z. nope (cc (z));
    }

module _ (log : List ℕ) (used : ℕ) (t : List ℕ) (e : Entry) (f : fit (length log) used (length t) ≡ true) where
  sized : Sound (length log) used (length t)
  sized = fit-sound (length log) used (length t) f

  one_size : used + size_all (e ∷ []) ≡ used + size_of e
  unfolding size_all
  one_size = omega arith

  answer-full : length log < used + size_of e → Err LogFull ≡ change_answer log used (length t) (e ∷ [])
  unfolding append_answer
  answer-full n = rw (f, one_size, lt-leb (used + size_of e) (length log) n)

  module _ (n : used + size_of e ≤ length log) where
    answer-slots : length t / slot_words < length (after e (map_of log used)) → Err TableFull ≡ change_answer log used (length t) (e ∷ [])
    unfolding append_answer after_all
    answer-slots k = rw (f, one_size, le-leb (used + size_of e) (length log) n, lt-leb (length (after e (map_of log used))) (length t / slot_words) k)

    answer_done : length (after e (map_of log used)) ≤ length t / slot_words → Ok (record { len = used + size_of e }) ≡ change_answer log used (length t) (e ∷ [])
    unfolding append_answer after_all
    answer_done k = rw (f, one_size, le-leb (used + size_of e) (length log) n, le-leb (length (after e (map_of log used))) (length t / slot_words) k)

  full_refused : length log - used < size_of e → Changes log used t e (Err LogFull) log t
  full_refused h =
      let n : length log < used + size_of e = omega (arith, sized.within) in
      record {
        bytes = refl;
        words = refl;
        long = refl;
        bad = rw f;
        full = rw (f, lt-leb (used + size_of e) (length log) n);
        answer = λ g. answer-full n;
        again = λ g z. nope (cc (z));
      }

  slot_refused : size_of e ≤ length log - used → free_in t < fresh_for log t e → Changes log used t e (Err TableFull) log t
  slot_refused h k =
      let n : used + size_of e ≤ length log = omega (arith, sized.within) in
      record {
        bytes = refl;
        words = refl;
        long = refl;
        bad = rw f;
        full = rw (f, le-leb (used + size_of e) (length log) n);
        answer = λ g. answer-slots n (keys_over log used t e g sized.small n k);
        again = λ g z. nope (cc (z));
      }

  done_changes : (s : State) → size_of e ≤ length log - used → fresh_for log t e ≤ free_in t → s ≡ appended (record { log = log; used = used; table = t; count = count_of t }) e
      → Changes log used t e (Ok (record { len = s.used })) s.log s.table
  unfolding appended
  done_changes s h k q =
      let n : used + size_of e ≤ length log = omega (arith, sized.within) in
      rw q
      (record {
        bytes = refl;
        words = refl;
        long = laid-length (count_of t) (slots_after log used t e (slots_of (count_of t) t)) t (count-within t) (slots-fit log used t e);
        bad = rw f;
        full = rw (f, le-leb (used + size_of e) (length log) n);
        answer = λ g. answer_done n (keys_fit_lem log used t e g sized.small n k);
        again = λ g z. rw (after-slots log used t e k) (append-agrees log used e sized.small n t g (keys_fit_lem log used t e g sized.small n k));
      })

  module _ (x : Result ⊤ Refusal) (j : Judged (length log - used) (size_of e) (fresh_for log t e) (free_in t) x) where
    pub change_refused : (r : Refusal) → x ≡ Err r → Changes log used t e (Err r) log t
    change_refused r q = go x j q
      where
        go : (y : Result ⊤ Refusal) → Judged (length log - used) (size_of e) (fresh_for log t e) (free_in t) y → y ≡ Err r → Changes log used t e (Err r) log t
        go y (no_room h) z = let w : r ≡ LogFull = cc in rw w (full_refused h)
        go y (no_slot h k) z = let w : r ≡ TableFull = cc in rw w (slot_refused h k)
        go y (fine h k) z = nope (cc)

    fine_says : x ≡ (Ok tt) → (size_of e ≤ length log - used) × (fresh_for log t e ≤ free_in t)
    fine_says q = go x j q
      where
        go : (y : Result ⊤ Refusal) → Judged (length log - used) (size_of e) (fresh_for log t e) (free_in t) y → y ≡ (Ok tt) → (size_of e ≤ length log - used) × (fresh_for log t e ≤ free_in t)
        go y (no_room h) z = nope (cc)
        go y (no_slot h k) z = nope (cc)
        go y (fine h k) z = (h, k)

    pub change_room : x ≡ (Ok tt) → (used + size_of e ≤ length log) × (length log ≤ max_log)
    change_room q = (omega (arith, (fine_says q).0, sized.within), sized.small)

    -- the code's count is the table's, and its entry may be put together of parts
    pub change_done : x ≡ (Ok tt) → (s : State) (n : ℕ) (e' : Entry) → n ≡ count_of t → e' ≡ e → s ≡ appended (record { log = log; used = used; table = t; count = n }) e'
        → Changes log used t e (Ok (record { len = s.used })) s.log s.table
    change_done q s n e' en ee p = done_changes s (fine_says q).0 (fine_says q).1 (p ∙ rw (en, ee))
