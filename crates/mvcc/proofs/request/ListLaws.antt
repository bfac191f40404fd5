-- Lists of entries appended one after the other: for any table the lengths and the log's bytes, under agreement that the table agrees
-- again and that the map is the entries' own. Assumes nothing.
use Prim.Native.Nat.{ℕ, ◌+◌, ◌*◌, ◌/◌, ◌≤◌}
use mathlib.Core.Path.{◌≡◌, refl, sym, ap, ◌∙◌}
use mathlib.Core.List.{List, [], ◌∷◌, ◌++◌}
use native.Mathlib.Nat.{add-zero}
use native.Mathlib.Omega.{arith}
use lib.ListN.{length}
use Rattle.keycode.specs.Limits.{max_log}
use Rattle.keycode.specs.Buffer.{put}
use Rattle.keycode.proofs.BufferLaws.{put-none, put-put, length-put}
use Rattle.bitcask.specs.entry.Entry.{Entry, set, del, bytes_of, size_of}
use Rattle.bitcask.proofs.entry.EntryLaws.{length-bytes}
use Rattle.bitcask.specs.declared.keydir.slots.Slot.{Slot}
use Rattle.bitcask.specs.keydir.Slots.{slot_words, slots_of}
use Rattle.bitcask.specs.keydir.Place.{count_of, place_of, laid}
use Rattle.bitcask.proofs.keydir.SlotLaws.{slots_length}
use Rattle.bitcask.proofs.keydir.CountLaws.{count-within}
use Rattle.bitcask.proofs.keydir.PlaceLaws.{place-among}
use Rattle.bitcask.proofs.keydir.TableLaws.{laid-length, entered-within, cut_within}
use Rattle.bitcask.specs.recovery.Map.{Pair, after}
use Rattle.bitcask.specs.recovery.Recover.{item_for, map_of}
use Rattle.bitcask.specs.recovery.Agree.{Agrees}
use Rattle.bitcask.proofs.recovery.AgreeLaws.{agrees-sound, agrees-count, map-length, append-map, append-agrees}
use Rattle.bitcask.specs.change.Append.{State, slots_after, appended, size_all, bytes_all, after_all}
use Rattle.bitcask.proofs.change.ChangeLaws.{fresh_for, free_in, count_set, after-length, after-slots}
use Rattle.mvcc.specs.request.Lists.{appended_all, Fitting, fitting_more}

-- ---- any table

slots-fit : (log : List ℕ) (used : ℕ) (t : List ℕ) (n : ℕ) (e : Entry) → slot_words * n ≤ length t → slot_words * length (slots_after log used t e (slots_of n t)) ≤ length t
slots-fit log used t n (set k v) h =
    let ss : List Slot = slots_of n t in
    entered-within t (place_of log k ss) ss (rw (slots_length n t) h) (place-among log k ss) (item_for used (set k v)).slot
slots-fit log used t n (del k) h =
    let ss : List Slot = slots_of n t in
    cut_within t (place_of log k ss) ss (rw (slots_length n t) h) (place-among log k ss)

-- one entry
module _ (s : State) (e : Entry) where
  one_used : (appended s e).used ≡ s.used + size_of e
  unfolding appended
  one_used = refl

  one_log : (appended s e).log ≡ put s.log s.used (bytes_of e)
  unfolding appended
  one_log = refl

  one_size : s.used + size_of e ≤ length s.log → length (appended s e).log ≡ length s.log
  one_size h = ap length one_log ∙ length-put s.log s.used (bytes_of e) (omega (arith, length-bytes e))

  one_words : slot_words * s.count ≤ length s.table → length (appended s e).table ≡ length s.table
  unfolding appended
  one_words h =
      laid-length s.count (slots_after s.log s.used s.table e (slots_of s.count s.table)) s.table h
      (slots-fit s.log s.used s.table s.count e h)

  one_count : slot_words * s.count ≤ length s.table → slot_words * (appended s e).count ≤ length s.table
  unfolding appended
  one_count h = slots-fit s.log s.used s.table s.count e h

size_more : (e : Entry) (es : List Entry) → size_all (e ∷ es) ≡ size_of e + size_all es
unfolding size_all
size_more e es = refl

pub all-used : (s : State) (es : List Entry) → (appended_all s es).used ≡ s.used + size_all es
unfolding appended_all size_all
all-used s [] = sym (add-zero s.used)
all-used s (e ∷ es) = all-used (appended s e) es ∙ (let q : s.used + size_of e + size_all es ≡ s.used + (size_of e + size_all es) = omega arith in ap (λ (n : ℕ). n + size_all es) (one_used s e) ∙ q)

pub all-log : (s : State) (es : List Entry) → s.used + size_all es ≤ length s.log → (appended_all s es).log ≡ put s.log s.used (bytes_all es)
unfolding appended_all bytes_all
all-log s [] h = put-none s.log s.used
all-log s (e ∷ es) h =
    let q : s.used + size_of e ≡ s.used + length (bytes_of e) = omega (arith, length-bytes e) in
    all-log (appended s e) es (omega (arith, size_more e es, one_used s e, one_size s e (omega (arith, size_more e es))))
    ∙ rw (one_log s e, one_used s e, q) (put-put s.log s.used (bytes_of e) (omega (arith, size_more e es)) (bytes_all es))

pub all_size : (s : State) (es : List Entry) → s.used + size_all es ≤ length s.log → length (appended_all s es).log ≡ length s.log
unfolding appended_all
all_size s [] h = refl
all_size s (e ∷ es) h =
    let q : length (appended s e).log ≡ length s.log = one_size s e (omega (arith, size_more e es)) in
    all_size (appended s e) es (omega (arith, size_more e es, one_used s e)) ∙ q

pub all_words_lem : (s : State) (es : List Entry) → slot_words * s.count ≤ length s.table → length (appended_all s es).table ≡ length s.table
unfolding appended_all
all_words_lem s [] h = refl
all_words_lem s (e ∷ es) h = let q = one_words s e h in all_words_lem (appended s e) es (omega (arith, one_count s e h)) ∙ q

pub all-count : (s : State) (es : List Entry) → slot_words * s.count ≤ length s.table → slot_words * (appended_all s es).count ≤ length (appended_all s es).table
unfolding appended_all
all-count s [] h = h
all-count s (e ∷ es) h = let q = one_words s e h in all-count (appended s e) es (omega (arith, one_count s e h))

pub all_append : (s : State) (es fs : List Entry) → appended_all s (es ++ fs) ≡ appended_all (appended_all s es) fs
unfolding appended_all
all_append s [] fs = refl
all_append s (e ∷ es) fs = all_append (appended s e) es fs

pub size_append : (es fs : List Entry) → size_all (es ++ fs) ≡ size_all es + size_all fs
unfolding size_all
size_append [] fs = omega arith
size_append (e ∷ es) fs = omega (arith, size_append es fs)

-- ---- a table that agrees, and the code's count of its slots

pub record Held (s : State) : Type 0 where
  pub agrees : Agrees s.log s.used s.table
  pub counted : s.count ≡ count_of s.table

keys_back : (log : List ℕ) (used : ℕ) (t : List ℕ) (e : Entry) → Agrees log used t → length log ≤ max_log → used + size_of e ≤ length log
    → length (after e (map_of log used)) ≤ length t / slot_words → fresh_for log t e ≤ free_in t
keys_back log used t (set k v) g small room h = omega (arith, count_set log used t k v g small room, count-within t)
keys_back log used t (del k) g small room h = omega arith

module _ (log : List ℕ) (used : ℕ) (t : List ℕ) (e : Entry) (g : Agrees log used t) (room : used + size_of e ≤ length log)
    (keys : length (after e (map_of log used)) ≤ length t / slot_words) where
  small : length log ≤ max_log
  small = (agrees-sound log used t g).small

  enough : fresh_for log t e ≤ free_in t
  enough = keys_back log used t e g small room keys

  one_again : Agrees (put log used (bytes_of e)) (used + size_of e) (laid (count_of t) (slots_after log used t e (slots_of (count_of t) t)) t)
  one_again = rw (after-slots log used t e enough) (append-agrees log used e small room t g keys)

  one_counted : length (slots_after log used t e (slots_of (count_of t) t)) ≡ count_of (laid (count_of t) (slots_after log used t e (slots_of (count_of t) t)) t)
  one_counted =
      ap length (after-slots log used t e enough) ∙ sym (after-length log used t e g small room)
      ∙ sym (ap length (append-map log used e small room g.clean))
      ∙ map-length (put log used (bytes_of e)) (used + size_of e)
      ∙ sym (agrees-count (put log used (bytes_of e)) (used + size_of e) (laid (count_of t) (slots_after log used t e (slots_of (count_of t) t)) t) one_again)

  one_held : (n : ℕ) → n ≡ count_of t → Held (appended (record { log = log; used = used; table = t; count = n }) e)
  unfolding appended
  one_held n q = rw q (record { agrees = one_again; counted = one_counted })

  one_map : map_of (put log used (bytes_of e)) (used + size_of e) ≡ after e (map_of log used)
  one_map = append-map log used e small room g.clean

-- ---- the law

-- the store s is that of log, used and t with the entries appended, and its table agrees with its log
pub record Appends (log : List ℕ) (used : ℕ) (t : List ℕ) (es : List Entry) (s : State) : Type 0 where
  pub again : Agrees s.log s.used s.table
  pub counted : s.count ≡ count_of s.table
  pub ends : s.used ≡ used + size_all es
  pub bytes : s.log ≡ put log used (bytes_all es)
  pub map : map_of s.log s.used ≡ after_all es (map_of log used)
  pub words : length s.table ≡ length t

held_within : (s : State) → Held s → slot_words * s.count ≤ length s.table
held_within s h = omega (arith, h.counted, count-within s.table)

all_held : (s : State) (es : List Entry) → Held s → s.used + size_all es ≤ length s.log → Fitting (length s.table / slot_words) es (map_of s.log s.used)
    → Held (appended_all s es) × (map_of (appended_all s es).log (appended_all s es).used ≡ after_all es (map_of s.log s.used))
unfolding appended_all after_all
all_held s [] h room f = (h, refl)
all_held s (e ∷ es) h room (fitting_more k f) =
    let r : s.used + size_of e ≤ length s.log = omega (arith, size_more e es) in
    let q : map_of (appended s e).log (appended s e).used ≡ after e (map_of s.log s.used) =
    rw (one_log s e, one_used s e) (one_map s.log s.used s.table e h.agrees r k) in
    let w : length (appended s e).table ≡ length s.table = one_words s e (held_within s h) in
    let z = all_held (appended s e) es (one_held s.log s.used s.table e h.agrees r k s.count h.counted)
    (omega (arith, size_more e es, one_used s e, one_size s e r))
    (fitting_at w q f) in
    (z.0, z.1 ∙ ap (after_all es) q)
  where
    fitting_at : {a b : ℕ} {m n : List Pair} → a ≡ b → m ≡ n → Fitting (b / slot_words) es n → Fitting (a / slot_words) es m
    fitting_at p q f = rw (p, q) f

pub append-all : (log : List ℕ) (used : ℕ) (t : List ℕ) (es : List Entry) → Agrees log used t → used + size_all es ≤ length log → Fitting (length t / slot_words) es (map_of log used)
    → (n : ℕ) → n ≡ count_of t → Appends log used t es (appended_all (record { log = log; used = used; table = t; count = n }) es)
append-all log used t es g room f n en =
    let s : State = record { log = log; used = used; table = t; count = n } in
    let h : Held s = record { agrees = g; counted = en } in
    let z = all_held s es h room f in
    record {
      again = z.0.agrees;
      counted = z.0.counted;
      ends = all-used s es;
      bytes = all-log s es room;
      map = z.1;
      words = all_words_lem s es (held_within s h);
    }
