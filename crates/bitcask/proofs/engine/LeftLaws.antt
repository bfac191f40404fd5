-- What sets, rows ended and keys deleted leave of any store: nothing but the bytes behind the used ones was written to, and the sizes still lie
-- within the log and the table. Assumes nothing.
use Prim.Native.Nat.{◌+◌, ◌*◌, ◌<◌, ◌≤◌}
use mathlib.Core.Path.{◌≡◌, refl, sym, ap, ◌∙◌, subst}
use mathlib.Core.List.{List, [], ◌∷◌}
use native.Mathlib.Decide.{dec_le, dec_lt}
use native.Mathlib.Omega.{arith}
use lib.Dec.{leb, ltb}
use lib.ListN.{length, drop, length-drop}
use lib.Seq.{length-take-le}
use borrow.Author.Tests.{le-leb, lt-leb, lt-ltb, le-ltb}
use Rattle.keycode.specs.Tests.{pick}
use Rattle.keycode.specs.Buffer.{put}
use Rattle.std.specs.Prelude.{Result, ℕ}
use Rattle.bitcask.specs.entry.Entry.{set, del, bytes_of, size_of}
use Rattle.bitcask.proofs.entry.EntryLaws.{length-bytes}
use Rattle.bitcask.specs.declared.keydir.slots.Slot.{Slot}
use Rattle.bitcask.specs.keydir.Slots.{slot_words, slots_of, key_of, remove_span}
use Rattle.bitcask.specs.keydir.Place.{place_of, cut_at, entered, Among}
use Rattle.bitcask.proofs.keydir.SlotLaws.{slots_length}
use Rattle.bitcask.proofs.keydir.PlaceLaws.{place-among}
use Rattle.bitcask.proofs.keydir.TableLaws.{laid-length, entered-within, cut_within}
use Rattle.bitcask.specs.change.Append.{State, slot_of, appended}
use Rattle.bitcask.specs.declared.engine.mark.Mark.{Mark}
use Rattle.bitcask.specs.engine.Marks.{Held}
use Rattle.bitcask.specs.engine.Endings.{Tail, tail_of, tombed, tombed_all, span_slots, left_with, ended_span}
use Rattle.bitcask.specs.engine.Sets.{set_at}
use Rattle.bitcask.specs.engine.Extends.{Extends}
use Rattle.bitcask.proofs.engine.EndLaws.{span-length}
use Rattle.bitcask.proofs.engine.ExtendLaws.{extends_none, extends_put, extends_more}

-- ---- tombstones laid

abbrev Reaches : Tail → Tail → Type 0
Reaches e f = Extends e.log e.used f.log f.used

key-whole : (log : List ℕ) (x : Slot) → x.place + 7 + x.klen ≤ length log → length (key_of log x) ≡ x.klen
unfolding key_of
key-whole log x h = length-take-le x.klen (drop (x.place + 7) log) (omega (arith, length-drop (x.place + 7) log))

tomb_reaches : (e : Tail) (x : Slot) → e.used ≤ length e.log → x.place + 7 + x.klen ≤ e.used → e.used + 8 + x.klen ≤ length e.log
    → Extends e.log e.used (put e.log e.used (bytes_of (del (key_of e.log x)))) (e.used + 8 + x.klen)
tomb_reaches e x h a b =
    let k = key-whole e.log x (omega arith) in
    let l : length (bytes_of (del (key_of e.log x))) ≡ 8 + x.klen = omega (arith, length-bytes (del (key_of e.log x)), k) in
    let q : e.used + length (bytes_of (del (key_of e.log x))) ≡ e.used + 8 + x.klen = omega (arith, l) in
    subst (Extends e.log e.used (put e.log e.used (bytes_of (del (key_of e.log x))))) q
    (extends_put e.log e.used (bytes_of (del (key_of e.log x))) (omega (arith, l)))

tombed_reaches : (e : Tail) (x : Slot) → e.used ≤ length e.log → Reaches e (tombed e x)
unfolding tombed
tombed_reaches e x h = go (dec_le (x.place + 7 + x.klen) e.used) (dec_le (e.used + 8 + x.klen) (length e.log))
  where
    go : Dec (x.place + 7 + x.klen ≤ e.used) → Dec (e.used + 8 + x.klen ≤ length e.log)
        → Reaches e (pick (leb (x.place + 7 + x.klen) e.used) (pick (leb (e.used + 8 + x.klen) (length e.log)) (record { log = put e.log e.used (bytes_of (del (key_of e.log x))); used = e.used + 8 + x.klen }) e) e)
    go (yes a) (yes b) = rw (le-leb (x.place + 7 + x.klen) e.used a, le-leb (e.used + 8 + x.klen) (length e.log) b) (tomb_reaches e x h a b)
    go (yes a) (no b) = rw (le-leb (x.place + 7 + x.klen) e.used a, lt-leb (e.used + 8 + x.klen) (length e.log) (omega arith)) (extends_none e.log e.used h)
    go (no a) b = rw (lt-leb (x.place + 7 + x.klen) e.used (omega arith)) (extends_none e.log e.used h)

all_reach : (xs : List Slot) (e : Tail) → e.used ≤ length e.log → Reaches e (tombed_all e xs)
unfolding tombed_all
all_reach [] e h = extends_none e.log e.used h
all_reach (x ∷ xs) e h =
    let a = tombed_reaches e x h in
    extends_more a (all_reach xs (tombed e x) (omega (arith, a.long, a.onward)))

-- ---- what a step keeps

pub record Keeps (s r : State) : Type 0 where
  pub extends : Extends s.log s.used r.log r.used
  pub table : length r.table ≡ length s.table
  pub room : slot_words * r.count ≤ length r.table

pub keeps-none : (s : State) → s.used ≤ length s.log → slot_words * s.count ≤ length s.table → Keeps s s
keeps-none s h k = record { extends = extends_none s.log s.used h; table = refl; room = k }

pub keeps-more : {s r q : State} → Keeps s r → Keeps r q → Keeps s q
keeps-more v w = record { extends = extends_more v.extends w.extends; table = w.table ∙ v.table; room = w.room }

-- the sizes then
pub keeps_held : {log t log' t' : List ℕ} {m n : Mark} → Held log t m
    → Keeps (record { log = log; used = m.used.len; table = t; count = m.count }) (record { log = log'; used = n.used.len; table = t'; count = n.count }) → Held log' t' n
keeps_held h w =
    let e = w.extends in
    record { small = omega (arith, h.small, e.long); within = omega (arith, e.long, e.onward); room = w.room }

-- the same of a store that was written to
pub keeps_as : {log t log' t' : List ℕ} {m n : Mark} {r : State} → Held log t m
    → ◌≡◌ {A = State} (record { log = log'; used = n.used.len; table = t'; count = n.count }) r
    → Keeps (record { log = log; used = m.used.len; table = t; count = m.count }) r → Held log' t' n
keeps_as {log} {t} {m = m} h e w = keeps_held h (subst (Keeps (record { log = log; used = m.used.len; table = t; count = m.count })) (sym e) w)

module _ (s : State) (h : s.used ≤ length s.log) (k : slot_words * s.count ≤ length s.table) where
  pub ended-keeps : (i j : ℕ) → j ≤ s.count → Keeps s (ended_span s i j)
  unfolding ended_span
  ended-keeps i j g = go (dec_lt i j)
    where
      go : Dec (i < j)
          → Keeps s (pick (ltb i j) (left_with s (tombed_all (tail_of s) (span_slots i j (slots_of s.count s.table))) (remove_span i j (slots_of s.count s.table))) s)
      go (no a) = rw (le-ltb i j (omega arith)) (keeps-none s h k)
      go (yes a) =
          let n = span-length s.table s.count i j (omega arith) g in
          let l = laid-length s.count (remove_span i j (slots_of s.count s.table)) s.table k (omega (arith, n)) in
          rw (lt-ltb i j a) (record { extends = all_reach (span_slots i j (slots_of s.count s.table)) (tail_of s) h; table = l; room = omega (arith, l, n) })

  pub del-keeps : (key : List ℕ) → s.used + size_of (del key) ≤ length s.log → Keeps s (appended s (del key))
  unfolding appended
  del-keeps key g =
      let ss : List Slot = slots_of s.count s.table in
      let c : slot_words * length (cut_at (place_of s.log key ss) ss) ≤ length s.table =
      cut_within s.table (place_of s.log key ss) ss (rw (slots_length s.count s.table) k) (place-among s.log key ss) in
      let l = laid-length s.count (cut_at (place_of s.log key ss) ss) s.table k c in
      let q : s.used + length (bytes_of (del key)) ≡ s.used + size_of (del key) = ap (λ (n : ℕ). s.used + n) (length-bytes (del key)) in
      record {
        extends = subst (Extends s.log s.used (put s.log s.used (bytes_of (del key)))) q (extends_put s.log s.used (bytes_of (del key)) (omega (arith, q)));
        table = l;
        room = omega (arith, l, c);
      }

  pub set-keeps : (f : Result ℕ ℕ) (key value : List ℕ) → Among s.count f → s.used + size_of (set key value) ≤ length s.log → Keeps s (set_at s f key value)
  unfolding set_at
  set-keeps f key value a g =
      let ss : List Slot = slots_of s.count s.table in
      let n = slots_length s.count s.table in
      let x : Slot = slot_of s.used (set key value) in
      let c : slot_words * length (entered s.table x f ss) ≤ length s.table = entered-within s.table f ss (rw n k) (rw n a) x in
      let l = laid-length s.count (entered s.table x f ss) s.table k c in
      let q : s.used + length (bytes_of (set key value)) ≡ s.used + size_of (set key value) = ap (λ (n : ℕ). s.used + n) (length-bytes (set key value)) in
      record {
        extends = subst (Extends s.log s.used (put s.log s.used (bytes_of (set key value)))) q (extends_put s.log s.used (bytes_of (set key value)) (omega (arith, q)));
        table = l;
        room = omega (arith, l, c);
      }
