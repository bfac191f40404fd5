-- One set of several, laid at a place that was found before the first: what it leaves of any table, and, where the table agrees, that it is
-- the engine's set, and where the places of other keys are then. Assumes nothing.
use Prim.Native.Nat.{ℕ, ◌+◌, ◌-◌, ◌*◌, ◌/◌, ◌≤◌}
use mathlib.Core.Path.{◌≡◌, sym, ap, ◌∙◌, subst}
use mathlib.Core.List.{List, [], ◌∷◌}
use native.Mathlib.Omega.{arith}
use lib.ListN.{length, take, drop}
use Rattle.std.specs.Prelude.{Result, ℕ}
use Rattle.std.specs.declared.cmp.Ordering.TheVariants.{Less}
use Rattle.keycode.specs.Limits.{max_log}
use Rattle.keycode.specs.Buffer.{put}
use Rattle.keycode.specs.Order.{compare_bytes}
use Rattle.bitcask.specs.entry.Entry.{set, bytes_of, size_of}
use Rattle.bitcask.proofs.entry.EntryLaws.{key_back}
use Rattle.bitcask.specs.declared.keydir.slots.Slot.{Slot}
use Rattle.bitcask.specs.keydir.Slots.{slot_words, slots_of, key_of}
use Rattle.bitcask.specs.keydir.Place.{Among, place_of, place_in, put_at, count_of}
use Rattle.bitcask.proofs.keydir.PlaceLaws.{place_in_among}
use Rattle.bitcask.specs.recovery.Map.{after}
use Rattle.bitcask.specs.recovery.Recover.{item_for, step, recovered, map_of}
use Rattle.bitcask.specs.recovery.Agree.{Agrees}
use Rattle.bitcask.proofs.recovery.FoldLaws.{recovered-inside, place_same}
use Rattle.bitcask.proofs.recovery.AgreeLaws.{agrees-count, agrees-place, append-before, append-step}
use Rattle.bitcask.specs.change.Append.{State, appended, size_all, after_all}
use Rattle.bitcask.specs.declared.engine.mark.Mark.{Mark}
use Rattle.bitcask.specs.engine.Marks.{Held}
use Rattle.bitcask.specs.engine.Sets.{up_by, set_at}
use Rattle.bitcask.proofs.engine.SetLaws.{set_right, set_long, set-count, set_grows, set-used, set_size, place-behind}
use Rattle.bitcask.proofs.engine.StayLaws.{place-stays}
use Rattle.mvcc.specs.request.Lists.{appended_all, state_of, fitting_none, fitting_more}
use Rattle.mvcc.proofs.request.ListLaws.{append-all, Appends, Held as Agreed}

-- ---- any table

pub record After (log t : List ℕ) (m : Mark) (k v log' t' : List ℕ) (m' : Mark) : Type 0 where
  pub held : Held log' t' m'
  pub used : m'.used.len ≡ m.used.len + (8 + length k + length v)
  pub long : length log' ≡ length log
  pub words : length t' ≡ length t
  pub grows : m.count ≤ m'.count

pub set_after : (log t : List ℕ) (m : Mark) (f : Result ℕ ℕ) (k v log' t' : List ℕ) (m' : Mark) → Held log t m → Among m.count f → m.used.len + 8 + length k + length v ≤ length log
    → record { log = log'; used = m'.used.len; table = t'; count = m'.count } ≡ set_at (record { log = log; used = m.used.len; table = t; count = m.count }) f k v → After log t m k v log' t' m'
set_after log t m f k v log' t' m' h a r e =
    let s : State = state_of log m.used.len t m.count in
    let u : m'.used.len ≡ m.used.len + (8 + length k + length v) = ap (λ (z : State). z.used) e ∙ set-used s f k v in
    let l : length log' ≡ length log = ap (λ (z : State). length z.log) e ∙ set_size s f k v (omega arith) in
    let c : slot_words * m'.count ≤ length t' = subst (λ (z : State). slot_words * z.count ≤ length z.table) (sym e) (set-count s f k v h.room a) in
    record {
      held = record { small = omega (arith, h.small); within = omega arith; room = c };
      used = u;
      long = l;
      words = ap (λ (z : State). length z.table) e ∙ set_long s f k v h.room a;
      grows = subst (λ (z : State). m.count ≤ z.count) (sym e) (set_grows s f k v h.room a);
    }

-- the bytes and the used length are the engine's, wherever the key was put
pub same_log : (s z : State) (f : Result ℕ ℕ) (k v : List ℕ) → s.log ≡ z.log → s.used ≡ z.used → (set_at s f k v).log ≡ (appended z (set k v)).log
unfolding set_at appended
same_log s z f k v e u = λ j. put (e j) (u j) (bytes_of (set k v))

pub same-used : (s z : State) (f : Result ℕ ℕ) (k v : List ℕ) → s.used ≡ z.used → (set_at s f k v).used ≡ (appended z (set k v)).used
unfolding set_at appended
same-used s z f k v u = ap (λ (n : ℕ). n + size_of (set k v)) u

-- ---- places in a log that has one set more

module _ (log : List ℕ) (used : ℕ) (t : List ℕ) (agree : Agrees log used t) (k v : List ℕ) (small : length log ≤ max_log) (room : used + size_of (set k v) ≤ length log) where
  abbrev longer : List ℕ
  longer = put log used (bytes_of (set k v))

  abbrev slot : Slot
  slot = (item_for used (set k v)).slot

  key-is : key_of longer slot ≡ k
  unfolding key_of
  key-is =
      let q : used + 1 + 7 ≡ used + 8 = omega arith in
      ap (λ (n : ℕ). take (length k) (drop n longer)) q ∙ key_back log used (set k v) (omega arith) room

  slots_then : recovered longer (used + size_of (set k v)) ≡ put_at slot (place_in longer (key_of longer slot) (recovered log used)) (recovered log used)
  unfolding step
  slots_then = append-step log used (set k v) small room agree.clean

  -- the place of another key, before and after
  module _ (other : List ℕ) (n : ℕ) (en : n ≡ count_of t) (g : Result ℕ ℕ) (eg : g ≡ place_of log other (slots_of n t)) (t' : List ℕ) (again : Agrees longer (used + size_of (set k v)) t')
      (c : ℕ) (ec : c ≡ count_of t') where
    was : g ≡ place_in longer other (recovered log used)
    was = eg ∙ rw en (agrees-place log used t agree other) ∙ place_same log longer used (append-before log used (set k v) small room) other (recovered-inside log used)

    then : place_in longer other (put_at slot (place_in longer (key_of longer slot) (recovered log used)) (recovered log used)) ≡ place_of longer other (slots_of c t')
    then = sym (ap (place_in longer other) slots_then) ∙ sym (rw ec (agrees-place longer (used + size_of (set k v)) t' again other))

    place_up : compare_bytes k other ≡ Less → up_by (c - n) g ≡ place_of longer other (slots_of c t')
    place_up less =
        let cs : c ≡ length (put_at slot (place_in longer (key_of longer slot) (recovered log used)) (recovered log used)) =
        ec ∙ agrees-count longer (used + size_of (set k v)) t' again ∙ ap length slots_then in
        let ns : n ≡ length (recovered log used) = en ∙ agrees-count log used t agree in
        (λ j. up_by (cs j - ns j) (was j))
        ∙ sym (place-behind longer slot other (rw key-is less) (recovered log used) (place_in_among longer (key_of longer slot) (recovered log used))) ∙ then

    place_stay : compare_bytes other k ≡ Less → g ≡ place_of longer other (slots_of c t')
    place_stay less = was ∙ sym (place-stays longer slot other (rw key-is less) (recovered log used)) ∙ then

-- ---- a set at its place, where the table agrees

module _ (s : State) (k v : List ℕ) (f : Result ℕ ℕ) (ef : f ≡ place_of s.log k (slots_of s.count s.table)) (g : Agreed s) (small : length s.log ≤ max_log)
    (room : s.used + size_of (set k v) ≤ length s.log) (fits : length (after (set k v) (map_of s.log s.used)) ≤ length s.table / slot_words) where
  one_size : size_all (set k v ∷ []) ≡ size_of (set k v)
  unfolding size_all
  one_size = omega arith

  one : Appends s.log s.used s.table (set k v ∷ []) (appended_all s (set k v ∷ []))
  one = append-all s.log s.used s.table (set k v ∷ []) g.agrees (omega (arith, one_size)) (fitting_more fits fitting_none) s.count g.counted

  pub step_agreed : Agreed (set_at s f k v)
  unfolding appended_all
  step_agreed = rw (set_right s f k v ef) (record { agrees = one.again; counted = one.counted })

  step_map : map_of (set_at s f k v).log (set_at s f k v).used ≡ after (set k v) (map_of s.log s.used)
  unfolding appended_all after_all
  step_map = rw (set_right s f k v ef) one.map

  step_words : length (set_at s f k v).table ≡ length s.table
  unfolding appended_all
  step_words = rw (set_right s f k v ef) one.words

  -- what the next one asks
  pub step_fits : (k₂ v₂ : List ℕ) → length (after (set k₂ v₂) (after (set k v) (map_of s.log s.used))) ≤ length s.table / slot_words
      → length (after (set k₂ v₂) (map_of (set_at s f k v).log (set_at s f k v).used)) ≤ length (set_at s f k v).table / slot_words
  step_fits k₂ v₂ h = rw (step_map, step_words) h

  module _ (other : List ℕ) (h : Result ℕ ℕ) (eh : h ≡ place_of s.log other (slots_of s.count s.table)) where
    pub step_up : compare_bytes k other ≡ Less
        → up_by ((set_at s f k v).count - s.count) h ≡ place_of (set_at s f k v).log other (slots_of (set_at s f k v).count (set_at s f k v).table)
    unfolding set_at
    step_up less =
        place_up s.log s.used s.table g.agrees k v small room other s.count g.counted h eh (set_at s f k v).table
        step_agreed.agrees (set_at s f k v).count step_agreed.counted less

    pub step_stay : compare_bytes other k ≡ Less → h ≡ place_of (set_at s f k v).log other (slots_of (set_at s f k v).count (set_at s f k v).table)
    unfolding set_at
    step_stay less =
        place_stay s.log s.used s.table g.agrees k v small room other s.count g.counted h eh (set_at s f k v).table
        step_agreed.agrees (set_at s f k v).count step_agreed.counted less
