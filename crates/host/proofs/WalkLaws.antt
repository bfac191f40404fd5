-- Laws of the walk over all entries, one at a time: what holds before each, and what it comes to. Assumes nothing.
use Prim.Native.Nat.{ℕ, ◌-◌, ◌*◌, ◌/◌, ◌≤◌, ◌<◌}
use mathlib.Core.Path.{◌≡◌, refl, sym, ap, ◌∙◌, subst₂}
use mathlib.Core.List.{List, []}
use native.Mathlib.Omega.{arith}
use lib.ListN.{length, replicate}
use Rattle.std.specs.Prelude.{Result, Ok, Err, Option, None, Some}
use Rattle.keycode.specs.declared.refusal.Refusal.{Refusal}
use Rattle.keycode.specs.declared.refusal.Refusal.TheVariants.{TableFull}
use Rattle.keycode.proofs.Basics.{nope}
use Rattle.bitcask.specs.entry.Reading.{entry_at}
use Rattle.bitcask.specs.declared.keydir.slots.Slot.{Slot}
use Rattle.bitcask.specs.keydir.Slots.{slot_words, table_of, key_of}
use Rattle.bitcask.specs.keydir.Place.{place_in, Sorted, sorted_none}
use Rattle.bitcask.proofs.keydir.PlaceLaws.{place_in_among, place-sorted}
use Rattle.bitcask.proofs.keydir.TableLaws.{table_empty, table-length, table-slots, table-laid}
use Rattle.host.specs.declared.opening.Next.{Next}
use Rattle.bitcask.specs.recovery.Recover.{Item, item_of, next, items, ends, step_in, then_run, run}
use Rattle.host.specs.Taking.{tried, took_by, went_on, took_of, TakesEntry}
use Rattle.bitcask.specs.recovery.Promises.{Walks}
use Rattle.bitcask.proofs.recovery.ItemLaws.{item_stands, items-stop, items-next}
use Rattle.bitcask.proofs.recovery.FoldLaws.{step-sorted}
use Rattle.bitcask.proofs.recovery.WalkLaws.{step_some, step_room}

-- ---- what an entry's answer says

says-over : (o : Option Item) (f : Item → Option (List Slot)) → took_of o f ≡ Ok None → o ≡ None
says-over None f e = refl
says-over (Some i) f e = absurd (not_over (f i) e)
  where
    not_over : (r : Option (List Slot)) → went_on (took_by (next i) r) ≡ Ok None → ⊥
    not_over None q = nope (cc)
    not_over (Some ss) q = nope (cc)

-- a refusal
record Refused (o : Option Item) (f : Item → Option (List Slot)) (w : Refusal) : Type 0 where
  item : Item
  was : o ≡ Some item
  none : f item ≡ None
  is : w ≡ TableFull

says-full : (o : Option Item) (f : Item → Option (List Slot)) (w : Refusal) → took_of o f ≡ Err w → Refused o f w
says-full None f w e = nope (cc)
says-full (Some i) f w e = go (f i) refl e
  where
    go : (r : Option (List Slot)) → f i ≡ r → went_on (took_by (next i) r) ≡ Err w → Refused (Some i) f w
    go None q h = record { item = i; was = refl; none = q; is = cc }
    go (Some ss) q h = nope (cc)

-- the entry, the slots that it left, and where the walk goes on
record Went (o : Option Item) (f : Item → Option (List Slot)) (n : Next) : Type 0 where
  item : Item
  slots : List Slot
  was : o ≡ Some item
  became : f item ≡ Some slots
  to : n.at ≡ next item
  count : n.count ≡ length slots

says-next : (o : Option Item) (f : Item → Option (List Slot)) (n : Next) → took_of o f ≡ Ok (Some n) → Went o f n
says-next None f n e = nope (cc)
says-next (Some i) f n e = go (f i) refl e
  where
    go : (r : Option (List Slot)) → f i ≡ r → went_on (took_by (next i) r) ≡ Ok (Some n) → Went (Some i) f n
    go None q h = nope (cc)
    go (Some ss) q h = let m : n ≡ record { at = next i; count = length ss } = cc in record { item = i; slots = ss; was = refl; became = q; to = ap (λ (x : Next). x.at) m; count = ap (λ (x : Next). x.count) m }

-- ---- what holds before each entry

-- the table t of n words has the slots of the entries before `at`, and the entries from there on lead to what all of them do
pub record Walking (log : List ℕ) (used n : ℕ) (t : List ℕ) (at count : ℕ) : Type 0 where
  pub slots : List Slot
  pub words : t ≡ table_of n slots
  pub counted : count ≡ length slots
  pub room : slot_words * length slots ≤ n
  pub sorted : Sorted log slots
  pub within : at ≤ used
  pub runs : run log (n / slot_words) (items log used at) slots ≡ run log (n / slot_words) (items log used 0) []
  pub ended : ends at (items log used at) ≡ ends 0 (items log used 0)

pub walk_start : (log : List ℕ) (used : ℕ) (t : List ℕ) → t ≡ replicate (length t) 0 → Walking log used (length t) t 0 0
walk_start log used t e = record {
  slots = [];
  words = e ∙ table_empty (length t);
  counted = refl;
  room = omega arith;
  sorted = sorted_none;
  within = omega arith;
  runs = refl;
  ended = refl;
}

-- on a table of sorted slots an entry does what recovery does
tried-is : (log t : List ℕ) (n count : ℕ) (ss : List Slot) → t ≡ table_of n ss → count ≡ length ss → slot_words * length ss ≤ n → Sorted log ss
    → (i : Item) → tried log t count i ≡ step_in (n / slot_words) i (place_in log (key_of log i.slot) ss) ss
unfolding tried
tried-is log t n count ss e c h s i = rw (e, c, table-length n ss h, table-slots n ss, place-sorted log (key_of log i.slot) ss s)

module _ {log : List ℕ} {used n : ℕ} {t : List ℕ} {at count : ℕ} (w : Walking log used n t at count) where
  pub walk_long : length t ≡ n
  walk_long = ap length w.words ∙ table-length n w.slots w.room

  pub walk_room : slot_words * count ≤ length t
  walk_room = omega (arith, walk_long, w.counted, w.room)

  run_is : (i : Item) → tried log t count i ≡ step_in (n / slot_words) i (place_in log (key_of log i.slot) w.slots) w.slots
  run_is i = tried-is log t n count w.slots w.words w.counted w.room w.sorted i

  module _ {r : Result (Option Next) Refusal} {t' : List ℕ} (v : TakesEntry log used t count at r t') where
    pub walk_over : r ≡ Ok None → Walks log used n (Ok (record { len = at })) t'
    unfolding run ends
    walk_over e =
        let o : item_of (entry_at log used at) at ≡ None = says-over (item_of (entry_at log used at) at) (tried log t count) (sym v.answer ∙ e) in
        let z : items log used at ≡ [] = items-stop log used at o in
        let p : run log (n / slot_words) (items log used 0) [] ≡ Some w.slots = sym w.runs ∙ ap (λ (is : List Item). run log (n / slot_words) is w.slots) z in
        let q : ends 0 (items log used 0) ≡ at = sym w.ended ∙ ap (ends at) z in
        record { answer = rw (p, q); table = v.words ∙ rw (o, p) w.words }

    pub walk_full : (refusal : Refusal) → r ≡ Err refusal → Walks log used n (Err refusal) (replicate n 0)
    unfolding run
    walk_full refusal e =
        let g = says-full (item_of (entry_at log used at) at) (tried log t count) refusal (sym v.answer ∙ e) in
        let z = items-next log used at g.item g.was in
        let p : run log (n / slot_words) (items log used 0) [] ≡ None = sym w.runs ∙ ap (λ (is : List Item). run log (n / slot_words) is w.slots) z
        ∙ ap (λ (x : Option (List Slot)). then_run x (λ y. run log (n / slot_words) (items log used (next g.item)) y)) (sym (run_is g.item) ∙ g.none) in
        record { answer = rw (p, g.is); table = rw p }

    walked : (i : Item) (ss : List Slot) → item_of (entry_at log used at) at ≡ Some i → tried log t count i ≡ Some ss → Walking log used n t' (next i) (length ss)
    unfolding run ends
    walked i ss was became =
        let z = items-next log used at i was in
        let k : List ℕ = key_of log i.slot in
        let s : step_in (n / slot_words) i (place_in log k w.slots) w.slots ≡ Some ss = sym (run_is i) ∙ became in
        let m : length ss ≤ n / slot_words = step_room (n / slot_words) i (place_in log k w.slots) w.slots s (place_in_among log k w.slots) (omega (arith, w.room)) in
        record {
          slots = ss;
          words = v.words ∙ rw (was, became, w.counted, w.words) (table-laid n w.slots ss w.room (omega arith));
          counted = refl;
          room = omega arith;
          sorted = rw (step_some (n / slot_words) i (place_in log k w.slots) w.slots s).1 (step-sorted log i.gone i.slot w.slots w.sorted);
          within = (item_stands log used at i was).near;
          runs =
              ap (λ (x : Option (List Slot)). then_run x (λ y. run log (n / slot_words) (items log used (next i)) y)) (sym s)
              ∙ ap (λ (is : List Item). run log (n / slot_words) is w.slots) (sym z) ∙ w.runs;
          ended = ap (ends at) (sym z) ∙ w.ended;
        }

    module _ (m : Next) (e : r ≡ Ok (Some m)) where
      went : Went (item_of (entry_at log used at) at) (tried log t count) m
      went = says-next (item_of (entry_at log used at) at) (tried log t count) m (sym v.answer ∙ e)

      pub walk_next : Walking log used n t' m.at m.count
      walk_next = let g = went in subst₂ (λ (b k : ℕ). Walking log used n t' b k) (sym g.to) (sym g.count) (walked g.item g.slots g.was g.became)

      pub walk_less : used - m.at < used - at
      walk_less = let g = went in let s = item_stands log used at g.item g.was in omega (arith, g.to)
