-- A set laid at a place that was found before: what the code does, and that a place behind a lesser key stays right. Assumes nothing.
use Prim.Native.Nat.{ℕ, suc, ◌+◌, ◌-◌, ◌*◌, ◌/◌, ◌≤◌, ◌<◌}
use mathlib.Core.Path.{◌≡◌, refl, sym, ap, ◌∙◌}
use mathlib.Core.List.{List, [], ◌∷◌, ◌++◌}
use native.Mathlib.Nat.{add-zero}
use native.Mathlib.Omega.{arith}
use native.Mathlib.Decide.{dec_lt}
use lib.ListN.{length, length-append}
use borrow.Author.Tests.{lt-ltb, le-ltb}
use Rattle.std.specs.Prelude.{Result, ℕ, Ok, Err}
use Rattle.std.specs.declared.cmp.Ordering.{Ordering}
use Rattle.std.specs.declared.cmp.Ordering.TheVariants.{Less, Equal, Greater}
use Rattle.keycode.specs.Buffer.{put}
use Rattle.keycode.specs.Order.{compare_bytes}
use Rattle.keycode.proofs.OrderLaws.{compare_trans, compare_equal}
use Rattle.keycode.proofs.BufferLaws.{length-put}
use Rattle.bitcask.specs.entry.Entry.{set, bytes_of, size_of}
use Rattle.bitcask.proofs.entry.EntryLaws.{length-bytes}
use Rattle.bitcask.specs.declared.keydir.slots.Slot.{Slot}
use Rattle.bitcask.specs.keydir.Slots.{slot_words, slots_of, key_of, insert_at, replace_at}
use Rattle.bitcask.specs.keydir.Place.{Among, Becomes, place_of, place_in, further, put_at, entered, laid}
use Rattle.bitcask.proofs.keydir.SlotLaws.{slots_length, replace_length, insert_length}
use Rattle.bitcask.proofs.keydir.PlaceLaws.{place-among}
use Rattle.bitcask.proofs.keydir.TableLaws.{laid-length, entered-room, entered-full, entered-within}
use Rattle.bitcask.specs.change.Append.{State, slot_of, appended, wants}
use Rattle.bitcask.specs.declared.engine.mark.Mark.{Mark}
use Rattle.bitcask.specs.declared.engine.spot.Spot.{Spot}
use Rattle.bitcask.specs.engine.Rows.{Row, rows}
use Rattle.bitcask.specs.engine.Spots.{rank, placed, place_by}
use Rattle.bitcask.specs.engine.Sets.{spot_place, up_by, slots_with, set_at}
use Rattle.bitcask.proofs.engine.RowLaws.{place-rows}

-- ---- places

module _ (f : Result Spot Spot) (p : Spot) where
  pub place_at : f ≡ Ok p → Ok p.number ≡ spot_place f
  unfolding spot_place
  place_at e = rw e

  pub place_absent : f ≡ Err p → Err p.number ≡ spot_place f
  unfolding spot_place
  place_absent e = rw e

  pub wants-at : f ≡ Ok p → 0 ≡ wants (spot_place f)
  unfolding spot_place
  wants-at e = rw e

  pub wants_absent : f ≡ Err p → 1 ≡ wants (spot_place f)
  unfolding spot_place
  wants_absent e = rw e

  module _ (n : ℕ) (a : Among n (spot_place f)) where
    pub number_at : f ≡ Ok p → p.number < n
    unfolding spot_place
    number_at e = rw e at a

    pub number_absent : f ≡ Err p → p.number ≤ n
    unfolding spot_place
    number_absent e = rw e at a

  pub behind-at : (d : ℕ) → f ≡ Ok p → spot_place (Ok (record { number = p.number + d })) ≡ up_by d (spot_place f)
  unfolding spot_place
  behind-at d e = rw e

  pub behind_absent : (d : ℕ) → f ≡ Err p → spot_place (Err (record { number = p.number + d })) ≡ up_by d (spot_place f)
  unfolding spot_place
  behind_absent d e = rw e

placed-is : (f : Result Spot Spot) (rs : List Row) → placed f rs ≡ spot_place f
unfolding spot_place rank
placed-is (Ok p) rs = refl
placed-is (Err p) rs = refl

-- what a search found is the place in the table
module _ (log t key : List ℕ) (m : Mark) (f : Result Spot Spot) (says : placed f (rows log t m) ≡ place_by key (rows log t m)) where
  pub found_place : spot_place f ≡ place_of log key (slots_of m.count t)
  unfolding rows
  found_place = sym (placed-is f (rows log t m)) ∙ says ∙ place-rows log key (slots_of m.count t)

  pub found_among : Among m.count (spot_place f)
  found_among = rw found_place (rw (slots_length m.count t) at (place-among log key (slots_of m.count t)))

-- ---- the code

pub set_is : (log t : List ℕ) (used n : ℕ) (key head body : List ℕ) (f g : Result ℕ ℕ) (log' t' : List ℕ) (u c : ℕ) → g ≡ f → log' ≡ put log used (bytes_of (set key (head ++ body))) → u ≡ used + size_of (set key (head ++ body))
    → Becomes t n (entered t (record { place = used + 1; klen = length key; vlen = length head + length body }) g (slots_of n t)) t' c
    → record { log = log'; used = u; table = t'; count = c } ≡ set_at (record { log = log; used = used; table = t; count = n }) f key (head ++ body)
unfolding set_at
set_is log t used n key head body f g log' t' u c eg p q b =
    let x : slots_with (record { log = log; used = used; table = t; count = n }) f key (head ++ body)
    ≡ entered t (record { place = used + 1; klen = length key; vlen = length head + length body }) g (slots_of n t) = rw (length-append head body, eg) in
    λ j. record { log = p j; used = q j; table = (b.words ∙ sym (ap (λ (ss : List Slot). laid n ss t) x)) j; count = (b.count ∙ sym (ap length x)) j }

-- ---- any table

pub set_right : (s : State) (f : Result ℕ ℕ) (k v : List ℕ) → f ≡ place_of s.log k (slots_of s.count s.table) → set_at s f k v ≡ appended s (set k v)
unfolding set_at appended
set_right s f k v e = rw e

module _ (s : State) (f : Result ℕ ℕ) (k v : List ℕ) (room : slot_words * s.count ≤ length s.table) (a : Among s.count f) where
  among-slots : Among (length (slots_of s.count s.table)) f
  among-slots = rw (slots_length s.count s.table) a

  with_fits : slot_words * length (slots_with s f k v) ≤ length s.table
  with_fits = entered-within s.table f (slots_of s.count s.table) (rw (slots_length s.count s.table) room) among-slots (slot_of s.used (set k v))

  pub set_long : length (set_at s f k v).table ≡ length s.table
  unfolding set_at
  set_long = laid-length s.count (slots_with s f k v) s.table room with_fits

  pub set-count : slot_words * (set_at s f k v).count ≤ length (set_at s f k v).table
  unfolding set_at
  set-count = rw (laid-length s.count (slots_with s f k v) s.table room with_fits) with_fits

  -- a set takes no row away
  pub set_grows : s.count ≤ (set_at s f k v).count
  unfolding set_at
  set_grows = omega (arith, go f among-slots, slots_length s.count s.table)
    where
      go : (g : Result ℕ ℕ) → Among (length (slots_of s.count s.table)) g → length (slots_of s.count s.table) ≤ length (slots_with s g k v)
      go (Ok i) q =
          rw (entered-room s.table (slot_of s.used (set k v)) (Ok i) (slots_of s.count s.table) refl, replace_length i (slot_of s.used (set k v)) (slots_of s.count s.table) q) (omega arith)
      go (Err i) q =
          elim (dec_lt (length (slots_of s.count s.table)) (length s.table / slot_words)) [
            | yes h ↦ rw (entered-room s.table (slot_of s.used (set k v)) (Err i) (slots_of s.count s.table) (lt-ltb (length (slots_of s.count s.table)) (length s.table / slot_words) h), insert_length i (slot_of s.used (set k v)) (slots_of s.count s.table) q) (omega arith)
            | no h ↦ rw (entered-full s.table (slot_of s.used (set k v)) (Err i) (slots_of s.count s.table) (le-ltb (length (slots_of s.count s.table)) (length s.table / slot_words) (omega arith))) (omega arith)
          ]

pub set-log : (s : State) (f : Result ℕ ℕ) (k v : List ℕ) → (set_at s f k v).log ≡ put s.log s.used (bytes_of (set k v))
unfolding set_at
set-log s f k v = refl

pub set-used : (s : State) (f : Result ℕ ℕ) (k v : List ℕ) → (set_at s f k v).used ≡ s.used + size_of (set k v)
unfolding set_at
set-used s f k v = refl

pub set_size : (s : State) (f : Result ℕ ℕ) (k v : List ℕ) → s.used + size_of (set k v) ≤ length s.log → length (set_at s f k v).log ≡ length s.log
set_size s f k v h = ap length (set-log s f k v) ∙ length-put s.log s.used (bytes_of (set k v)) (omega (arith, length-bytes (set k v)))

pub up_among : (n c : ℕ) (f : Result ℕ ℕ) → n ≤ c → Among n f → Among c (up_by (c - n) f)
up_among n c (Ok i) h a = omega arith
up_among n c (Err i) h a = omega arith

-- ---- a place behind a lesser key

-- as far on as the lesser key's slot was added
abbrev shift_by : Result ℕ ℕ → Result ℕ ℕ → Result ℕ ℕ
shift_by (Ok i) g = g
shift_by (Err i) g = further g

pub put-further : (s x : Slot) (ss : List Slot) (f : Result ℕ ℕ) → put_at s (further f) (x ∷ ss) ≡ x ∷ put_at s f ss
unfolding replace_at insert_at
put-further s x ss (Ok i) = refl
put-further s x ss (Err i) = refl

shift_further : (f g : Result ℕ ℕ) → further (shift_by f g) ≡ shift_by (further f) (further g)
shift_further (Ok i) g = refl
shift_further (Err i) g = refl

module _ (log : List ℕ) (s : Slot) (k : List ℕ) (less : compare_bytes (key_of log s) k ≡ Less) where
  behind_on : (x : Slot) (ss : List Slot) (o : Ordering) → compare_bytes (key_of log x) (key_of log s) ≡ o
      → place_in log k (put_at s (place_in log (key_of log s) ss) ss) ≡ shift_by (place_in log (key_of log s) ss) (place_in log k ss)
      → place_in log k (put_at s (place_in log (key_of log s) (x ∷ ss)) (x ∷ ss)) ≡ shift_by (place_in log (key_of log s) (x ∷ ss)) (place_in log k (x ∷ ss))
  unfolding place_in replace_at insert_at
  behind_on x ss Less e ih =
      let q : compare_bytes (key_of log x) k ≡ Less = compare_trans (key_of log x) (key_of log s) k e less in
      rw (e, put-further s x ss (place_in log (key_of log s) ss), q) (ap further ih ∙ shift_further (place_in log (key_of log s) ss) (place_in log k ss))
  behind_on x ss Equal e ih =
      let q : compare_bytes (key_of log x) k ≡ Less = rw (compare_equal (key_of log x) (key_of log s) e) less in
      rw (e, less, q)
  behind_on x ss Greater e ih = rw (e, less)

  place_shift : (ss : List Slot) → place_in log k (put_at s (place_in log (key_of log s) ss) ss) ≡ shift_by (place_in log (key_of log s) ss) (place_in log k ss)
  unfolding place_in insert_at
  place_shift [] = rw less
  place_shift (x ∷ ss) = behind_on x ss (compare_bytes (key_of log x) (key_of log s)) refl (place_shift ss)

  shift_up : (ss : List Slot) (f g : Result ℕ ℕ) → Among (length ss) f → shift_by f g ≡ up_by (length (put_at s f ss) - length ss) g
  shift_up ss (Ok i) g a = let e : length ss - length ss ≡ 0 = omega arith in rw (replace_length i s ss a, e) (up_none g)
    where
      up_none : (g : Result ℕ ℕ) → g ≡ up_by 0 g
      up_none (Ok j) = sym (ap Ok (add-zero j))
      up_none (Err j) = sym (ap Err (add-zero j))
  shift_up ss (Err i) g a = let e : length ss + 1 - length ss ≡ 1 = omega arith in rw (insert_length i s ss a, e) (up_one g)
    where
      up_one : (g : Result ℕ ℕ) → further g ≡ up_by 1 g
      up_one (Ok j) = let q : suc j ≡ j + 1 = omega arith in ap Ok q
      up_one (Err j) = let q : suc j ≡ j + 1 = omega arith in ap Err q

  pub place-behind : (ss : List Slot) → Among (length ss) (place_in log (key_of log s) ss)
      → place_in log k (put_at s (place_in log (key_of log s) ss) ss) ≡ up_by (length (put_at s (place_in log (key_of log s) ss) ss) - length ss) (place_in log k ss)
  place-behind ss a = place_shift ss ∙ shift_up ss (place_in log (key_of log s) ss) (place_in log k ss) a

pub among_same : (n : ℕ) (f g : Result ℕ ℕ) → g ≡ f → Among n f → Among n g
among_same n f g e a = rw e a
