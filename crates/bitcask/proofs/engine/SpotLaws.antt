-- What the functions on spots answer, for any table. Assumes nothing.
use Prim.Native.Nat.{ℕ, ◌+◌, ◌-◌, ◌*◌, ◌^◌, ◌≤◌, ◌<◌}
use mathlib.Core.Path.{◌≡◌, refl, sym, ap, ◌∙◌}
use mathlib.Core.Bool.{Bool, true, false, not}
use mathlib.Core.List.{List}
use native.Mathlib.Omega.{arith}
use lib.ListN.{length, drop, length-take, length-drop}
use borrow.Author.Tests.{not-true, not-false}
use Rattle.std.specs.Prelude.{Result, ℕ, Ok, Err}
use Rattle.keycode.specs.declared.refusal.Refusal.{Refusal}
use Rattle.keycode.specs.declared.refusal.Refusal.TheVariants.{BadRequest}
use Rattle.bitcask.specs.declared.keydir.slots.Slot.{Slot}
use Rattle.bitcask.specs.keydir.Slots.{slot_words, slot_at, slots_of, key_of, value_of}
use Rattle.bitcask.specs.keydir.Place.{place_of, count_of}
use Rattle.bitcask.proofs.keydir.SlotLaws.{slot_at_is}
use Rattle.bitcask.proofs.keydir.CountLaws.{count-within}
use Rattle.keycode.proofs.Basics.{nope}
use Rattle.bitcask.specs.declared.request.Used.{Used}
use Rattle.bitcask.specs.recovery.Agree.{fit, Agrees}
use Rattle.bitcask.proofs.recovery.AgreeLaws.{fit-sound}
use Rattle.bitcask.specs.declared.answers.Bound.{Bound}
use Rattle.bitcask.specs.read.Ranks.{from_bound, upto_bound}
use Rattle.bitcask.specs.declared.engine.mark.Mark.{Mark}
use Rattle.bitcask.specs.declared.engine.spot.Spot.{Spot}
use Rattle.bitcask.specs.engine.Rows.{Row, row_of, rows, key_place, value_place, offset_of}
use Rattle.bitcask.specs.engine.Marks.{mark_of, entered_by, Held, Agreeing}
use Rattle.bitcask.specs.engine.Spots.{rank, row_at, placed, place_by, from_rank, upto_rank}
use Rattle.bitcask.proofs.engine.RowLaws.{rows_at, rows-count, place-rows, from-rows, upto-rows}

-- ---- the way in

module _ (log : List ℕ) (used : Used) (t : List ℕ) (b : Bool) (says : b ≡ fit (length log) used.len (length t)) where
  pub enter_bad : not b ≡ true → Err BadRequest ≡ entered_by log used t
  unfolding entered_by
  enter_bad e = rw (← says, not-true b e)

  pub enter_in : not b ≡ false → (n : ℕ) → n ≡ count_of t → Ok (record { used = used; count = n }) ≡ entered_by log used t
  unfolding entered_by
  enter_in e n en = rw (← says, not-false b e, en)

-- what a caller knows of an answer
module _ (log : List ℕ) (used : Used) (t : List ℕ) (r : Result Mark Refusal) (says : r ≡ entered_by log used t) where
  pub in_fits : (m : Mark) → r ≡ Ok m → (fit (length log) used.len (length t) ≡ true) × (m ≡ mark_of used t)
  unfolding entered_by
  in_fits m e = go (fit (length log) used.len (length t)) refl
    where
      go : (b : Bool) → fit (length log) used.len (length t) ≡ b → (fit (length log) used.len (length t) ≡ true) × (m ≡ mark_of used t)
      go true f = let q : Ok m ≡ Ok (mark_of used t) = sym e ∙ says ∙ rw f in (f, cc)
      go false f = let q : Ok m ≡ Err BadRequest = sym e ∙ says ∙ rw f in nope (cc)

  pub in_held : (m : Mark) → r ≡ Ok m → Held log t m
  in_held m e =
      let w = in_fits m e in
      let s = fit-sound (length log) used.len (length t) w.0 in
      rw w.1 (record { small = s.small; within = s.within; room = count-within t })

  pub in_agreeing : (m : Mark) → r ≡ Ok m → Agrees log used.len t → Agreeing log t m
  in_agreeing m e g = rw (in_fits m e).1 (record { agrees = g; count = refl })

  pub refused_fits : (x : Refusal) → r ≡ Err x → (fit (length log) used.len (length t) ≡ false) × (x ≡ BadRequest)
  unfolding entered_by
  refused_fits x e = go (fit (length log) used.len (length t)) refl
    where
      go : (b : Bool) → fit (length log) used.len (length t) ≡ b → (fit (length log) used.len (length t) ≡ false) × (x ≡ BadRequest)
      go true f = let q : ◌≡◌ {A = Result Mark Refusal} (Err x) (Ok (mark_of used t)) = sym e ∙ says ∙ rw f in nope (cc)
      go false f = let q : ◌≡◌ {A = Result Mark Refusal} (Err x) (Err BadRequest) = sym e ∙ says ∙ rw f in (f, cc)

-- ---- places

module _ (log t : List ℕ) (m : Mark) where
  module _ (key : List ℕ) (f : Result ℕ ℕ) (says : f ≡ place_of log key (slots_of m.count t)) (i : ℕ) where
    pub find_at : f ≡ Ok i → placed (Ok (record { number = i })) (rows log t m) ≡ place_by key (rows log t m)
    unfolding rows rank
    find_at e = sym (place-rows log key (slots_of m.count t) ∙ sym says ∙ e)

    pub find_absent : f ≡ Err i → placed (Err (record { number = i })) (rows log t m) ≡ place_by key (rows log t m)
    unfolding rows rank
    find_absent e = sym (place-rows log key (slots_of m.count t) ∙ sym says ∙ e)

  module _ (b : Bound) (key : List ℕ) (n : ℕ) where
    pub first-is : n ≡ from_bound b log key (slots_of m.count t) → rank (record { number = n }) (rows log t m) ≡ from_rank b key (rows log t m)
    unfolding rows rank
    first-is e = e ∙ sym (from-rows log key (slots_of m.count t) b)

    pub past_is : n ≡ upto_bound b log key (slots_of m.count t) → rank (record { number = n }) (rows log t m) ≡ upto_rank b key (rows log t m)
    unfolding rows rank
    past_is e = e ∙ sym (upto-rows log key (slots_of m.count t) b)

  pub next-is : (p : Spot) → rank (record { number = p.number + 1 }) (rows log t m) ≡ rank p (rows log t m) + 1
  unfolding rank
  next-is p = refl

  pub next-within : (p : Spot) → Held log t m → rank p (rows log t m) < length (rows log t m) → p.number + 1 ≤ length t
  unfolding rank
  next-within p h k = omega (arith, rows-count log t m, h.room)

  pub previous_some : (p : Spot) → 0 < rank p (rows log t m) → 1 ≤ p.number
  unfolding rank
  previous_some p h = omega arith

  pub previous_is : (p : Spot) → 0 < rank p (rows log t m) → rank (record { number = p.number - 1 }) (rows log t m) + 1 ≡ rank p (rows log t m)
  unfolding rank
  previous_is p h = omega arith

-- ---- what stands at a spot

module _ (log t : List ℕ) (m : Mark) (p : Spot) (h : Held log t m) (k : rank p (rows log t m) < length (rows log t m)) where
  pub spot_within : slot_words * p.number + slot_words ≤ length t
  unfolding rank
  spot_within = omega (arith, rows-count log t m, h.room)

  module _ {s : Slot} (es : s ≡ slot_at t p.number) where
    pub row_is : row_at p (rows log t m) ≡ row_of log s
    unfolding row_at rank rows
    row_is =
        rows_at log (slots_of m.count t) p.number
        ∙ ap (row_of log) (sym (es ∙ slot_at_is m.count t p.number (omega (arith, rows-count log t m))))

    pub key-is : {r : List ℕ} → r ≡ key_of log s → r ≡ (row_at p (rows log t m)).key
    key-is e = e ∙ sym (ap (λ (x : Row). x.key) row_is)

    pub value-is : {r : List ℕ} → r ≡ value_of log s → r ≡ (row_at p (rows log t m)).value
    value-is e = e ∙ sym (ap (λ (x : Row). x.value) row_is)

    pub offset_is : {n : ℕ} → n ≡ s.place - 1 → n ≡ offset_of (row_at p (rows log t m))
    offset_is e = rw row_is (omega arith)

    module _ {a : ℕ} (ea : a ≡ s.place + 7) (la : a < 4294967303) where
      module _ {r : List ℕ} (er : r ≡ key_of log s) where
        key-short : length r ≤ length log
        unfolding key_of
        key-short = omega (arith, ap length er, length-take s.klen (drop (s.place + 7) log), length-drop (s.place + 7) log)

        pub key_place_is : (record { at = a; len = length r } ≡ key_place (row_at p (rows log t m))) × (a + length r < 2 ^ 63)
        key_place_is = ((λ j. record { at = ea j; len = length (er j) }) ∙ sym (ap key_place row_is), omega (arith, key-short, h.small))

        module _ {v : List ℕ} (ev : v ≡ value_of log s) where
          value-short : length v ≤ length log
          unfolding value_of
          value-short = omega (arith, ap length ev, length-take s.vlen (drop (s.place + 7 + s.klen) log), length-drop (s.place + 7 + s.klen) log)

          pub value_place_is : (record { at = a + length r; len = length v } ≡ value_place (row_at p (rows log t m))) × (a + length r + length v < 2 ^ 63)
          value_place_is =
              ((λ j. record { at = ea j + length (er j); len = length (ev j) }) ∙ sym (ap value_place row_is), omega (arith, key-short, value-short, h.small))
