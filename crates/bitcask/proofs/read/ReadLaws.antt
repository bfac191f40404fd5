-- Get and scan step keep their promise. Assumes nothing.
use Prim.Native.Nat.{ℕ, ◌≤◌, ◌<◌, max}
use mathlib.Core.Path.{◌≡◌, sym, ap, ◌∙◌}
use mathlib.Core.Bool.{Bool, true, false}
use mathlib.Core.List.{List}
use native.Mathlib.Omega.{arith}
use lib.Dec.{ltb}
use lib.ListN.{length, get_or}
use borrow.Author.Tests.{lt-ltb, le-ltb}
use Rattle.std.specs.Prelude.{Result, ℕ, Ok, Err, None, Some}
use Rattle.keycode.specs.Tests.{pick}
use Rattle.keycode.specs.declared.refusal.Refusal.TheVariants.{Absent, BadRequest}
use Rattle.keycode.specs.declared.parts.Part.{Part}
use Rattle.keycode.proofs.Basics.{nope}
use Rattle.bitcask.specs.declared.keydir.slots.Slot.{Slot}
use Rattle.bitcask.specs.keydir.Slots.{free_slot, slot_at, slots_of}
use Rattle.bitcask.specs.keydir.Place.{count_of, place_of, place_in}
use Rattle.bitcask.proofs.keydir.SlotLaws.{slots_length, slot_at_is}
use Rattle.bitcask.specs.recovery.Recover.{recovered, map_of}
use Rattle.bitcask.specs.recovery.Agree.{fit, Agrees}
use Rattle.bitcask.proofs.recovery.FoldLaws.{recovered-sorted}
use Rattle.bitcask.proofs.recovery.AgreeLaws.{agrees-slots, agrees-place}
use Rattle.bitcask.specs.declared.answers.Bound.{Bound}
use Rattle.bitcask.specs.read.Ranks.{from_bound, upto_bound, last_bound, admitted, first_of}
use Rattle.bitcask.specs.read.Promises.{Gets, key_part, value_part, Steps}
use Rattle.bitcask.proofs.read.RankLaws.{found_at}
use Rattle.bitcask.proofs.read.ScanLaws.{first-is}

-- ---- get

module _ (log : List ℕ) (used : ℕ) (t key : List ℕ) where
  pub get_bad : fit (length log) used (length t) ≡ false → Gets log used t key (Err BadRequest)
  get_bad f = record { bad = rw f; answer = λ g. nope (cc (g.sound, f)) }

  module _ (f : fit (length log) used (length t) ≡ true) (n : ℕ) (en : n ≡ count_of t) (r : Result ℕ ℕ) (er : r ≡ place_of log key (slots_of n t)) where
    place_is : Agrees log used t → r ≡ place_in log key (recovered log used)
    place_is g = er ∙ rw en (agrees-place log used t g key)

    pub get_absent : (i : ℕ) → r ≡ Err i → Gets log used t key (Err Absent)
    get_absent i e = record { bad = rw f; answer = λ g. rw (← place_is g, e) }

    pub get_at : (i : ℕ) (s : Slot) (p : Part) → r ≡ Ok i → s ≡ slot_at t i → p ≡ value_part s → Gets log used t key (Ok p)
    get_at i s p e es ep =
        record {
          bad = rw f;
          answer = λ g.
              let l : i < n = found_at log key t n r er i e in
              let q : s ≡ get_or (recovered log used) i free_slot = es ∙ slot_at_is n t i l ∙ rw en (ap (λ (ss : List Slot). get_or ss i free_slot) (agrees-slots log used t g)) in
              rw (← place_is g, e) (ap Ok (ep ∙ ap value_part q));
        }

-- ---- scan step

-- the number to start at, by what the two lower bounds are
pub start_by : (log : List ℕ) (ss : List Slot) (lower : Bound) (low : List ℕ) (given : Bool) (last : List ℕ) (a b start : ℕ) (k : Bound) → a ≡ from_bound lower log low ss → k ≡ last_bound given
    → b ≡ from_bound k log last ss → start ≡ max a b → start ≡ max (from_bound lower log low ss) (from_bound (last_bound given) log last ss)
start_by log ss lower low given last a b start k ea ek eb es = rw (es, ea, eb, ek)

module _ (log : List ℕ) (used : ℕ) (t : List ℕ) (lower : Bound) (low : List ℕ) (upper : Bound) (high : List ℕ) (given : Bool) (last : List ℕ) where
  pub step-bad : fit (length log) used (length t) ≡ false → Steps log used t lower low upper high given last (Err BadRequest)
  step-bad f = record { bad = rw f; answer = λ g. nope (cc (g.sound, f)) }

  -- the numbers that the code has found: where it starts, and where it ends
  module _ (f : fit (length log) used (length t) ≡ true) (n start end : ℕ) (en : n ≡ count_of t)
      (es : start ≡ max (from_bound lower log low (slots_of n t)) (from_bound (last_bound given) log last (slots_of n t))) (ee : end ≡ upto_bound upper log high (slots_of n t)) (le : end ≤ n) where
    first-here : Agrees log used t → first_of (admitted lower low upper high given last) 0 (map_of log used) ≡ pick (ltb start end) (Some start) None
    unfolding map_of
    first-here g =
        let ss : List Slot = recovered log used in
        let q : slots_of n t ≡ ss = rw en (agrees-slots log used t g) in
        let u : upto_bound upper log high ss ≡ end = sym (ee ∙ rw q) in
        let w : max (from_bound lower log low ss) (from_bound (last_bound given) log last ss) ≡ start = sym (es ∙ rw q) in
        let l : upto_bound upper log high ss ≤ length ss = omega (arith, ap length q, slots_length n t) in
        first-is log ss (recovered-sorted log used) lower low upper high given last l ∙ rw (u, w)

    pub step-none : end ≤ start → Steps log used t lower low upper high given last (Err Absent)
    step-none h = record { bad = rw f; answer = λ g. rw (first-here g, le-ltb start end h) }

    pub step-next : (s : Slot) (k v : Part) → start < end → s ≡ slot_at t start → k ≡ key_part s → v ≡ value_part s → Steps log used t lower low upper high given last (Ok (record { key = k; value = v }))
    step-next s k v h e ek ev =
        record {
          bad = rw f;
          answer = λ g.
              let q : s ≡ get_or (recovered log used) start free_slot = e ∙ slot_at_is n t start (omega arith) ∙ rw en (ap (λ (ss : List Slot). get_or ss start free_slot) (agrees-slots log used t g)) in
              rw (first-here g, lt-ltb start end h, ek, ev, q);
        }
