-- Laws of one entry of an opening, for any words: what its parts leave, by what the code has found and read. Assumes nothing.
use Prim.Native.Nat.{ℕ, ◌+◌, ◌/◌, ◌≤◌}
use mathlib.Core.Path.{◌≡◌, refl, sym, ap, ◌∙◌}
use mathlib.Core.Bool.{Bool, true, false}
use mathlib.Core.List.{List}
use native.Mathlib.Omega.{arith}
use lib.ListN.{length}
use Rattle.std.specs.Prelude.{Result, ℕ, Ok, Err, None, Some, Option}
use Rattle.bitcask.specs.declared.entry.read.Lengths.{Lengths}
use Rattle.bitcask.specs.declared.entry.read.Lengths.TheVariants.{Set, Del}
use Rattle.bitcask.specs.entry.Reading.{entry_at}
use Rattle.bitcask.proofs.entry.ReadingLaws.{entry-within}
use Rattle.bitcask.specs.declared.keydir.slots.Slot.{Slot}
use Rattle.bitcask.specs.keydir.Slots.{slot_words, slots_of, key_of}
use Rattle.bitcask.specs.keydir.Place.{place_of, Among, put_at, cut_at, room_at, entered, Becomes}
use Rattle.bitcask.proofs.keydir.SlotLaws.{slots_length}
use Rattle.bitcask.proofs.keydir.PlaceLaws.{place-among}
use Rattle.bitcask.proofs.keydir.TableLaws.{entered-room}
use Rattle.host.specs.declared.opening.Next.{Next}
use Rattle.keycode.specs.declared.refusal.Refusal.{Refusal}
use Rattle.keycode.specs.declared.refusal.Refusal.TheVariants.{TableFull}
use Rattle.bitcask.specs.recovery.Recover.{Item, room_for, step_in}
use Rattle.host.specs.Taking.{tried, went_on, Takes, TakesEntry}

-- ---- an entry, at the place that was found

-- of an entry's new slots
takes_some : (log t : List ℕ) (n : ℕ) (i : Item) (end : ℕ) {ss : List Slot} {r : ℕ} {t' : List ℕ} → tried log t n i ≡ Some ss → Becomes t n ss t' r → Takes log t n i end (Ok (record { at = end; count = r })) t'
takes_some log t n i end q w = record { answer = rw q (ap (λ (m : ℕ). Ok (record { at = end; count = m })) w.count); words = rw q w.words }

same-room : (t : List ℕ) (f : Result ℕ ℕ) (ss : List Slot) → room_at t f ss ≡ room_for (length t / slot_words) false f (length ss)
same-room t (Ok i) ss = refl
same-room t (Err i) ss = refl

module _ (log t : List ℕ) (n : ℕ) (s : Slot) {key : List ℕ} {f : Result ℕ ℕ} (ek : key ≡ key_of log s) (ef : f ≡ place_of log key (slots_of n t)) where
  pub found_among : Among n f
  found_among = rw ef (rw (slots_length n t) at (place-among log key (slots_of n t)))

  tried-is : (g : Bool) → tried log t n (record { slot = s; gone = g }) ≡ step_in (length t / slot_words) (record { slot = s; gone = g }) f (slots_of n t)
  unfolding tried
  tried-is g = rw (ef, ek)

  pub del_takes : (end : ℕ) {r : ℕ} {t' : List ℕ} → Becomes t n (cut_at f (slots_of n t)) t' r → Takes log t n (record { slot = s; gone = true }) end (Ok (record { at = end; count = r })) t'
  unfolding step_in
  del_takes end w = takes_some log t n (record { slot = s; gone = true }) end (tried-is true) w

  module _ (end : ℕ) {b : Bool} (eb : b ≡ room_for (length t / slot_words) false f n) where
    room-is : room_for (length t / slot_words) false f (length (slots_of n t)) ≡ b
    room-is = rw (slots_length n t) (sym eb)

    pub set_full : b ≡ false → Takes log t n (record { slot = s; gone = false }) end (Err TableFull) t
    unfolding step_in
    set_full e =
        let q : tried log t n (record { slot = s; gone = false }) ≡ None = tried-is false ∙ rw (room-is, e) in
        record { answer = rw q; words = rw q }

    pub set_takes : {r : ℕ} {t' : List ℕ} → b ≡ true → Becomes t n (entered t s f (slots_of n t)) t' r → Takes log t n (record { slot = s; gone = false }) end (Ok (record { at = end; count = r })) t'
    unfolding step_in
    set_takes e w =
        let q : tried log t n (record { slot = s; gone = false }) ≡ Some (put_at s f (slots_of n t)) = tried-is false ∙ rw (room-is, e) in
        let p : entered t s f (slots_of n t) ≡ put_at s f (slots_of n t) = entered-room t s f (slots_of n t) (same-room t f (slots_of n t) ∙ room-is ∙ e) in
        takes_some log t n (record { slot = s; gone = false }) end q (rw p at w)

-- ---- what stands at an offset, by what was read

module _ (log : List ℕ) (used : ℕ) (t : List ℕ) (n at : ℕ) {e : Option Lengths} (er : e ≡ entry_at log used at) where
  module _ (h : at ≤ used) where
    pub set-within : (k v : ℕ) → e ≡ (Some (Set k v)) → at + 8 + k + v ≤ used
    set-within k v q = let w = entry-within log used at (sym er ∙ q) h in omega arith

    pub del-within : (k : ℕ) → e ≡ (Some (Del k)) → at + 8 + k ≤ used
    del-within k q = let w = entry-within log used at (sym er ∙ q) h in omega arith

  pub entry_set : (k v : ℕ) {s : Slot} {r : Result Next Refusal} {t' : List ℕ} → e ≡ (Some (Set k v)) → s ≡ record { place = at + 1; klen = k; vlen = v }
      → Takes log t n (record { slot = s; gone = false }) (at + 8 + k + v) r t' → TakesEntry log used t n at (went_on r) t'
  entry_set k v q es w =
      let p : entry_at log used at ≡ (Some (Set k v)) = sym er ∙ q in
      let m : at + 8 + k + v ≡ at + 1 + 7 + k + v = omega arith in
      let x = rw (es, m) at w in
      record { answer = rw p (ap went_on x.answer); words = rw p x.words }

  pub entry-del : (k : ℕ) {s : Slot} {r : Result Next Refusal} {t' : List ℕ} → e ≡ (Some (Del k)) → s ≡ record { place = at + 1; klen = k; vlen = 0 }
      → Takes log t n (record { slot = s; gone = true }) (at + 8 + k) r t' → TakesEntry log used t n at (went_on r) t'
  entry-del k q es w =
      let p : entry_at log used at ≡ (Some (Del k)) = sym er ∙ q in
      let m : at + 8 + k ≡ at + 1 + 7 + k + 0 = omega arith in
      let x = rw (es, m) at w in
      record { answer = rw p (ap went_on x.answer); words = rw p x.words }
