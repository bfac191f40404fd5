-- Laws of the walk over all entries: one step with room, all entries passed into a clear table, and the answer of opening. Assumes
-- nothing.
use Prim.Native.Nat.{ℕ, ◌-◌, ◌/◌, ◌≤◌}
use mathlib.Core.Path.{◌≡◌, refl, sym, ap, ◌∙◌, subst}
use mathlib.Core.Bool.{Bool, true, false}
use mathlib.Core.List.{List, []}
use native.Mathlib.Omega.{arith}
use lib.ListN.{length, replicate}
use borrow.Author.Tests.{ltb-true}
use Rattle.std.specs.Prelude.{Result, ℕ, Ok, Err, Option, None, Some}
use Rattle.bitcask.specs.declared.request.Used.{Used}
use Rattle.keycode.specs.declared.refusal.Refusal.{Refusal}
use Rattle.keycode.specs.Tests.{pick}
use Rattle.keycode.specs.declared.refusal.Refusal.TheVariants.{TableFull, BadRequest}
use Rattle.keycode.proofs.Basics.{nope}
use Rattle.bitcask.specs.declared.keydir.slots.Slot.{Slot}
use Rattle.bitcask.specs.keydir.Slots.{slot_words}
use Rattle.bitcask.specs.keydir.Place.{Among, sorted_none}
use Rattle.bitcask.proofs.keydir.SlotLaws.{insert_length, replace_length, remove_length}
use Rattle.bitcask.proofs.keydir.TableLaws.{table_empty}
use Rattle.bitcask.specs.recovery.Recover.{Item, items, ends, room_for, step_at, step_in, run, items_of}
use Rattle.bitcask.specs.recovery.Agree.{fit}
use Rattle.bitcask.specs.recovery.Promises.{open_answer, open_table, Walks, Opens, opened_words}
use Rattle.bitcask.proofs.recovery.AgreeLaws.{Sound, fit-sound}
use Rattle.bitcask.specs.declared.recovery.passing.Passed.{Passed}
use Rattle.bitcask.specs.recovery.Passing.{Tidy, passed_by, Passes}

-- ---- one step with room

pick_some : {A : Type 0} (b : Bool) (x : A) {y : A} → pick b (Some x) None ≡ Some y → (b ≡ true) × (y ≡ x)
pick_some true x e = (refl, cc)
pick_some false x e = nope (cc)

module _ (cap : ℕ) (i : Item) (f : Result ℕ ℕ) (ss : List Slot) {r : List Slot} (e : step_in cap i f ss ≡ Some r) where
  -- it is the step
  pub step_some : (room_for cap i.gone f (length ss) ≡ true) × (r ≡ step_at i.gone i.slot f ss)
  unfolding step_in
  step_some = pick_some (room_for cap i.gone f (length ss)) (step_at i.gone i.slot f ss) e

-- and keeps within the room
room_at : (cap : ℕ) (g : Bool) (s : Slot) (f : Result ℕ ℕ) (ss : List Slot) → room_for cap g f (length ss) ≡ true → Among (length ss) f → length ss ≤ cap → length (step_at g s f ss) ≤ cap
room_at cap false s (Ok i) ss e a h = rw (replace_length i s ss a) h
room_at cap false s (Err i) ss e a h = rw (insert_length i s ss a) (omega (arith, ltb-true (length ss) cap e))
room_at cap true s (Ok i) ss e a h = rw (remove_length i ss a) (omega arith)
room_at cap true s (Err i) ss e a h = h

pub step_room : (cap : ℕ) (i : Item) (f : Result ℕ ℕ) (ss : List Slot) {r : List Slot} → step_in cap i f ss ≡ Some r → Among (length ss) f → length ss ≤ cap → length r ≤ cap
step_room cap i f ss e a h =
    let p = step_some cap i f ss e in
    rw p.1 (room_at cap i.gone i.slot f ss p.0 a h)

-- ---- all entries, into a clear table

-- as many as the log has bytes are all
all-items : (log : List ℕ) (used : ℕ) → items_of used log used 0 ≡ items log used 0
unfolding items
all-items log used = let e : used ≡ used - 0 = omega arith in ap (λ (k : ℕ). items_of k log used 0) e

tidy_clear : (log t : List ℕ) → t ≡ replicate (length t) 0 → Tidy log t 0 []
tidy_clear log t e = record { words = e ∙ table_empty (length t); count = refl; room = omega arith; sorted = sorted_none }

full-none : (o : Option (List Slot)) (a l : ℕ) {f : Refusal} → passed_by o a l ≡ Err f → (o ≡ None) × (f ≡ TableFull)
full-none None a l e = (refl, cc)
full-none (Some ss) a l e = nope (cc)

on_some : (o : Option (List Slot)) (a l : ℕ) (p : Passed) → passed_by o a l ≡ Ok p → (ss : List Slot) × (o ≡ Some ss) × (a ≡ p.at)
on_some None a l p e = nope (cc)
on_some (Some ss) a l p e = (let f : ◌≡◌ {A = Passed} (record { at = a; count = length ss; left = l }) p = cc in (ss, refl, ap (λ (x : Passed). x.at) f))

walks_full : (log : List ℕ) (used n : ℕ) (t' : List ℕ) (o : Option (List Slot)) → run log (n / slot_words) (items log used 0) [] ≡ o → o ≡ None
    → t' ≡ opened_words n o → Walks log used n (Err TableFull) t'
walks_full log used n t' None q e w = record { answer = rw q; table = rw q w }
walks_full log used n t' (Some ss) q e w = nope (cc)

walks_done : (log : List ℕ) (used n : ℕ) (t' : List ℕ) (o : Option (List Slot)) (ss : List Slot) (a : ℕ) → run log (n / slot_words) (items log used 0) [] ≡ o
    → o ≡ Some ss → ends 0 (items log used 0) ≡ a → t' ≡ opened_words n o
    → Walks log used n (Ok (record { len = a })) t'
walks_done log used n t' None ss a q e f w = nope (cc)
walks_done log used n t' (Some rs) ss a q e f w = record { answer = rw (q, f); table = rw q w }

module _ (log : List ℕ) (used : ℕ) (t : List ℕ) (e : t ≡ replicate (length t) 0) {r : Result Passed Refusal} {t' : List ℕ} (w : Passes log used t 0 0 used r t') where
  same : run log (length t / slot_words) (items log used 0) [] ≡ run log (length t / slot_words) (items_of used log used 0) []
  same = ap (λ (is : List Item). run log (length t / slot_words) is []) (sym (all-items log used))

  pub walk_refused : {f : Refusal} → r ≡ Err f → Walks log used (length t) (Err f) t'
  walk_refused {f} q =
      let y = tidy_clear log t e in
      let z = full-none (run log (length t / slot_words) (items_of used log used 0) []) (ends 0 (items_of used log used 0)) (used - length (items_of used log used 0)) (sym
      (w.answer [] y) ∙ q) in
      rw z.1 (walks_full log used (length t) t' (run log (length t / slot_words) (items_of used log used 0) []) same z.0 (w.table [] y))

  pub walk_done : (p : Passed) → r ≡ Ok p → Walks log used (length t) (Ok (record { len = p.at })) t'
  walk_done p q =
      let y = tidy_clear log t e in
      let z = on_some (run log (length t / slot_words) (items_of used log used 0) []) (ends 0 (items_of used log used 0)) (used - length (items_of used log used 0)) p
      (sym (w.answer [] y) ∙ q) in
      walks_done log used (length t) t' (run log (length t / slot_words) (items_of used log used 0) []) z.0 p.at same z.1 (ap (ends 0) (sym (all-items log used)) ∙ z.2) (w.table [] y)

-- ---- opening, by the test of the sizes and the walk

module _ (log : List ℕ) (used : ℕ) (t : List ℕ) {b : Bool} {t₁ : List ℕ} (e : t₁ ≡ replicate (length t) 0) (l : length t₁ ≡ length t) (f : b ≡ fit (length log) used (length t₁)) where
  pub open_bad : b ≡ false → Opens log used t (Err BadRequest) t₁
  unfolding open_answer open_table
  open_bad q =
      let p : fit (length log) used (length t) ≡ false = sym (f ∙ ap (fit (length log) used) l) ∙ q in
      record { answer = rw p; table = rw p e }

  module _ (q : b ≡ true) where
    pub open_sound : Sound (length log) used (length t₁)
    open_sound = fit-sound (length log) used (length t₁) (sym f ∙ q)

    pub open_clear : t₁ ≡ replicate (length t₁) 0
    open_clear = e ∙ ap (λ (n : ℕ). replicate n 0) (sym l)

    pub open_walked : {r : Result Used Refusal} {t' : List ℕ} → Walks log used (length t₁) r t' → Opens log used t r t'
    unfolding open_answer open_table
    open_walked {r} {t'} w =
        let p : fit (length log) used (length t) ≡ true = sym (f ∙ ap (fit (length log) used) l) ∙ q in
        let v : Walks log used (length t) r t' = subst (λ (n : ℕ). Walks log used n r t') l w in
        record { answer = rw p v.answer; table = rw p v.table }
