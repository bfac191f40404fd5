-- Laws of the entry at an offset, by what was read there, and of what its answer says. Assumes nothing.
use Prim.Native.Nat.{ℕ, ◌+◌, ◌*◌, ◌/◌, ◌≤◌}
use mathlib.Core.Path.{◌≡◌, refl, sym, ap, ◌∙◌, subst}
use mathlib.Core.Bool.{true, false}
use Rattle.std.specs.Prelude.{Result, Ok, Err, Option, None, Some}
use mathlib.Core.List.{List}
use native.Mathlib.Omega.{arith}
use lib.ListN.{length}
use borrow.Author.Tests.{eq-eqb, ne_eqb}
use Rattle.keycode.specs.Limits.{max_log}
use Rattle.keycode.proofs.Basics.{nope}
use Rattle.bitcask.specs.declared.entry.read.Lengths.{Lengths}
use Rattle.bitcask.specs.declared.entry.read.Lengths.TheVariants.{Set, Del}
use Rattle.bitcask.specs.entry.Reading.{entry_at}
use Rattle.bitcask.proofs.entry.ReadingLaws.{entry-within}
use Rattle.bitcask.specs.declared.keydir.slots.Slot.{Slot}
use Rattle.bitcask.specs.keydir.Slots.{slot_words, key_of}
use Rattle.bitcask.specs.keydir.Place.{place_in, cut_at}
use Rattle.bitcask.specs.merging.Merge.{gone_mark, is_gone}
use Rattle.bitcask.specs.declared.recovery.waiting.Held.{Held}
use Rattle.bitcask.specs.declared.recovery.waiting.Next.{Next}
use Rattle.keycode.specs.declared.refusal.Refusal.{Refusal}
use Rattle.keycode.specs.declared.refusal.Refusal.TheVariants.{TableFull}
use Rattle.bitcask.specs.recovery.Recover.{Item, item_of, next, step_in}
use Rattle.bitcask.specs.recovery.Waiting.{Holds, Answers, answers-full, answers_next, Enters, Leaves}
use Rattle.bitcask.specs.recovery.Passing.{standing, TakesEntry}
use Rattle.bitcask.proofs.recovery.EnterLaws.{on_within}

-- ---- one entry

pub not_gone : (v : ℕ) {s : Slot} (p k : ℕ) → v ≤ max_log → s ≡ record { place = p; klen = k; vlen = v } → is_gone s ≡ false
unfolding is_gone
not_gone v p k h e = rw e (ne_eqb v gone_mark (λ q. absurd (omega arith)))

pub is_marked : {s : Slot} (p k : ℕ) → s ≡ record { place = p; klen = k; vlen = gone_mark } → is_gone s ≡ true
unfolding is_gone
is_marked p k e = rw e (eq-eqb gone_mark gone_mark refl)

key_marked : (log : List ℕ) (p k v v' : ℕ) → key_of log (record { place = p; klen = k; vlen = v }) ≡ key_of log (record { place = p; klen = k; vlen = v' })
unfolding key_of
key_marked log p k v v' = refl

del-step : (log : List ℕ) (cap : ℕ) (s : Slot) (r : List Slot) → Some (cut_at (place_in log (key_of log s) r) r) ≡ step_in cap (record { slot = s; gone = true }) (place_in log (key_of log s) r) r
unfolding step_in
del-step log cap s r = refl

del_enters : (log t pd : List ℕ) (h h' : Held) (pd' : List ℕ) (at k : ℕ) → slot_words * h'.count ≤ length t → h'.waiting ≤ h.waiting + 1
    → ((r : List Slot) → Holds log t pd h r → Holds log t pd' h' (cut_at (place_in log (key_of log (record { place = at + 1; klen = k; vlen = 0 })) r) r))
    → Enters log t pd h (record { slot = record { place = at + 1; klen = k; vlen = 0 }; gone = true }) (at + 1 + 7 + k + 0) (Ok (record { at = at + 8 + k; held = h' })) t pd'
del_enters log t pd h h' pd' at k p q x =
    let s : Slot = record { place = at + 1; klen = k; vlen = 0 } in
    let i : Item = record { slot = s; gone = true } in
    let end : ℕ = at + 1 + 7 + k + 0 in
    let m : end ≡ at + 8 + k = omega arith in
    subst (λ (z : ℕ). Enters log t pd h i end (Ok (record { at = z; held = h' })) t pd') m
    (record {
      within = on_within end h' (length t) h.waiting p q;
      exact = λ r w. subst (λ (o : Option (List Slot)). Answers log t pd' end (Ok (record { at = end; held = h' })) o) (del-step log (length t / slot_words) s r) (answers_next (x r w));
    })

module _ (log : List ℕ) (used : ℕ) (t pd : List ℕ) (h : Held) (at : ℕ) {e : Option Lengths} (er : e ≡ entry_at log used at) where
  module _ (u : at ≤ used) where
    pub set-inside : (k v : ℕ) → e ≡ (Some (Set k v)) → at + 8 + k + v ≤ used
    set-inside k v q = let w = entry-within log used at (sym er ∙ q) u in omega arith

    pub del-inside : (k : ℕ) → e ≡ (Some (Del k)) → at + 8 + k ≤ used
    del-inside k q = let w = entry-within log used at (sym er ∙ q) u in omega arith

  pub entry_set : (k v : ℕ) {s : Slot} {a : Result Next Refusal} {o : Result (Option Next) Refusal} {t' pd' : List ℕ} → e ≡ (Some (Set k v))
      → s ≡ record { place = at + 1; klen = k; vlen = v }
      → Enters log t pd h (record { slot = s; gone = false }) (at + 8 + k + v) a t' pd' → o ≡ standing a → TakesEntry log used t pd h at o t' pd'
  entry_set k v {s} {a} {o} {t'} {pd'} q es w eo =
      let p : entry_at log used at ≡ (Some (Set k v)) = sym er ∙ q in
      let m : at + 8 + k + v ≡ at + 1 + 7 + k + v = omega arith in
      let i₀ : Item = record { slot = record { place = at + 1; klen = k; vlen = v }; gone = false } in
      let x : Enters log t pd h i₀ (next i₀) a t' pd' = rw (es, m) at w in
      record {
        entry = λ i f. (let y : i₀ ≡ i = cc (ap (λ (z : Option Lengths). item_of z at) p) in (a, eo, subst (λ (z : Item). Enters log t pd h z (next z) a t' pd') y x));
        stop = λ f. nope (cc (ap (λ (z : Option Lengths). item_of z at) p));
      }

  pub entry-del : (k : ℕ) {s : Slot} {h' : Held} {pd' : List ℕ} → slot_words * h.count ≤ length t → e ≡ (Some (Del k)) → s ≡ record { place = at + 1; klen = k; vlen = gone_mark }
      → Leaves log t pd h s h' pd' → TakesEntry log used t pd h at (Ok (Some (record { at = at + 8 + k; held = h' }))) t pd'
  entry-del k {s} {h'} {pd'} tr q es w =
      let p : entry_at log used at ≡ (Some (Del k)) = sym er ∙ q in
      let i₀ : Item = record { slot = record { place = at + 1; klen = k; vlen = 0 }; gone = true } in
      let a : Result Next Refusal = Ok (record { at = at + 8 + k; held = h' }) in
      record {
        entry = λ i f. (let y : i₀ ≡ i = cc (ap (λ (z : Option Lengths). item_of z at) p) in (
          a,
          refl,
          subst (λ (z : Item). Enters log t pd h z (next z) a t pd') y
              (del_enters log t pd h h' pd' at k (rw w.count tr) w.within (λ r v. subst (λ (x : List ℕ). Holds log t pd' h' (cut_at (place_in log x r) r)) (ap
              (key_of log) es ∙ key_marked log (at + 1) k gone_mark 0) (w.exact r v))),
        ));
        stop = λ f. nope (cc (ap (λ (z : Option Lengths). item_of z at) p));
      }

-- ---- what an answer says

pub full-says : {log t pd : List ℕ} {end : ℕ} {o : Result Next Refusal} {q : Option (List Slot)} {f : Refusal} → Answers log t pd end o q → o ≡ Err f → (q ≡ None) × (f ≡ TableFull)
full-says answers-full e = (refl, cc)
full-says (answers_next w) e = nope (cc)

pub next-says : {log t pd : List ℕ} {end : ℕ} {o : Result Next Refusal} {q : Option (List Slot)} → Answers log t pd end o q → (x : Next) → o ≡ Ok x
    → (r : List Slot) × (q ≡ Some r) × Holds log t pd x.held r
next-says answers-full x e = nope (cc)
next-says {log} {t} {pd} {end} (answers_next {h = g} {r = r} w) x e =
    let f : ◌≡◌ {A = Next} (record { at = end; held = g }) x = cc in
    (r, refl, subst (λ (y : Next). Holds log t pd y.held r) f w)
