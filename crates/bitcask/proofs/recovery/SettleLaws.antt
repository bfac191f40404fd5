-- Laws of the changes brought in, and of the small tests of what waits. Assumes nothing.
use Prim.Native.Nat.{ℕ, ◌*◌, ◌/◌, ◌≤◌}
use mathlib.Core.Path.{◌≡◌, refl, sym, ap, ◌∙◌, subst}
use mathlib.Core.Bool.{Bool, false}
use mathlib.Core.List.{List}
use native.Mathlib.Omega.{arith}
use lib.ListN.{length}
use Rattle.std.specs.Prelude.{Result, ℕ, Ok, Err}
use Rattle.bitcask.specs.declared.keydir.slots.Slot.{Slot}
use Rattle.bitcask.specs.keydir.Slots.{slot_words, slot_at, slots_of, table_of, key_of}
use Rattle.bitcask.specs.keydir.Place.{place_of, Among, Sorted, sorted_none, laid, Becomes}
use Rattle.bitcask.proofs.keydir.SlotLaws.{slots_length, slot_at_is}
use Rattle.bitcask.proofs.keydir.HalveLaws.{among-at}
use Rattle.bitcask.proofs.keydir.TableLaws.{laid-length, table-laid}
use Rattle.bitcask.specs.merging.Merge.{look, is_gone, Merges, merged}
use Rattle.bitcask.specs.merging.Passes.{Flushes}
use Rattle.bitcask.proofs.merging.MergeLaws.{merges-is}
use Rattle.bitcask.specs.declared.recovery.waiting.Held.{Held}
use Rattle.bitcask.specs.recovery.Waiting.{waits_gone, Holds, Settles}
use Rattle.bitcask.proofs.recovery.EnterLaws.{becomes_slots}

-- ---- the changes brought in

-- nothing waits
pub merges_alone : (log : List ℕ) (r : List Slot) (pd : List ℕ) → Sorted log r → Merges log (slots_of 0 pd) r r
unfolding slots_of look
merges_alone log r pd s = record { waiting = sorted_none; table = s; sorted = s; looks = λ k. refl }

pub settles : (log t pd : List ℕ) (h : Held) {n : ℕ} {t' : List ℕ} → slot_words * h.count ≤ length t → Flushes log t h.count (slots_of h.waiting pd) n t'
    → Settles log t pd h (record { count = n; waiting = 0; live = h.live }) t'
settles log t pd h {n} {t'} tr v = record { within = v.within; exact = exactly }
  where
    exactly : (r : List Slot) → Holds log t pd h r → Holds log t' pd (record { count = n; waiting = 0; live = h.live }) r
    exactly r w =
        let ss : List Slot = slots_of h.count t in
        let e : merged log (slots_of h.waiting pd) ss ≡ r = merges-is log w.merges in
        let le : length (merged log (slots_of h.waiting pd) ss) ≤ length t / slot_words = omega (arith, ap length e, w.fits) in
        let b : Becomes t h.count r t' n = subst (λ (x : List Slot). Becomes t h.count x t' n) e (v.exact w.merges.table w.merges.waiting le) in
        let k : slot_words * length r ≤ length t = omega (arith, w.fits) in
        let lt : length t' ≡ length t = ap length b.words ∙ laid-length h.count r t tr k in
        let sl : slots_of n t' ≡ r = becomes_slots b in
        let z : length ss ≡ h.count = slots_length h.count t in
        let x : t' ≡ table_of (length t) r = b.words ∙ ap (λ (i : ℕ). laid i r t) (sym z) ∙ ap (laid (length ss) r) w.words ∙ table-laid (length t) ss r (omega arith) k in
        record {
          words = x ∙ ap (λ (i : ℕ). table_of i r) (sym lt) ∙ ap (table_of (length t')) (sym sl);
          merges = rw sl (merges_alone log r pd w.merges.sorted);
          counted = w.counted;
          fits = rw lt w.fits;
        }

-- ---- small tests

module _ (pd : List ℕ) (n : ℕ) (f : Result ℕ ℕ) (i : ℕ) where
  pub waits_at : {b : Bool} {s : Slot} → Among n f → f ≡ Ok i → s ≡ slot_at pd i → b ≡ is_gone s → b ≡ waits_gone (slots_of n pd) f
  waits_at a e es eb = eb ∙ ap is_gone (es ∙ slot_at_is n pd i (among-at n f i a e)) ∙ ap (waits_gone (slots_of n pd)) (sym e)

  pub waits_before : f ≡ Err i → false ≡ waits_gone (slots_of n pd) f
  waits_before e = ap (waits_gone (slots_of n pd)) (sym e)

pub stays : (log t pd : List ℕ) (h : Held) → slot_words * h.count ≤ length t → Settles log t pd h h t
stays log t pd h p = record { within = p; exact = λ r w. w }

pub key-place : (log : List ℕ) (s : Slot) (xs : List Slot) {key : List ℕ} {f g : Result ℕ ℕ} → key ≡ key_of log s → f ≡ place_of log key xs → f ≡ g → g ≡ place_of log (key_of log s) xs
key-place log s xs ek ef e = sym e ∙ ef ∙ ap (λ (k : List ℕ). place_of log k xs) ek
