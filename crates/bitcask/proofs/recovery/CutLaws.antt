-- Laws of a log cut at an offset: its entries are then those that end there or before. Assumes nothing.
use Prim.Native.Nat.{ℕ, ◌+◌, ◌≤◌, ◌<◌}
use mathlib.Core.Path.{◌≡◌, refl, sym, ap, ◌∙◌, subst}
use mathlib.Core.Bool.{true, false}
use Rattle.std.specs.Prelude.{Option, None, Some}
use mathlib.Core.List.{List, [], ◌∷◌}
use native.Mathlib.Decide.{dec_lt}
use native.Mathlib.Omega.{arith}
use borrow.Author.Tests.{le-leb, lt-leb}
use Rattle.keycode.proofs.Basics.{nope}
use Rattle.bitcask.specs.declared.entry.read.Lengths.{Lengths}
use Rattle.bitcask.specs.declared.entry.read.Lengths.TheVariants.{Set, Del}
use Rattle.bitcask.specs.entry.Reading.{entry_at, size_read, head_at}
use Rattle.bitcask.proofs.entry.ReadingLaws.{entry-says, entry_whole}
use Rattle.bitcask.specs.recovery.Recover.{Item, item_of, next, items, ends, ending_by, fold, recovered}
use Rattle.bitcask.proofs.recovery.ItemLaws.{item_stands, not_stop, item_again, items-stop, items-next, by_items, Chain, chain_none, chain_more, items_chain, chain_ends, chain_far}

ending-all : (n : ℕ) {used at : ℕ} {is : List Item} → Chain used at is → ends at is ≤ n → ending_by n is ≡ is
unfolding ending_by ends
ending-all n chain_none h = refl
ending-all n (chain_more {i = i} r c) h = rw (le-leb (next i) n (omega (arith, chain_far c)), ending-all n c h)

ending-none : (n : ℕ) {used at : ℕ} {is : List Item} → Chain used at is → n < at → ending_by n is ≡ []
unfolding ending_by
ending-none n chain_none h = refl
ending-none n (chain_more {i = i} r c) h =
    let f = r.far in
    rw (lt-leb (next i) n (omega arith)) (ending-none n c (omega arith))

item_size : (at : ℕ) (r : Option Lengths) (i : Item) → item_of r at ≡ Some i → next i ≡ at + size_read r
item_size at (Some (Set k v)) i e =
    let p : record { slot = record { place = at + 1; klen = k; vlen = v }; gone = false } ≡ i = cc in
    subst (λ (x : Item). next x ≡ at + (8 + k + v)) p (omega arith)
item_size at (Some (Del k)) i e =
    let p : record { slot = record { place = at + 1; klen = k; vlen = 0 }; gone = true } ≡ i = cc in
    subst (λ (x : Item). next x ≡ at + (8 + k)) p (omega arith)
item_size at None i e = nope (cc)

module _ (log : List ℕ) (n used : ℕ) (fewer : n ≤ used) where
  -- an entry that ends by n is read there too
  item_kept : (at : ℕ) (i : Item) → item_of (entry_at log used at) at ≡ Some i → next i ≤ n → item_of (entry_at log n at) at ≡ Some i
  item_kept at i e h =
      let w = entry-says log used at refl (not_stop at (entry_at log used at) i e) in
      let s : size_read (entry_at log used at) ≡ size_read (head_at log at) = ap size_read w.0 in
      let m = item_size at (entry_at log used at) i e in
      ap (λ (r : Option Lengths). item_of r at) (entry_whole log n at (omega arith) ∙ sym w.0) ∙ e

  -- and one that does not is not
  item_cut : (at : ℕ) → ((i : Item) → item_of (entry_at log used at) at ≡ Some i → n < next i) → item_of (entry_at log n at) at ≡ None
  item_cut at h = go (item_of (entry_at log n at) at) refl
    where
      go : (o : Option Item) → item_of (entry_at log n at) at ≡ o → o ≡ None
      go None e = refl
      go (Some i) e =
          let s = item_stands log n at i e in
          let f = h i (item_again log log n used refl fewer at i e) in absurd (omega arith)

  cut_next : (at : ℕ) (i : Item) → item_of (entry_at log used at) at ≡ Some i → items log n (next i) ≡ ending_by n (items log used (next i))
      → Dec (n < next i) → items log n at ≡ ending_by n (i ∷ items log used (next i))
  unfolding ending_by
  cut_next at i e ih (yes h) =
      rw (lt-leb (next i) n h, ending-none n (items_chain log used (next i)) h)
      (items-stop log n at (item_cut at (λ j f. let q : i ≡ j = cc in subst (λ (x : Item). n < next x) q h)))
  cut_next at i e ih (no h) =
      let l : next i ≤ n = omega arith in
      rw (le-leb (next i) n l) (items-next log n at i (item_kept at i e l) ∙ ap (λ (x : List Item). i ∷ x) ih)

  pub cut_items : (at : ℕ) → items log n at ≡ ending_by n (items log used at)
  unfolding ending_by
  cut_items at =
      by_items log used (λ (x : ℕ). items log n x ≡ ending_by n (items log used x))
      (λ x e. rw (items-stop log used x e) (items-stop log n x (item_cut x (λ i f. nope (cc)))))
      (λ x i e ih. rw (items-next log used x i e) (cut_next x i e ih (dec_lt n (next i)))) at

  pub cut_recovered : recovered log n ≡ fold log (ending_by n (items log used 0)) []
  unfolding recovered
  cut_recovered = ap (λ (is : List Item). fold log is []) (cut_items 0)

-- cut where its last whole entry ends, a log has the same entries
module _ (log : List ℕ) (used : ℕ) where
  pub end_within : ends 0 (items log used 0) ≤ used
  end_within = chain_ends (items_chain log used 0) (omega arith)

  pub end_items : items log (ends 0 (items log used 0)) 0 ≡ items log used 0
  end_items = cut_items log (ends 0 (items log used 0)) used end_within 0 ∙ ending-all (ends 0 (items log used 0)) (items_chain log used 0) (omega arith)

  pub end_recovered : recovered log (ends 0 (items log used 0)) ≡ recovered log used
  unfolding recovered
  end_recovered = ap (λ (is : List Item). fold log is []) end_items
