-- What the steps of a walk answer, for any table. Assumes nothing.
use Prim.Native.Nat.{ℕ, zero, suc, ◌+◌, ◌≤◌, ◌<◌}
use mathlib.Core.Path.{◌≡◌, refl, sym, ap, ◌∙◌}
use mathlib.Core.Bool.{Bool, true, false}
use mathlib.Core.List.{List, [], ◌∷◌, ◌++◌}
use native.Mathlib.Omega.{arith}
use native.Mathlib.Numerals.{add-one}
use lib.ListN.{length, get_or}
use borrow.Author.Tests.{lt-ltb, le-ltb}
use Rattle.std.specs.Prelude.{Option, None, Some}
use Rattle.std.specs.declared.cmp.Ordering.{Ordering}
use Rattle.keycode.specs.Tests.{pick}
use Rattle.keycode.proofs.Basics.{nope}
use Rattle.std.specs.declared.cmp.Ordering.TheVariants.{Less, Equal, Greater}
use Rattle.keycode.specs.Order.{compare_bytes}
use Rattle.keycode.proofs.OrderLaws.{flip, compare_flip}
use Rattle.bitcask.specs.declared.answers.Bound.{Bound}
use Rattle.bitcask.specs.declared.answers.Bound.TheVariants.{Included, Excluded, Unbounded}
use Rattle.bitcask.specs.read.Ranks.{admits_low, admits_high}
use Rattle.bitcask.specs.declared.engine.mark.Mark.{Mark}
use Rattle.bitcask.specs.declared.engine.spot.Spot.{Spot}
use Rattle.bitcask.specs.engine.Rows.{Row, blank, rows}
use Rattle.bitcask.specs.engine.Spots.{rank, row_at, order_in}
use Rattle.bitcask.specs.engine.Walks.{near_rank, before_in, from_in, down_from}
use Rattle.bitcask.proofs.engine.RowLaws.{rows-count}

before_some : (lower : Bound) (low : List ℕ) (rs : List Row) (n i : ℕ) → i + 1 ≡ n → before_in lower low rs n ≡ pick (admits_low lower (order_in low rs i)) (Some i) None
unfolding before_in
before_some lower low rs n i e = rw (← e, add-one i)

-- an upper bound admits a key as a lower one does by the order the other way round
turned : (b : Bound) (o : Ordering) → admits_low b (flip o) ≡ admits_high b o
turned Included Less = refl
turned Included Equal = refl
turned Included Greater = refl
turned Excluded Less = refl
turned Excluded Equal = refl
turned Excluded Greater = refl
turned Unbounded o = refl

module _ (log t : List ℕ) (m : Mark) (p : Spot) where
  module _ (lower : Bound) (low : List ℕ) where
    pub before-none : p.number ≡ 0 → None ≡ before_in lower low (rows log t m) (rank p (rows log t m))
    unfolding rank before_in
    before-none e = rw e

    pub before_some_at : (p.number ≡ 0 → ⊥) → 0 < rank p (rows log t m)
    unfolding rank
    before_some_at h = omega arith

    module _ (q : Spot) (eq : rank q (rows log t m) + 1 ≡ rank p (rows log t m)) where
      pub before-within : rank p (rows log t m) ≤ length (rows log t m) → rank q (rows log t m) < length (rows log t m)
      before-within k = omega arith

      module _ {k : List ℕ} (ek : k ≡ (row_at q (rows log t m)).key) {o : Ordering} (eo : o ≡ compare_bytes k low) {b : Bool} (eb : b ≡ admits_low lower o) where
        here : before_in lower low (rows log t m) (rank p (rows log t m)) ≡ pick b (Some (rank q (rows log t m))) None
        unfolding row_at order_in
        here = before_some lower low (rows log t m) (rank p (rows log t m)) (rank q (rows log t m)) eq ∙ rw (eb, eo, ek)

        pub before_at_lem : b ≡ true → near_rank (Some q) (rows log t m) ≡ before_in lower low (rows log t m) (rank p (rows log t m))
        before_at_lem e = sym (here ∙ rw e)

        pub before-past : b ≡ false → None ≡ before_in lower low (rows log t m) (rank p (rows log t m))
        before-past e = sym (here ∙ rw e)

  module _ (upper : Bound) (high : List ℕ) where
    pub from-none : m.count ≤ p.number → None ≡ from_in upper high (rows log t m) (rank p (rows log t m))
    unfolding rank from_in
    from-none h = rw (le-ltb p.number (length (rows log t m)) (omega (arith, rows-count log t m)))

    module _ (h : p.number < m.count) where
      pub from-within : rank p (rows log t m) < length (rows log t m)
      unfolding rank
      from-within = omega (arith, rows-count log t m)

      module _ {k : List ℕ} (ek : k ≡ (row_at p (rows log t m)).key) {o : Ordering} (eo : o ≡ compare_bytes high k) {b : Bool} (eb : b ≡ admits_low upper o) where
        there : from_in upper high (rows log t m) (rank p (rows log t m)) ≡ pick b (Some p.number) None
        unfolding rank row_at order_in from_in
        there =
            let e : b ≡ admits_high upper (compare_bytes k high) = eb ∙ rw (eo, compare_flip k high) (turned upper (compare_bytes k high)) in
            rw (lt-ltb p.number (length (rows log t m)) (omega (arith, rows-count log t m)), e, ek)

        pub from_at : b ≡ true → near_rank (Some p) (rows log t m) ≡ from_in upper high (rows log t m) (rank p (rows log t m))
        unfolding rank
        from_at e = sym (there ∙ rw e)

        pub from_past : b ≡ false → None ≡ from_in upper high (rows log t m) (rank p (rows log t m))
        from_past e = sym (there ∙ rw e)

-- ---- what a walk down has still to meet, by its next row

module _ (lower : Bound) (low : List ℕ) (rs : List Row) where
  pub down_none : (n : ℕ) → None ≡ before_in lower low rs n → down_from lower low rs n ≡ []
  unfolding before_in down_from
  down_none zero e = refl
  down_none (suc i) e = go (admits_low lower (order_in low rs i)) e
    where
      go : (b : Bool) → None ≡ pick b (Some i) None → pick b (down_from lower low rs i ++ (get_or rs i blank ∷ [])) [] ≡ []
      go true q = nope (cc)
      go false q = refl

  pub down_some : (n i : ℕ) → Some i ≡ before_in lower low rs n → (n ≡ suc i) × (down_from lower low rs n ≡ down_from lower low rs i ++ (get_or rs i blank ∷ []))
  unfolding before_in down_from
  down_some zero i e = nope (cc)
  down_some (suc j) i e = go (admits_low lower (order_in low rs j)) e
    where
      go : (b : Bool) → Some i ≡ pick b (Some j) None
          → (suc j ≡ suc i) × (pick b (down_from lower low rs j ++ (get_or rs j blank ∷ [])) [] ≡ down_from lower low rs i ++ (get_or rs i blank ∷ []))
      go true q = let w : j ≡ i = cc in (ap suc w, ap (λ (k : ℕ). down_from lower low rs k ++ (get_or rs k blank ∷ [])) w)
      go false q = nope (cc)

-- the same of a spot that was answered: it stands, and comes just before
module _ (lower : Bound) (low : List ℕ) (rs : List Row) (n : ℕ) (r : Option Spot) (says : near_rank r rs ≡ before_in lower low rs n) where
  pub walk_over : r ≡ None → down_from lower low rs n ≡ []
  walk_over e = down_none lower low rs n (sym (ap (λ (x : Option Spot). near_rank x rs) e) ∙ says)

  pub walk_on : (p : Spot) → r ≡ Some p → (n ≡ suc (rank p rs)) × (down_from lower low rs n ≡ down_from lower low rs (rank p rs) ++ (row_at p rs ∷ []))
  unfolding row_at
  walk_on p e = down_some lower low rs n (rank p rs) (sym (ap (λ (x : Option Spot). near_rank x rs) e) ∙ says)
