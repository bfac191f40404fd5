-- The walk over rows, by what the code has learnt of each. Assumes nothing.
use Prim.Native.Nat.{ℕ, suc, ◌+◌, ◌-◌, ◌<◌}
use mathlib.Core.Path.{◌≡◌, refl, sym, ap, ◌∙◌}
use mathlib.Core.Bool.{Bool, true}
use mathlib.Core.List.{List, [], ◌∷◌}
use native.Mathlib.Omega.{arith}
use lib.ListN.{length}
use Rattle.std.specs.Prelude.{Result, Option, Some, None}
use Rattle.bitcask.specs.declared.answers.KeyValue.{KeyValue}
use Rattle.keycode.specs.declared.refusal.Refusal.{Refusal}
use Rattle.std.specs.declared.cmp.Ordering.{Ordering}
use Rattle.std.specs.declared.cmp.Ordering.TheVariants.{Less, Equal, Greater}
use Rattle.std.specs.Ordering.{is_eq}
use Rattle.keycode.specs.Order.{compare_bytes}
use Rattle.keycode.specs.declared.parts.Part.{Part}
use Rattle.keycode.proofs.Basics.{nope}
use Rattle.bitcask.specs.declared.answers.Bound.{Bound}
use Rattle.bitcask.specs.declared.engine.spot.Spot.{Spot}
use Rattle.bitcask.specs.engine.Rows.{Row}
use Rattle.bitcask.specs.engine.Spots.{rank, row_at}
use Rattle.bitcask.specs.engine.Walks.{near_rank, from_in}
use Rattle.mvcc.specs.declared.handle.Handle.{Handle}
use Rattle.mvcc.specs.declared.version.Record.{Record}
use Rattle.mvcc.specs.version.Seen.{record_row}
use Rattle.mvcc.specs.declared.walk.Walk.{Walk}
use Rattle.mvcc.specs.declared.walk.Walk.TheVariants.{Start, Within, Broken, Over}
use Rattle.mvcc.specs.walk.Walks.{is_equal, part_of, same_string, next_walk, ended_by, is_over, up_from, walk_rows, step_rows}
use Rattle.mvcc.proofs.walk.UpLaws.{up_over, up_on}

-- ---- one record more

equal_told : (o : Ordering) → is_eq o ≡ is_equal o
equal_told Less = refl
equal_told Equal = refl
equal_told Greater = refl

pub same_by : (log : List ℕ) (a b : Part) {x y : List ℕ} {o : Ordering} → x ≡ part_of log a → y ≡ part_of log b → o ≡ compare_bytes x y → is_eq o ≡ same_string log a b
unfolding same_string
same_by log a b {o = o} ex ey eo = equal_told o ∙ ap is_equal eo ∙ rw (ex, ey)

-- ---- the walk up

-- the rows from number n on are still to be looked at
pub record Walking (h : Handle) (log : List ℕ) (upper : Bound) (high : List ℕ) (rs : List Row) (from : ℕ) (w : Walk) (n : ℕ) : Type 0 where
  pub same : walk_rows h log Start (up_from upper high rs from) ≡ walk_rows h log w (up_from upper high rs n)

over-stays : (h : Handle) (log : List ℕ) (w : Walk) (rs : List Row) → is_over w ≡ true → walk_rows h log w rs ≡ w
unfolding walk_rows
over-stays h log w [] e = refl
over-stays h log Start (r ∷ rs) e = nope (cc)
over-stays h log (Within g) (r ∷ rs) e = nope (cc)
over-stays h log (Broken p) (r ∷ rs) e = nope (cc)
over-stays h log (Over a) (r ∷ rs) e = over-stays h log (Over a) rs refl

module _ {h : Handle} {log : List ℕ} {upper : Bound} {high : List ℕ} {rs : List Row} {from : ℕ} {w : Walk} {n : ℕ} (g : Walking h log upper high rs from w n) {r : Option Spot}
    (says : near_rank r rs ≡ from_in upper high rs n) where
  pub walk_end : r ≡ None → {a : Result KeyValue Refusal} → a ≡ ended_by w → a ≡ step_rows h log (up_from upper high rs from)
  unfolding walk_rows step_rows
  walk_end e ea = ea ∙ sym (ap ended_by (g.same ∙ ap (walk_rows h log w) (up_over upper high rs n r says e)))

  module _ (p : Spot) (e : r ≡ Some p) where
    pub walk_stands : rank p rs < length rs
    walk_stands = let l = (up_on upper high rs n r says p e).1 in omega (arith, (up_on upper high rs n r says p e).0)

    pub walk_less : (m : ℕ) → m ≡ rank p rs + 1 → length rs - m < length rs - n
    walk_less m q = let l = (up_on upper high rs n r says p e).1 in omega (arith, q, (up_on upper high rs n r says p e).0)

    module _ {x : Option Record} {w' : Walk} (ex : x ≡ record_row h (row_at p rs)) (ew : w' ≡ next_walk log w x) where
      step_on_lem : walk_rows h log Start (up_from upper high rs from) ≡ walk_rows h log w' (up_from upper high rs (suc n))
      unfolding walk_rows
      step_on_lem =
          g.same ∙ ap (walk_rows h log w) (up_on upper high rs n r says p e).2
          ∙ ap (λ (y : Walk). walk_rows h log y (up_from upper high rs (suc n))) (sym (ew ∙ ap (next_walk log w) ex))

      pub walk_over : {b : Bool} → b ≡ is_over w' → b ≡ true → {a : Result KeyValue Refusal} → a ≡ ended_by w' → a ≡ step_rows h log (up_from upper high rs from)
      unfolding step_rows
      walk_over eb t ea = ea ∙ sym (ap ended_by (step_on_lem ∙ over-stays h log w' (up_from upper high rs (suc n)) (sym eb ∙ t)))

      pub walk_more : (m : ℕ) → m ≡ rank p rs + 1 → Walking h log upper high rs from w' m
      walk_more m q =
          let k : suc n ≡ m = omega (arith, q, (up_on upper high rs n r says p e).0) in
          record { same = step_on_lem ∙ ap (λ (i : ℕ). walk_rows h log w' (up_from upper high rs i)) k }
