-- A write's search looks at the highest stored version alone, and that is enough: it is hidden exactly where another transaction clashes.
-- Assumes nothing.
use Prim.Native.Nat.{ℕ, suc, ◌≤◌, ◌<◌}
use native.Mathlib.Omega.{arith}
use mathlib.Core.Path.{◌≡◌, refl, sym, ◌∙◌}
use mathlib.Core.Bool.{Bool, true, false}
use mathlib.Core.Logic.{◌≢◌, inl, inr, by_cases}
use Rattle.std.specs.Prelude.{Option, None}
use mathlib.Core.List.{List}
use native.Mathlib.Decide.{ℕ_discrete, dec_lt}
use Rattle.isolation.specs.history.History.{Key, Bytes}
use Rattle.isolation.specs.history.History.{History, Status, unborn, opened, done, rolled, status, past, is_in, Clash, Late, keep, up_to}
use Rattle.isolation.proofs.history.Standing.{begins, Good, stored, Hidden, from, Peak, flat, peak_at}
use mathlib.Core.Bool.{not, ◌&&◌}
use lib.Dec.{leb}
use borrow.Author.Tests.{le-leb, lt-leb}
use Rattle.isolation.proofs.history.FactLaws.{nope, outside, good-after, ended-stays, born, within, start}
use Rattle.isolation.proofs.history.StoredLaws.{Alive, alive_open, alive_done, alive, apart}
use Rattle.isolation.proofs.history.ViewLaws.{Given, past-past}

keep_some : (b : Bool) (y : Option (Option Bytes)) → keep b y ≢ None → (b ≡ true) × (y ≢ None)
keep_some true y n = (refl, n)
keep_some false y n = absurd (n refl)

pub peak_congr : {f f' : ℕ → Option (Option Bytes)} {r : Option ℕ} → ((x : ℕ) → f' x ≡ f x) → Peak f r → Peak f' r
peak_congr q (flat n e) = flat (λ x. q x ∙ n x) e
peak_congr q (peak_at x e n a) = peak_at x e (λ z. n (sym (q x) ∙ z)) (λ y l. q y ∙ a y l)

drop : (b : Bool) → not b && false ≡ false
drop true = refl
drop false = refl

module _ {H : History} (g : Good H) (t : ℕ) (S : List ℕ) (k : Key) (own : status H t ≢ unborn) (w : Given (past H t) t S) (lo : ℕ) (reach : lo ≤ suc t) (low : (x : ℕ) → is_in x S ≡ true → lo ≤ x) where
  g1 : Good (past H t)
  g1 = good-after (start g t own).after g

  -- what a clash's other transaction has stored, and where
  clash_stored : (c : Clash H t k) → stored H k c.other ≢ None
  clash_stored c = go c.late
    where
      go : Late H t c.other → stored H k c.other ≢ None
      go (inl o) i = c.writes (rw o at i)
      go (inr d) i = c.writes (rw d.0 at i)

  -- below t it was open when t began
  clash_low : (c : Clash H t k) → c.other < t → is_in c.other S ≡ true
  clash_low c l = go (status (past H t) x) refl
    where
      x : ℕ
      x = c.other

      go : (s : Status) → status (past H t) x ≡ s → is_in x S ≡ true
      go unborn e = by_cases (ℕ_discrete x 0) (λ z. absurd (clash_stored c (rw (outside g x (inl z))))) (λ n. absurd (born g1 x (omega arith) (omega (arith, w.number)) e))
      go opened e = w.set x ∙ rw e
      go done e = absurd (not_late c.late)
        where
          not_late : Late H t x → ⊥
          not_late (inl o) = nope (cc (ended-stays (start g t own).after g x (rw e)))
          not_late (inr d) = d.1 e
      go rolled e = absurd (clash_stored c (rw (ended-stays (start g t own).after g x (rw e), e)))

  -- so the search reaches it, and it is not visible
  clash_reached : (c : Clash H t k) → lo ≤ c.other
  clash_reached c = by_cases (dec_lt c.other t) (λ l. low c.other (clash_low c l)) (λ n. let d = c.differs in omega arith)

  clash_hidden : (c : Clash H t k) → up_to t S c.other ≡ false
  clash_hidden c = by_cases (dec_lt c.other t) (λ l. rw (clash_low c l)) (λ n. let d = c.differs in far (omega arith))
    where
      far : t < c.other → up_to t S c.other ≡ false
      far l = rw (lt-leb c.other t l) (drop (is_in c.other S))

  -- a conflict by the history is found
  pub met : Clash H t k → (r : Option ℕ) → Peak (from lo (stored H k)) r → Hidden t S r
  met c r (flat n e) = absurd (clash_stored c (rw (le-leb lo c.other (clash_reached c)) at (n c.other)))
  met c r (peak_at y e n above) = rw e (by_cases (ℕ_discrete y x) here there)
    where
      x : ℕ
      x = c.other

      here : y ≡ x → up_to t S y ≡ false
      here p = rw p (clash_hidden c)

      there : y ≢ x → up_to t S y ≡ false
      there p = by_cases (dec_lt t y) high (λ l. absurd (not_early (early_t (ℕ_discrete y t) l) c.late))
        where
          lower : x < y
          lower = by_cases (dec_lt x y) (λ l. l) (λ l. absurd (clash_stored c (rw (le-leb lo x (clash_reached c)) at (above x (omega arith)))))

          early : status (past H y) x ≡ done
          early = apart g k x y lower (clash_stored c) (keep_some (leb lo y) (stored H k y) n).1

          early_t : Dec (y ≡ t) → ¬ (t < y) → status (past H t) x ≡ done
          early_t (yes q) l = rw q at early
          early_t (no q) l = ended-stays (past-past g y t (omega arith) (λ u. (keep_some (leb lo y) (stored H k y) n).1 (rw u)) own) g1 x (rw early) ∙ early

          not_early : status (past H t) x ≡ done → Late H t x → ⊥
          not_early i (inl o) = nope (cc (ended-stays (start g t own).after g x (rw i)))
          not_early i (inr d) = d.1 i

          high : t < y → up_to t S y ≡ false
          high l = rw (lt-leb y t l) (drop (is_in y S))

  -- and what is found is a conflict
  pub meant : (r : Option ℕ) → Peak (from lo (stored H k)) r → Hidden t S r → Clash H t k
  meant r (flat n e) h = absurd (rw e at h)
  meant r (peak_at y e n above) h = go (alive k y (keep_some (leb lo y) (stored H k y) n).1)
    where
      hid : up_to t S y ≡ false
      hid = rw e at h

      differs : y ≢ t
      differs p = nope (cc (sees_own, hid))
        where
          sees_own : up_to t S y ≡ true
          sees_own = rw (p, w.set t, outside g1 t (inr (omega (arith, w.number))), le-leb t t (omega arith))

      before : status (past H t) y ≢ done
      before d = nope (cc (sees_it (within g1 y (λ u. nope (cc))), hid))
        where
          sees_it : (0 < y) × (y ≤ begins (past H t)) → up_to t S y ≡ true
          sees_it z = rw (w.set y, d, le-leb y t (omega (arith, w.number)))

      go : Alive H k y → Clash H t k
      go (alive_open o i) = record { other = y; differs = differs; writes = i; late = inl o }
      go (alive_done o i) = record { other = y; differs = differs; writes = i; late = inr (o, before) }
