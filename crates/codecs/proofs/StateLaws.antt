-- What the code of the UTF-8 test knows at each of its ways out. Assumes nothing.
use Prim.Native.Nat.{ℕ, ◌≤◌, ◌<◌}
use mathlib.Core.Path.{◌≡◌, refl, sym}
use mathlib.Core.Bool.{Bool, true, false}
use mathlib.Core.List.{List, [], ◌∷◌}
use native.Mathlib.Decide.{dec_le}
use native.Mathlib.Omega.{arith}
use lib.Dec.{leb}
use lib.ListN.{drop}
use borrow.Author.Tests.{lt-leb}
use Rattle.keycode.specs.Tests.{pick}
use Rattle.codecs.specs.declared.utf8.State.{State}
use Rattle.codecs.specs.Utf8.{Span, span, tail, table, here, there, Awaited, await, never, within, begun, fed}
use Rattle.codecs.specs.States.{awaited_by}
use Rattle.codecs.proofs.Utf8Laws.{row_begun, table-rises, Over}

-- ---- the first byte of a sequence

-- no row begins with a byte that is below the first of each
begun_under : (x : ℕ) (rows : List (List Span)) → Over x rows → begun rows x ≡ never
unfolding begun
begun_under x [] o = refl
begun_under x ([] ∷ rows) o = begun_under x rows o
begun_under x ((r ∷ rs) ∷ rows) o = rw (under r o.0) (begun_under x rows o.1)
  where
    either : (t : Bool) → pick t false false ≡ false
    either true = refl
    either false = refl

    under : (r : Span) → x < r.low → within r x ≡ false
    under r h = rw (lt-leb r.low x h) (either (leb x r.high))

module _ (x : ℕ) where
  pub begin_ascii : x ≤ 127 → await [] ≡ begun table x
  begin_ascii h = sym (row_begun (span 0 127) [] x here table-rises (omega arith) h)

  pub begin_stray : 127 < x → x < 194 → never ≡ begun table x
  unfolding begun
  begin_stray h g = sym (rw (lt-leb x 127 h) (begun_under x (drop 1 table) (omega arith, (omega arith, (omega arith, (omega arith, (omega arith, (omega arith, (omega arith, (omega arith, tt))))))))))

  pub begin_two : 194 ≤ x → x ≤ 223 → await (tail ∷ []) ≡ begun table x
  begin_two h g = sym (row_begun (span 194 223) (tail ∷ []) x (there here) table-rises h g)

  pub begin_e0 : x ≡ 224 → await (span 160 191 ∷ tail ∷ []) ≡ begun table x
  begin_e0 e = sym (row_begun (span 224 224) (span 160 191 ∷ tail ∷ []) x (there (there here)) table-rises (omega arith) (omega arith))

  -- two rows: between E0 and ED, and behind ED
  pub begin_three : 225 ≤ x → x ≤ 239 → (x ≡ 237 → ⊥) → await (tail ∷ tail ∷ []) ≡ begun table x
  begin_three h g n = go (dec_le x 236)
    where
      go : Dec (x ≤ 236) → await (tail ∷ tail ∷ []) ≡ begun table x
      go (yes l) = sym (row_begun (span 225 236) (tail ∷ tail ∷ []) x (there (there (there here))) table-rises (omega arith) l)
      go (no l) = sym (row_begun (span 238 239) (tail ∷ tail ∷ []) x (there (there (there (there (there here))))) table-rises (omega (arith, l, n)) g)

  pub begin_ed : x ≡ 237 → await (span 128 159 ∷ tail ∷ []) ≡ begun table x
  begin_ed e = sym (row_begun (span 237 237) (span 128 159 ∷ tail ∷ []) x (there (there (there (there here)))) table-rises (omega arith) (omega arith))

  pub begin_f0 : x ≡ 240 → await (span 144 191 ∷ tail ∷ tail ∷ []) ≡ begun table x
  begin_f0 e = sym (row_begun (span 240 240) (span 144 191 ∷ tail ∷ tail ∷ []) x (there (there (there (there (there (there here)))))) table-rises (omega arith) (omega arith))

  pub begin_four : 240 < x → x ≤ 243 → await (tail ∷ tail ∷ tail ∷ []) ≡ begun table x
  begin_four h g = sym (row_begun (span 241 243) (tail ∷ tail ∷ tail ∷ []) x (there (there (there (there (there (there (there here))))))) table-rises (omega arith) g)

  pub begin_f4 : x ≡ 244 → await (span 128 143 ∷ tail ∷ tail ∷ []) ≡ begun table x
  begin_f4 e = sym (row_begun (span 244 244) (span 128 143 ∷ tail ∷ tail ∷ []) x (there (there (there (there (there (there (there (there here)))))))) table-rises (omega arith) (omega arith))

  pub begin_over : 244 < x → never ≡ begun table x
  unfolding begun
  begin_over h = sym (rw (
    lt-leb x 127 (omega arith),
    lt-leb x 223 (omega arith),
    lt-leb x 224 (omega arith),
    lt-leb x 236 (omega arith),
    lt-leb x 237 (omega arith),
    lt-leb x 239 (omega arith),
    lt-leb x 240 (omega arith),
    lt-leb x 243 (omega arith),
    lt-leb x 244 (omega arith),
  ))

-- ---- a byte more

-- by the state that the code has matched
pub feed_as : (s k : State) (b : ℕ) (a : Awaited) → s ≡ k → a ≡ fed (awaited_by k) b → a ≡ fed (awaited_by s) b
feed_as s k b a e f = rw e f
