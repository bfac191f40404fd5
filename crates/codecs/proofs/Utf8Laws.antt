-- The test of UTF-8 holds of a string exactly where the Unicode Standard's sentence does, and of two such strings one behind the other.
-- Assumes nothing.
use Prim.Native.Nat.{ℕ, ◌≤◌, ◌<◌}
use mathlib.Core.Path.{◌≡◌, refl, sym, ap, subst, ◌∙◌}
use mathlib.Core.Bool.{Bool, true, false}
use mathlib.Core.List.{List, [], ◌∷◌, ◌++◌}
use native.Mathlib.Omega.{arith}
use lib.Dec.{leb}
use borrow.Author.Tests.{le-leb, lt-leb, leb-true}
use borrow.Author.Rules.{rules}
use Rattle.keycode.specs.Tests.{pick}
use Rattle.codecs.specs.Utf8.{Span, table, Sequence, none, next, Among, here, there, WellFormed, empty, more, Awaited, await, never, within, begun, fed, fed_all, ended, well_formed}
use Rattle.keycode.proofs.Basics.{nope}

-- ---- a range

pub within_true : (r : Span) (x : ℕ) → r.low ≤ x → x ≤ r.high → within r x ≡ true
within_true r x h g = rw (le-leb x r.high g) (le-leb r.low x h)

pub within-over : (r : Span) (x : ℕ) → r.high < x → within r x ≡ false
within-over r x h = rw (lt-leb x r.high h)

within-says : (r : Span) (x : ℕ) → within r x ≡ true → (r.low ≤ x) × (x ≤ r.high)
within-says r x = go (leb x r.high) refl
  where
    go : (t : Bool) → leb x r.high ≡ t → pick t (leb r.low x) false ≡ true → (r.low ≤ x) × (x ≤ r.high)
    go true e p = (leb-true r.low x p, leb-true x r.high e)
    go false e p = nope (cc)

-- ---- the first ranges of the table's rows rise, so that a byte begins one row at most

-- every row begins above h
abbrev pub Over : ℕ → List (List Span) → Type 0
Over h [] = Unit {0}
Over h ([] ∷ rows) = Over h rows
Over h ((r ∷ rs) ∷ rows) = (h < r.low) × Over h rows

abbrev pub Rising : List (List Span) → Type 0
Rising [] = Unit {0}
Rising ([] ∷ rows) = Rising rows
Rising ((r ∷ rs) ∷ rows) = Over r.high rows × Rising rows

over-among : (h : ℕ) (r : Span) (rs : List Span) {rows : List (List Span)} → Among (r ∷ rs) rows → Over h rows → h < r.low
over-among h r rs (here {rows = rows}) o = o.0
over-among h r rs (there {other = []} {rows = rows} a) o = over-among h r rs a o
over-among h r rs (there {other = q ∷ qs} {rows = rows} a) o = over-among h r rs a o.1

-- the row that a byte begins
pub row_begun : (r : Span) (rs : List Span) (x : ℕ) {rows : List (List Span)} → Among (r ∷ rs) rows → Rising rows → r.low ≤ x → x ≤ r.high → begun rows x ≡ await rs
unfolding begun
row_begun r rs x (here {rows = rows}) u h g = rw (within_true r x h g)
row_begun r rs x (there {other = []} {rows = rows} a) u h g = row_begun r rs x a u h g
row_begun r rs x (there {other = q ∷ qs} {rows = rows} a) u h g =
    let o : q.high < r.low = over-among q.high r rs a u.0 in
    rw (within-over q x (omega arith)) (row_begun r rs x a u.1 h g)

-- a row that a byte begins: it stands among the rows, and the byte is in its first range
begun-says : (rows : List (List Span)) (x : ℕ) (rs : List Span) → begun rows x ≡ await rs → (r : Span) × Among (r ∷ rs) rows × (r.low ≤ x) × (x ≤ r.high)
unfolding begun
begun-says [] x rs e = nope (cc)
begun-says ([] ∷ rows) x rs e = let q = begun-says rows x rs e in (q.0, there q.1, q.2, q.3)
begun-says ((r ∷ qs) ∷ rows) x rs e = go (within r x) refl e (λ f. begun-says rows x rs f)
  where
    go : (t : Bool) → within r x ≡ t → pick t (await qs) (begun rows x) ≡ await rs → (begun rows x ≡ await rs → (q : Span) × Among (q ∷ rs) rows × (q.low ≤ x) × (x ≤ q.high))
        → (q : Span) × Among (q ∷ rs) ((r ∷ qs) ∷ rows) × (q.low ≤ x) × (x ≤ q.high)
    go true f p ih = let e : qs ≡ rs = cc in let w = within-says r x f in (r, subst (λ (z : List Span). Among (r ∷ z) ((r ∷ qs) ∷ rows)) e here, w.0, w.1)
    go false f p ih = let q = ih p in (q.0, there q.1, q.2, q.3)

pub table-rises : Rising table
table-rises = search rules

-- ---- the test goes on behind a string

pub fed-append : (a : Awaited) (s t : List ℕ) → fed_all a (s ++ t) ≡ fed_all (fed_all a s) t
unfolding fed_all
fed-append a [] t = refl
fed-append a (x ∷ s) t = fed-append (fed a x) s t

pub never-fed : (s : List ℕ) → fed_all never s ≡ never
unfolding fed_all fed
never-fed [] = refl
never-fed (x ∷ s) = never-fed s

ended-says : (a : Awaited) → ended a ≡ true → a ≡ await []
ended-says never e = nope (cc)
ended-says (await []) e = refl
ended-says (await (r ∷ rs)) e = nope (cc)

-- a string that is well-formed leaves nothing to come
formed_says : (s : List ℕ) → well_formed s ≡ true → fed_all (await []) s ≡ await []
unfolding well_formed
formed_says s e = ended-says (fed_all (await []) s) e

-- well-formed strings one behind the other are well-formed
pub formed_append : (s t : List ℕ) → well_formed s ≡ true → well_formed t ≡ true → well_formed (s ++ t) ≡ true
unfolding well_formed
formed_append s t h g = go (formed_says s h)
  where
    go : fed_all (await []) s ≡ await [] → well_formed (s ++ t) ≡ true
    go e = ap ended (fed-append (await []) s t ∙ ap (λ (a : Awaited). fed_all a t) e) ∙ g

-- ---- the standard's sentence says it

-- the bytes that a sequence still wants
sequence_fed : {rs : List Span} {c : List ℕ} → Sequence rs c → fed_all (await rs) c ≡ await []
unfolding fed_all fed
sequence_fed none = refl
sequence_fed (next {r = r} {rs = rs} {x = x} {c = c} h g q) = rw (within_true r x h g) (sequence_fed q)

row_fed : {row : List Span} {c : List ℕ} → Among row table → Sequence row c → well_formed c ≡ true
unfolding well_formed fed_all fed
row_fed a none = refl
row_fed a (next {r = r} {rs = rs} {x = x} {c = c} h g q) = rw (row_begun r rs x a table-rises h g, sequence_fed q)

pub formed : {s : List ℕ} → WellFormed s → well_formed s ≡ true
formed empty = unfold well_formed fed_all in refl
formed (more {row = row} {c = c} {s = s} a q w) = formed_append c s (row_fed a q) (formed w)

-- ---- and nothing else

-- the bytes that a sequence still wants stand at the front, and a well-formed string behind them
pub record Split (rs : List Span) (s : List ℕ) : Type 0 where
  pub front : List ℕ
  pub back : List ℕ
  pub whole : s ≡ front ++ back
  pub wanted : Sequence rs front
  pub behind : WellFormed back

module _ (x : ℕ) (s : List ℕ) (ih : (rs : List Span) → ended (fed_all (await rs) s) ≡ true → Split rs s) where
  -- a byte that begins a sequence
  split-first : (a : Awaited) → begun table x ≡ a → ended (fed_all a s) ≡ true → Split [] (x ∷ s)
  split-first never f e = let z : false ≡ true = rw (never-fed s) at e in nope (cc)
  split-first (await rs) f e =
      let q = ih rs e in
      let b = begun-says table x rs f in
      record {
        front = [];
        back = x ∷ s;
        whole = refl;
        wanted = none;
        behind = subst (λ (t : List ℕ). WellFormed (x ∷ t)) (sym q.whole) (more b.1 (next b.2 b.3 q.wanted) q.behind);
      }

  -- a byte inside one
  split-next : (r : Span) (rs : List Span) (t : Bool) → within r x ≡ t → ended (fed_all (pick t (await rs) never) s) ≡ true → Split (r ∷ rs) (x ∷ s)
  split-next r rs false f e = let z : false ≡ true = rw (never-fed s) at e in nope (cc)
  split-next r rs true f e =
      let q = ih rs e in
      let w = within-says r x f in
      record {
        front = x ∷ q.front;
        back = q.back;
        whole = ap (λ (t : List ℕ). x ∷ t) q.whole;
        wanted = next w.0 w.1 q.wanted;
        behind = q.behind;
      }

split : (rs : List Span) (s : List ℕ) → ended (fed_all (await rs) s) ≡ true → Split rs s
unfolding fed_all fed
split [] [] e = record { front = []; back = []; whole = refl; wanted = none; behind = empty }
split (r ∷ rs) [] e = nope (cc)
split [] (x ∷ s) e = split-first x s (λ rs f. split rs s f) (begun table x) refl e
split (r ∷ rs) (x ∷ s) e = split-next x s (λ qs f. split qs s f) r rs (within r x) refl e

split-none : (s : List ℕ) → Split [] s → WellFormed s
split-none s p = go p.wanted refl p.whole
  where
    go : {rs : List Span} {c : List ℕ} → Sequence rs c → rs ≡ [] → s ≡ c ++ p.back → WellFormed s
    go none e w = subst WellFormed (sym w) p.behind
    go (next h g q) e w = nope (cc)

pub formed_only : (s : List ℕ) → well_formed s ≡ true → WellFormed s
unfolding well_formed
formed_only s e = split-none s (split [] s e)
